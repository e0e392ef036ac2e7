use Rattle.std.proofs.Common.{arith}
use Rattle.lines.proofs.Writing.{stays, middle_none}
use Rattle.lines.proofs.table.Table.middle.Goals as goal

pub returns-in-SL : goal.returns-in-SL
returns-in-SL c =
    let none = middle_none c.args.op c.args.last c.in-SL.is in
    record {
      value = omega (arith, none.1);
      count = omega (arith, none.1);
      lines = stays c.args.self.now.kept _ c.args.self.now.count c.args.self.now.room none.0;
    }
