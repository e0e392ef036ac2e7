use Rattle.std.proofs.Common.{vec_items, arith}
use Rattle.row_table.specs.Keeping.{count_is}
use Rattle.row_table.proofs.store.RowTableTable.drop_below.Goals as goal

pub drop_oldest-requires : goal.drop_oldest-requires
drop_oldest-requires c =
    let t = c.args.self.now in
    let n = count_is t.bounds (vec_items t.memory) t.kept in
    omega (arith, c.requires, t.kept.window, c.loop.invariant)
