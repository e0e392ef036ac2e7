use Rattle.lines.proofs.Writing.{stays, lead_none}
use Rattle.lines.proofs.table.Table.lead.Goals as goal

pub returns-in-Not-clause-lines : goal.returns-in-Not-clause-lines
returns-in-Not-clause-lines c = stays c.args.self.now.kept _ c.args.self.now.count c.args.self.now.room (lead_none c.args.op c.in-Not.is)
