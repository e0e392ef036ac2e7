use Rattle.std.proofs.Common.{vec_items}
use Rattle.row_table.specs.Keeping.{bounds_are}
use Rattle.row_table.proofs.store.RowTableTable.bounds.Goals as goal

pub returns : goal.returns
returns c = let t = c.args.self.now in record { value = bounds_are t.bounds (vec_items t.memory) t.kept }
