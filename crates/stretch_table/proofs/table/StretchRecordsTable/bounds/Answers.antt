use Rattle.std.proofs.Common.{vec_items}
use Rattle.stretch_table.specs.Records.{bounds_are}
use Rattle.stretch_table.proofs.table.StretchRecordsTable.bounds.Goals as goal

pub returns : goal.returns
returns c =
    let s = c.args.self.now in
    let es = s.entries in
    record { value = bounds_are es.bounds es.used (vec_items es.bytes) s.kept }
