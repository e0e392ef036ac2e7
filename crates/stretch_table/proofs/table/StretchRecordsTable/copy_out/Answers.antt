use Rattle.std.proofs.Common.{vec_items, sym, ◌∙◌}
use Rattle.stretch_table.proofs.Calls.{held_in}
use Rattle.stretch_table.proofs.Finding.{found_record}
use Rattle.stretch_table.proofs.table.StretchRecordsTable.copy_out.Goals as goal

pub find-i-requires-clause-held : goal.find-i-requires-clause-held
find-i-requires-clause-held c = let s = c.args.self.now in held_in s.entries s.kept c.args.run c.requires.held

pub returns : goal.returns
returns c =
    let s = c.args.self.now in
    let es = s.entries in
    let f = c.find-i.ensures in
    let held = held_in es s.kept c.args.run c.requires.held in
    record {
      after =
          c.copy_from_slice.ensures.after ∙ c.record.ensures.value
          ∙ sym (found_record es.bounds es.used (vec_items es.bytes) s.kept c.args.run held.0 held.1 c.find-i.result f.within f.from f.to);
    }
