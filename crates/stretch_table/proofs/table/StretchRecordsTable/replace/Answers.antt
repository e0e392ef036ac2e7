use Rattle.stretch_table.proofs.Calls.{held_in, replaced}
use Rattle.stretch_table.proofs.table.StretchRecordsTable.replace.Goals as goal

pub isolate-at-requires-clause-held : goal.isolate-at-requires-clause-held
isolate-at-requires-clause-held c = let s = c.args.self.now in held_in s.entries s.kept c.args.run c.requires.held

pub invariant_of-self : goal.invariant_of-self
invariant_of-self c =
    let s = c.args.self.now in
    let i = c.isolate-at.ensures in
    record { kept = (replaced s.entries s.kept c.args.run c.isolate-at.result c.args.rec.now c.isolate-at.new.self c.settle.new.self i.same c.settle.ensures.same i.after c.settle.ensures.after).kept }

pub returns-clause-after : goal.returns-clause-after
returns-clause-after c =
    let s = c.args.self.now in
    let i = c.isolate-at.ensures in
    (replaced s.entries s.kept c.args.run c.isolate-at.result c.args.rec.now c.isolate-at.new.self c.settle.new.self i.same c.settle.ensures.same i.after c.settle.ensures.after).means
