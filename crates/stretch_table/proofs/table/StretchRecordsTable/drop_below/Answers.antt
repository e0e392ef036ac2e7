use Rattle.std.proofs.Common.{◌∙◌}
use Rattle.stretch_table.proofs.Calls.{held_in, dropped}
use Rattle.stretch_table.proofs.table.StretchRecordsTable.drop_below.Goals as goal

pub find-i-requires-clause-held : goal.find-i-requires-clause-held
find-i-requires-clause-held c = let s = c.args.self.now in held_in s.entries s.kept c.args.run c.requires.held

pub invariant_of-self-2 : goal.invariant_of-self-2
invariant_of-self-2 c =
    let s = c.args.self.now in
    let held = held_in s.entries s.kept c.args.run c.requires.held in
    let f = c.find-i.ensures in
    let a = c.set_runs.ensures in
    let b = c.remove.ensures in
    record {
      kept = (dropped s.entries s.kept c.args.run held.0 held.1 c.find-i.result c.first.result c.count-count.result c.set_runs.new.self c.remove.new.self f.within f.from f.to
          c.first.ensures.value c.count-count.ensures.value (b.same.0 ∙ a.same.0) (b.same.1 ∙ a.same.1) a.after b.after).kept;
    }

pub returns-clause-after : goal.returns-clause-after
returns-clause-after c =
    let s = c.args.self.now in
    let held = held_in s.entries s.kept c.args.run c.requires.held in
    let f = c.find-i.ensures in
    let a = c.set_runs.ensures in
    let b = c.remove.ensures in
    (dropped s.entries s.kept c.args.run held.0 held.1 c.find-i.result c.first.result c.count-count.result c.set_runs.new.self c.remove.new.self f.within f.from f.to
    c.first.ensures.value c.count-count.ensures.value (b.same.0 ∙ a.same.0) (b.same.1 ∙ a.same.1) a.after b.after).means
