use Rattle.stretch_table.proofs.Held.{same_then}
use Rattle.stretch_table.proofs.Isolating.{room_below, within₁, room_above, within₂, isolated}
use Rattle.stretch_table.proofs.entries.Entries.isolate.Goals as goal

pub cut-at-requires : goal.cut-at-requires
cut-at-requires c =
    let f = c.find-i.ensures in
    record { within = f.within; more = room_below c.args.self.now c.requires.kept c.args.run c.find-i.result f.within f.from f.to }

pub cut-requires : goal.cut-requires
cut-requires c =
    let es = c.args.self.now in
    let es₁ = c.cut-at.new.self in
    let f = c.find-i.ensures in
    let l = c.cut-at.ensures in
    record {
      within = within₁ es c.requires.kept c.args.run c.find-i.result f.within f.from f.to es₁ c.cut-at.result l.value l.after l.same;
      more = room_above es c.requires.kept c.args.run c.find-i.result f.within f.from f.to es₁ c.cut-at.result l.value l.after l.same;
    }

pub returns : goal.returns
returns c =
    let es = c.args.self.now in
    let es₁ = c.cut-at.new.self in
    let es₂ = c.cut.new.self in
    let f = c.find-i.ensures in
    let l = c.cut-at.ensures in
    let h = c.cut.ensures in
    record {
      within = within₂ es c.requires.kept c.args.run c.find-i.result f.within f.from f.to es₁ c.cut-at.result l.value l.after l.same es₂ h.after h.same;
      after = isolated es c.requires.kept c.args.run c.find-i.result f.within f.from f.to es₁ c.cut-at.result l.value l.after l.same es₂ h.after h.same;
      same = same_then es es₁ es₂ l.same h.same;
    }
