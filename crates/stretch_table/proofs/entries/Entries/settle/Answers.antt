use Rattle.std.proofs.Common.{arith}
use Rattle.stretch_table.proofs.Held.{same_then}
use Rattle.stretch_table.proofs.Settling.{settled_first, settled}
use Rattle.stretch_table.proofs.entries.Entries.settle.Goals as goal

pub returns-then-at-eq0-clause-after : goal.returns-then-at-eq0-clause-after
returns-then-at-eq0-clause-after c =
    let es = c.args.self.now in
    let es₁ = c.set_record.new.self in
    let es₂ = c.join.new.self in
    λ rs run few s. settled_first es rs run c.args.at s few c.args.rec.now es₁ es₂ c.set_record.ensures.after c.join.ensures.after (same_then es es₁ es₂ c.set_record.ensures.same c.join.ensures.same) c.if-at-eq0.true

pub returns-clause-after : goal.returns-clause-after
returns-clause-after c =
    let es = c.args.self.now in
    let es₁ = c.set_record.new.self in
    let es₂ = c.join.new.self in
    let es₃ = c.join-2.new.self in
    let same = same_then es es₂ es₃ (same_then es es₁ es₂ c.set_record.ensures.same c.join.ensures.same) c.join-2.ensures.same in
    λ rs run few s. settled es rs run c.args.at s few c.args.rec.now es₁ es₂ c.set_record.ensures.after c.join.ensures.after es₃ same (omega arith) c.join-2.ensures.after
