use Rattle.std.proofs.Common.{sym, refl, ◌∙◌, arith}
use lib.Dec.{eqb}
use lib.Pointwise.{pointwise}
use Rattle.std.proofs.lemmas.Bool.{not-true, not-false}
use Rattle.std.proofs.lemmas.Bool.Decides.{not_from_Decides, Decides-eqb}
use Rattle.std.proofs.lemmas.Slice.Eq.{slice_eq-Decides}
use Rattle.stretch_table.proofs.Joins.{join_last, join_other, join_same}
use Rattle.stretch_table.proofs.entries.Entries.join.Goals as goal

pub returns-then-i-self-clause-after : goal.returns-then-i-self-clause-after
returns-then-i-self-clause-after c = λ A B e is place few. join_last c.args.self.now c.args.i A e B is place c.if-i-self.true

pub returns-then-ne-clause-after : goal.returns-then-ne-clause-after
returns-then-ne-clause-after c =
    let a = c.record.result.now in
    let b = c.record-2.result.now in
    let same = pointwise eqb a b in
    let differ = not_from_Decides same (slice_eq-Decides Decides-eqb a b same refl) (not-true same (sym c.ne.ensures ∙ c.if-ne.true)) in
    λ A B e is place few. join_other c.args.self.now c.args.i A e B is place (λ k. differ (c.record.ensures.value ∙ k ∙ sym c.record-2.ensures.value))

pub returns-clause-after : goal.returns-clause-after
returns-clause-after c =
    let es = c.args.self.now in
    let a = c.record.result.now in
    let b = c.record-2.result.now in
    let same = pointwise eqb a b in
    let equal = (slice_eq-Decides Decides-eqb a b same refl).0 (not-false same (sym c.ne.ensures ∙ c.if-ne.false)) in
    λ A B e is place few.
    join_same es c.args.i A e c.set_runs.new.self c.remove.new.self c.first-first.result c.saturating_add-count.result B is place (omega (arith, c.requires))
    (sym c.record.ensures.value ∙ equal ∙ c.record-2.ensures.value) c.first-first.ensures.value
    (λ small. omega (arith, c.saturating_add-count.ensures, c.count.ensures.value, c.count-2.ensures.value)) few
    c.set_runs.ensures.after c.remove.ensures.after
