use Rattle.std.proofs.Common.{length, sym, ◌∙◌}
use Rattle.std.proofs.lemmas.Slice.Eq.{slice_eq-Decides}
use Rattle.records.proofs.Bytes.{part_is}
use Rattle.records.proofs.has_truths.Goals as goal
use Rattle.std.proofs.lemmas.Bool.Decides.{Decides-eqb}

pub returns-in-len1-up : goal.returns-in-len1-up
returns-in-len1-up c =
    let d = slice_eq-Decides Decides-eqb _ _ _ c.eq.ensures in
    let part = part_is c.args.rec.now c.args.atoms (length c.args.truths.now) in
    record { value = (λ on. d.0 on ∙ part, λ same. d.1 (same ∙ sym part)) }
