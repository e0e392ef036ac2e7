use Rattle.std.proofs.Common.{refl, inl, inr}
use mathlib.Core.List.Forall₂
use Rattle.scales.specs.Scales.{with_unknown}
use Rattle.clearness.specs.Clearness.{ClearerCalls, both_start, both_report, both_preview, both_close, both_verdict, both_truth}
use Rattle.clearness.specs.Worked.{calls_first, calls_second}
use Rattle.clearness.proofs.worked_clearer_stands.Goals as goal

filled_in : ClearerCalls with_unknown calls_first calls_second
filled_in =
    Forall₂.cons (both_start (Forall₂.cons (inr refl) (Forall₂.cons (inl refl) Forall₂.nil)))
    (Forall₂.cons both_verdict
    (Forall₂.cons (both_start (Forall₂.cons (inl refl) (Forall₂.cons (inr refl) Forall₂.nil)))
    (Forall₂.cons both_verdict
    (Forall₂.cons both_truth
    (Forall₂.cons (both_start (Forall₂.cons (inr refl) (Forall₂.cons (inl refl) Forall₂.nil)))
    (Forall₂.cons (both_preview (Forall₂.cons (inl refl) (Forall₂.cons (inr refl) Forall₂.nil)))
    (Forall₂.cons (both_report (Forall₂.cons (inl refl) (Forall₂.cons (inr refl) Forall₂.nil)))
    (Forall₂.cons (both_report (Forall₂.cons (inl refl) (Forall₂.cons (inl refl) Forall₂.nil)))
    (Forall₂.cons (both_report (Forall₂.cons (inr refl) (Forall₂.cons (inl refl) Forall₂.nil)))
    (Forall₂.cons both_close
    (Forall₂.cons both_verdict Forall₂.nil)))))))))))

pub returns : goal.returns
returns c = (filled_in, refl, refl)
