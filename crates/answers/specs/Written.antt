-- The bytes that an answer is printed as. Assumes nothing.
use Rattle.std.specs.Prelude.{ℕ, List, ◌++◌, codes, decimal}
use Rattle.refusals.specs.Written as refusals
use Rattle.answers.specs.declared.answer.Answer.{Answer}
use Rattle.answers.specs.declared.answer.Answer.TheVariants.{Policy, Run, Changed, Would, Closed, Verdict, Refused}

abbrev pub written : Answer → List ℕ
written (Policy atoms lines) = codes "policy atoms " ++ (decimal atoms ++ (codes " lines " ++ decimal lines))
written (Run run) = codes "run " ++ decimal run
written (Changed count verdict) = codes "changed " ++ (decimal count ++ (codes " verdict " ++ decimal verdict))
written (Would verdict) = codes "would " ++ decimal verdict
written (Closed run gone) = codes "closed " ++ (decimal run ++ (codes " gone " ++ decimal gone))
written (Verdict verdict) = codes "verdict " ++ decimal verdict
written (Refused refusal) = refusals.written refusal
