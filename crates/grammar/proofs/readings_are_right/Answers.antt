use Rattle.grammar.proofs.Right.{reads_right, reads_only_right}
use Rattle.grammar.proofs.readings_are_right.Goals as goal

pub returns : goal.returns
returns c = record { right = reads_right; only = reads_only_right }
