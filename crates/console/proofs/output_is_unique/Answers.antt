-- A cut is made in one way, a text read in one way, and a line spells at most one call.
use Rattle.console.proofs.Unique.{one_output}
use Rattle.console.proofs.output_is_unique.Goals as goal

pub returns : goal.returns
returns c = one_output
