-- Cutting and joining undo each other.
use Rattle.calls.proofs.LinesOf.{lines_law}
use Rattle.calls.proofs.walk.lines_are_exact.Goals as goal

pub returns : goal.returns
returns c = lines_law
