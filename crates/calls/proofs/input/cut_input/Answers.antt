-- The text is what stands before the stop, and the stop.
use Rattle.std.proofs.Common.{rules}
use Rattle.calls.proofs.Cuts.{stop_kept}
use Rattle.calls.proofs.input.cut_input.Goals as goal

pub returns : goal.returns
returns c = stop_kept _ _ _ c.if-input-gt-MOST_INPUT.false (search rules)
