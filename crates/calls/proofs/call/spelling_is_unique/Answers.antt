-- The letter and the cut at the blank tell calls apart.
use Rattle.calls.proofs.Spellings.{one_call}
use Rattle.calls.proofs.call.spelling_is_unique.Goals as goal

pub returns : goal.returns
returns c = one_call
