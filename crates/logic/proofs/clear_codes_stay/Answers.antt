use Rattle.logic.proofs.Clear.{clear_stays, truths_are_codes}
use Rattle.logic.proofs.clear_codes_stay.Goals as goal

pub returns : goal.returns
returns c = record { clear = clear_stays; codes = truths_are_codes }
