use Rattle.clearness.proofs.Clearness.{clearer_answered, clearer_onward}
use Rattle.clearness.proofs.clearer_calls_answered.Goals as goal

pub returns : goal.returns
returns c = record { opening = clearer_answered; onward = clearer_onward }
