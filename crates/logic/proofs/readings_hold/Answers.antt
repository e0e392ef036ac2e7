use Rattle.logic.proofs.Back.{local_readings, global_readings}
use Rattle.logic.proofs.readings_hold.Goals as goal

pub returns : goal.returns
returns c = record { local = local_readings; global = global_readings }
