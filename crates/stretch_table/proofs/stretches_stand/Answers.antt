use Rattle.stretch_table.proofs.Stretches.{stand, alone}
use Rattle.stretch_table.proofs.stretches_stand.Goals as goal

pub returns : goal.returns
returns c = record { stand = stand; alone = alone }
