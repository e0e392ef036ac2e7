-- Number, layer and place of what the program refuses. Assumes nothing.
use Rattle.refusals.specs.declared.refusal.Refusal.{Refusal}
use Rattle.refusals.specs.declared.refusal.Layer.TheVariants as layer
use Rattle.calls.specs.declared.fault.ProgramFault.{ProgramFault}
use Rattle.calls.specs.declared.fault.ProgramFault.TheVariants.{NoPolicy, NoCall}

abbrev pub refusal_of : ProgramFault → Refusal
refusal_of NoPolicy = record { number = 40; layer = layer.Program; place = 0 }
refusal_of (NoCall line) = record { number = 41; layer = layer.Program; place = line }
