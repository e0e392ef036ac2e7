-- All signs of a text, one after the other. Assumes nothing.
use Rattle.std.specs.Prelude.{ℕ, zero, suc, ◌-◌, List, length}
use Rattle.signs.specs.declared.sign.SignFault.{SignFault}
use Rattle.signs.specs.Signs.{Kind, mark, name, end, Found, found, fault, next_sign}

-- Signs with the places of their first bytes, up to the end of the text, with its place, or a fault.
pub data Signs : Type 0 where
  ends : ℕ → Signs
  wrong : SignFault → Signs
  sign : Kind → ℕ → Signs → Signs

-- what is found first, and then what comes from the place behind it on
abbrev pub then_signs : Found → (ℕ → Signs) → Signs
then_signs (fault e) rest = wrong e
then_signs (found (mark m) f e) rest = sign (mark m) f (rest e)
then_signs (found (name w) f e) rest = sign (name w) f (rest e)
then_signs (found end f e) rest = ends f

-- at most n signs from a place on
abbrev pub walk : ℕ → List ℕ → ℕ → Signs
walk zero text at = ends at
walk (suc n) text at = then_signs (next_sign text at) (walk n text)

-- each sign has a byte, so there are no more signs than bytes
abbrev pub signs_from : List ℕ → ℕ → Signs
signs_from text at = walk (suc (length text - at)) text at

abbrev pub signs_of : List ℕ → Signs
signs_of text = signs_from text 0
