-- The bytes that a policy text is printed as. Assumes nothing.
use Rattle.std.specs.Prelude.{ℕ, zero, suc, Bool, true, false, cond, List, [], ◌∷◌, ◌++◌, length, codes, decimal, Some, None, Option}
use Rattle.std.specs.List.{flat_map}
use Rattle.std.specs.Char.{encode_utf8}
use Rattle.refusals.specs.Written as refusals
use Rattle.signs.specs.declared.sign.Mark.TheVariants.{Semicolon}
use Rattle.signs.specs.Signs.{Kind, mark, name, end, Found, found, fault, next_sign}
use Rattle.lines.specs.declared.line.Line.{Line}
use Rattle.lines.specs.declared.line.Line.TheVariants.{Atom, No, Yes, Not, Or, YL, SL, YG, SG}
use Rattle.names.specs.Names.{lookup}
use Rattle.text.specs.Texts.{Text, policy, no_policy, meant, refusal_of}

abbrev pub row_written : Line → List ℕ
row_written (Atom i) = codes "a" ++ decimal i
row_written No = codes "no"
row_written Yes = codes "yes"
row_written (Not k) = codes "~" ++ decimal k
row_written (Or k l) = decimal k ++ (codes "|" ++ decimal l)
row_written (YL k) = codes "YL" ++ decimal k
row_written (SL k l) = decimal k ++ (codes "SL" ++ decimal l)
row_written (YG k) = codes "YG" ++ decimal k
row_written (SG k l) = decimal k ++ (codes "SG" ++ decimal l)

abbrev pub rows_written : List Line → List ℕ
rows_written ls = flat_map (λ l. codes " " ++ row_written l) ls

-- what ends the names
abbrev pub is_end : Kind → Bool
is_end (mark Semicolon) = true
is_end (mark m) = false
is_end (name w) = false
is_end end = false

abbrev pub named : Kind → List (List ℕ)
named (mark m) = []
named (name w) = w ∷ []
named end = []

-- the names among at most n signs from a place on, up to a semicolon or to what is no sign
abbrev pub from_sign : Found → (ℕ → List (List ℕ)) → List (List ℕ)
from_sign (found k f e) others = cond (is_end k) [] (named k ++ others e)
from_sign (fault e) others = []

abbrev pub declared : ℕ → List ℕ → ℕ → List (List ℕ)
declared zero text at = []
declared (suc n) text at = from_sign (next_sign text at) (declared n text)

-- each byte of a name as the character of its number
abbrev pub word_written : List ℕ → List ℕ
word_written w = flat_map encode_utf8 w

-- a name, and the number under which it is found
abbrev pub atom_written : List ℕ → Option ℕ → List ℕ
atom_written w (Some i) = word_written w ++ (codes "=" ++ decimal i)
atom_written w None = word_written w ++ codes " is not found"

abbrev pub atom_of : List (List ℕ) → List ℕ → List ℕ
atom_of ns w = codes " " ++ atom_written w (lookup ns w)

abbrev pub atoms_written : List ℕ → List (List ℕ) → List ℕ
atoms_written text ns = flat_map (atom_of ns) (declared (length text) text 0)

abbrev pub told : List ℕ → Text → List ℕ
told text (policy ns ls) = codes "policy atoms " ++ (decimal (length ns) ++ (codes ":" ++ (atoms_written text ns ++ (codes " lines " ++ (decimal (length ls) ++ (codes ":" ++ rows_written ls))))))
told text (no_policy e) = refusals.written (refusal_of e)

abbrev pub written : List ℕ → List ℕ
written text = told text (meant text)
