-- Which form a line stands for, and when a table is one. Assumes nothing.
use Rattle.std.specs.Prelude.{ℕ, suc, ◌-◌, Bool, true, ◌&&◌, List, [], ◌∷◌, ◌++◌, length, nat_lt, slice_index_or}
use Rattle.lines.specs.declared.line.Prefix.TheVariants as single
use Rattle.lines.specs.declared.line.Infix.TheVariants as pair
use Rattle.lines.specs.declared.line.Line.{Line}
use Rattle.lines.specs.declared.line.Line.TheVariants.{Atom, No, Yes, Not, Or, YL, SL, YG, SG}
use Rattle.lines.specs.Forms.{Form, atom, no, yes, prefixed, joined}

-- the form of a line, by the forms of the lines above it
abbrev pub form_of : List Form → Line → Form
form_of above (Atom i) = atom i
form_of above No = no
form_of above Yes = yes
form_of above (Not i) = prefixed single.Not (slice_index_or above i no)
form_of above (Or i j) = joined pair.Or (slice_index_or above i no) (slice_index_or above j no)
form_of above (YL i) = prefixed single.YL (slice_index_or above i no)
form_of above (SL i j) = joined pair.SL (slice_index_or above i no) (slice_index_or above j no)
form_of above (YG i) = prefixed single.YG (slice_index_or above i no)
form_of above (SG i j) = joined pair.SG (slice_index_or above i no) (slice_index_or above j no)

-- the forms of the lines ls below lines with the forms `above`, with these
abbrev pub forms_below : List Form → List Line → List Form
forms_below above [] = above
forms_below above (l ∷ ls) = forms_below (above ++ (form_of above l ∷ [])) ls

-- the forms that the lines of a table stand for, in their order
abbrev pub forms : List Line → List Form
forms ls = forms_below [] ls

-- the rule is what the last line stands for
abbrev pub rule : List Line → Form
rule ls = slice_index_or (forms ls) (length ls - 1) no

-- line k names only declared atoms, of which there are n, and lines above it
abbrev pub fits : ℕ → ℕ → Line → Bool
fits n k (Atom i) = nat_lt i n
fits n k No = true
fits n k Yes = true
fits n k (Not i) = nat_lt i k
fits n k (Or i j) = nat_lt i k && nat_lt j k
fits n k (YL i) = nat_lt i k
fits n k (SL i j) = nat_lt i k && nat_lt j k
fits n k (YG i) = nat_lt i k
fits n k (SG i j) = nat_lt i k && nat_lt j k

-- the lines, of which the first is line k, fit
abbrev pub well_formed : ℕ → ℕ → List Line → Bool
well_formed n k [] = true
well_formed n k (l ∷ ls) = fits n k l && well_formed n (suc k) ls
