-- The lines of a form: parts from left to right, each before what uses it, nothing shared.
-- The sugared operations become `~(~a | ~b)` for `a & b`, `~a | b` for `a -> b`, `true S f` for `O f`
-- and `~(true S ~f)` for `H f`. Assumes nothing.
use Rattle.std.specs.Prelude.{ℕ, ◌+◌, List, [], ◌∷◌, ◌++◌, length}
use Rattle.lines.specs.declared.line.Prefix.{Prefix}
use Rattle.lines.specs.declared.line.Prefix.TheVariants as single
use Rattle.lines.specs.declared.line.Infix.{Infix}
use Rattle.lines.specs.declared.line.Infix.TheVariants as pair
use Rattle.lines.specs.declared.line.Line.{Line}
use Rattle.lines.specs.declared.line.Line.TheVariants.{Atom, No, Yes, Not, Or, YL, SL, YG, SG}
use Rattle.lines.specs.Forms.{Form, atom, no, yes, prefixed, joined}

-- what a prefix writes before the lines of its part: the left side of since, for O and H
abbrev pub leading_lines : Prefix → List Line
leading_lines single.Not = []
leading_lines single.YL = []
leading_lines single.OL = Yes ∷ []
leading_lines single.HL = Yes ∷ []
leading_lines single.YG = []
leading_lines single.OG = Yes ∷ []
leading_lines single.HG = Yes ∷ []

-- what it writes behind them, where its first line is line k and its part's last one line i
abbrev pub closing_lines : Prefix → ℕ → ℕ → List Line
closing_lines single.Not k i = Not i ∷ []
closing_lines single.YL k i = YL i ∷ []
closing_lines single.OL k i = SL k i ∷ []
closing_lines single.HL k i = Not i ∷ SL k (i + 1) ∷ Not (i + 2) ∷ []
closing_lines single.YG k i = YG i ∷ []
closing_lines single.OG k i = SG k i ∷ []
closing_lines single.HG k i = Not i ∷ SG k (i + 1) ∷ Not (i + 2) ∷ []

-- what an infix writes between the lines of its parts, where line i is the left one's last
abbrev pub middle_lines : Infix → ℕ → List Line
middle_lines pair.SL i = []
middle_lines pair.SG i = []
middle_lines pair.And i = Not i ∷ []
middle_lines pair.Or i = []
middle_lines pair.Implies i = Not i ∷ []

-- what it writes behind them, where line i stands for the left side and line j is the right part's last
abbrev pub ending_lines : Infix → ℕ → ℕ → List Line
ending_lines pair.SL i j = SL i j ∷ []
ending_lines pair.SG i j = SG i j ∷ []
ending_lines pair.And i j = Not j ∷ Or i (j + 1) ∷ Not (j + 2) ∷ []
ending_lines pair.Or i j = Or i j ∷ []
ending_lines pair.Implies i j = Or i j ∷ []

-- how many of each there are
abbrev pub leading_count : Prefix → ℕ
leading_count o = length (leading_lines o)

abbrev pub closing_count : Prefix → ℕ
closing_count o = length (closing_lines o 0 0)

abbrev pub middle_count : Infix → ℕ
middle_count o = length (middle_lines o 0)

abbrev pub ending_count : Infix → ℕ
ending_count o = length (ending_lines o 0 0)

-- how many lines of a form stand before its last one
abbrev pub before_last : Form → ℕ
before_last (atom i) = 0
before_last no = 0
before_last yes = 0
before_last (prefixed o f) = leading_count o + before_last f + closing_count o
before_last (joined o f g) = before_last f + 1 + middle_count o + before_last g + ending_count o

-- the lines of a form, the first of which is line k
abbrev pub lines : ℕ → Form → List Line
lines k (atom i) = Atom i ∷ []
lines k no = No ∷ []
lines k yes = Yes ∷ []
lines k (prefixed o f) =
    leading_lines o ++ (lines (k + leading_count o) f ++ closing_lines o k (k + leading_count o + before_last f))
lines k (joined o f g) =
    lines k f
    ++ (middle_lines o (k + before_last f)
    ++ (lines (k + before_last f + 1 + middle_count o) g
    ++ ending_lines o (k + before_last f + middle_count o) (k + before_last f + 1 + middle_count o + before_last g)))

-- the table of a rule
abbrev pub table : Form → List Line
table f = lines 0 f
