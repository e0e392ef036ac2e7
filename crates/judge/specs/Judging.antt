-- What judging a row leaves in the slice that it is given. Assumes nothing.
use Rattle.std.specs.Prelude.{◌≡◌, ℕ, true, List, ◌++◌, length, take, drop}
use Rattle.scales.specs.Algebra.{Algebra}
use Rattle.lines.specs.declared.line.Line.{Line}
use Rattle.lines.specs.Stands.{well_formed}
use Rattle.logic.specs.History.{History, present, before, earlier_run}
use Rattle.logic.specs.Rows.{row, nos, step}

-- the row of as many lines as `out` has room for, and behind it what stood there; the whole row where `out` is as
-- long as the table
abbrev pub judged_into : Algebra → List Line → List ℕ → List ℕ → List ℕ → List ℕ → List ℕ
judged_into S ls state past previous out = step S (take (length out) ls) state past previous ++ drop (length ls) out

-- What is lent is what h says of the run s: its state, its earlier row and the row of the run before, with room
-- for the row of the table ls, which is one over n atoms.
pub record Lent (S : Algebra) (n : ℕ) (ls : List Line) (h : History) (s : ℕ) (state past previous out : List ℕ) : Type 0 where
  pub formed : well_formed n 0 ls ≡ true
  pub state_is : state ≡ present h s
  pub past_is : past ≡ before (nos S ls) (row S ls) h s
  pub previous_is : previous ≡ earlier_run (nos S ls) (row S ls h) s
  pub room : length out ≡ length ls
