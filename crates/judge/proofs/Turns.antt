-- A row being written, line by line. Assumes nothing.
use Rattle.std.proofs.Common.{◌≡◌, ℕ, min, List, length, take, drop, sym, ◌∙◌, arith}
use Rattle.std.proofs.lemmas.Grind.{common_steps}
use Rattle.lines.specs.declared.line.Line.{Line}
use Rattle.scales.specs.Algebra.{Algebra, Laws}
use Rattle.logic.specs.History.{History}
use Rattle.logic.specs.Rows.{row, judged_below, step}
use Rattle.logic.proofs.Rows.{row_step}
use Rattle.judge.specs.Judging.{judged_into, Lent}

-- where the slice is as long as the table, it holds the row and nothing else
pub whole_row : (S : Algebra) (table : List Line) (state past previous out : List ℕ) → length out ≡ length table →
    judged_into S table state past previous out ≡ step S table state past previous
whole_row S table state past previous out e = grind (arith, common_steps, e)

-- what comes from a history gives the row after it
pub row_of_lent : (S : Algebra) → Laws S → (table : List Line) (state past previous out : List ℕ) (n : ℕ) (h : History) (s : ℕ) →
    Lent S n table h s state past previous out → judged_into S table state past previous out ≡ row S table h s
row_of_lent S L table state past previous out n h s lent =
    whole_row S table state past previous out lent.room
    ∙ (λ i. step S table (lent.state_is i) (lent.past_is i) (lent.previous_is i))
    ∙ sym (row_step S L n table lent.formed h s)

module _ (S : Algebra) (table : List Line) (state past previous before : List ℕ) where
  -- the lines that there is room for
  abbrev fitting : List Line
  fitting = take (length before) table

  -- the first i truths are written, the lines from i on give the rest of the row, and what lies behind stays
  pub record Written (out : List ℕ) (i : ℕ) : Type 0 where
    pub long : length out ≡ length before
    pub row : judged_below S state past previous (take i out) (drop i fitting) ≡ step S fitting state past previous
    pub rest : drop i out ≡ drop i before

  pub ended : (out : List ℕ) (i : ℕ) → min (length table) (length before) ≡ i → Written out i → out ≡ judged_into S table state past previous before
  ended out i e w = grind (arith, common_steps, w)
