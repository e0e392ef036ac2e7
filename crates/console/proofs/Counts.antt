-- There are no more lines than bytes. Assumes nothing.
use Rattle.std.proofs.Common.{ℕ, ◌+◌, ◌≤◌, eqb, List, [], ◌∷◌, length, arith}
use Rattle.std.proofs.lemmas.Bool.{cond_both}
use Rattle.calls.specs.Lines.{begin_with, lines_of, numbered}

longer : (b n : ℕ) (ls : List (List ℕ)) → length (numbered n (begin_with b ls)) ≤ length (numbered n ls) + 1
longer b n [] = omega arith
longer b n ([] ∷ ls) = omega arith
longer b n ((c ∷ cs) ∷ ls) = omega arith

pub few_lines : (bs : List ℕ) (n : ℕ) → length (numbered n (lines_of bs)) ≤ length bs
few_lines [] n = omega arith
few_lines (b ∷ bs) n =
    cond_both (eqb b 10) ([] ∷ lines_of bs) (begin_with b (lines_of bs)) (λ ls. length (numbered n ls) ≤ length (b ∷ bs))
    (λ _. omega (arith, few_lines bs (n + 1)))
    (λ _. omega (arith, longer b n (lines_of bs), few_lines bs n))
