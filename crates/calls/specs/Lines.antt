-- The lines of an input, and which of them are left to be walked. Assumes nothing.
use Rattle.std.specs.Prelude.{◌≡◌, ℕ, ◌+◌, cond, List, [], ◌∷◌, ◌++◌, ◌==◌}
use Rattle.std.specs.List.{flat_map, AllByRecursion}
use Rattle.calls.specs.Input.{Lacks}
use Rattle.calls.specs.declared.lines.Lines.{Lines}

abbrev pub begin_with : ℕ → List (List ℕ) → List (List ℕ)
begin_with b [] = (b ∷ []) ∷ []
begin_with b (l ∷ ls) = (b ∷ l) ∷ ls

-- byte 10 or the end ends a line, so the last line may be empty
abbrev pub lines_of : List ℕ → List (List ℕ)
lines_of [] = [] ∷ []
lines_of (b ∷ bs) = cond (b == 10) ([] ∷ lines_of bs) (begin_with b (lines_of bs))

-- the first line, and the other lines each behind a byte 10
abbrev pub joined_lines : List ℕ → List (List ℕ) → List ℕ
joined_lines l ls = l ++ flat_map (λ m. 10 ∷ m) ls

-- an input has just these lines: they have no byte 10, and joined by it they are the input again
pub record AreLines (bs first : List ℕ) (others : List (List ℕ)) : Type 0 where
  pub whole : bs ≡ joined_lines first others
  pub each : AllByRecursion (Lacks 10) (first ∷ others)

-- `lines_of` gives lines that are joined to the input, and there are no others
abbrev pub LinesLaw : Type 0
LinesLaw = (bs first : List ℕ) (others : List (List ℕ)) → (lines_of bs ≡ first ∷ others → AreLines bs first others) × (AreLines bs first others → lines_of bs ≡ first ∷ others)

-- the lines that are not empty, each with its number, where the first line has the number n
abbrev pub numbered : ℕ → List (List ℕ) → List (ℕ × List ℕ)
numbered n [] = []
numbered n ([] ∷ ls) = numbered (n + 1) ls
numbered n ((b ∷ bs) ∷ ls) = (n, b ∷ bs) ∷ numbered (n + 1) ls

-- what a walk has still to give
abbrev pub lines_left : Lines → List (ℕ × List ℕ)
lines_left w = numbered (w.passed + 1) (lines_of w.rest.now)
