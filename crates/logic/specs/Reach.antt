-- Which runs a report moves. Laws of the definitions.
use Rattle.std.specs.Prelude.{◌≡◌, ℕ, suc, ◌+◌, ◌-◌, ◌<◌, ◌≤◌, true, ◌⊎◌, List, ◌∷◌}
use Rattle.scales.specs.Algebra.{Algebra, Laws}
use Rattle.lines.specs.declared.line.Line.{Line}
use Rattle.lines.specs.Forms.{Form}
use Rattle.lines.specs.Stands.{well_formed}
use Rattle.logic.specs.History.{History, report, high}
use Rattle.logic.specs.Truth.{truth}
use Rattle.logic.specs.Rows.{row, reach}

-- the row of the run s is after a report of r with q as it was after h
abbrev pub Stays : Algebra → List Line → History → ℕ → List ℕ → ℕ → Type 0
Stays S ls h r q s = row S ls (report r q ∷ h) s ≡ row S ls h s

-- A report of r leaves every truth of the runs below r.
abbrev pub BelowStays : Type 0
BelowStays = (S : Algebra) (f : Form) (h : History) (r : ℕ) (q : List ℕ) (s : ℕ) → s < r → truth S f (report r q ∷ h) s ≡ truth S f h s

-- Above r, where the row of the run before stays, a row stays: the runs that move follow r without a gap.
abbrev pub NoGap : Type 0
NoGap = (S : Algebra) → Laws S → (n : ℕ) (ls : List Line) → well_formed n 0 ls ≡ true → (h : History) (r : ℕ) (q : List ℕ) →
    (s : ℕ) → r ≤ s → Stays S ls h r q s → Stays S ls h r q (suc s)

-- Whoever goes up from r to s over rows that move, and stops at the newest run or below a row that stays, has met
-- all rows that a report of r moves, and knows its reach.
abbrev pub CountStops : Type 0
CountStops = (S : Algebra) → Laws S → (n : ℕ) (ls : List Line) → well_formed n 0 ls ≡ true → (h : History) (r : ℕ) (q : List ℕ) →
    (s : ℕ) → r ≤ s → s ≤ high h → ((t : ℕ) → r < t → t ≤ s → Stays S ls h r q t → ⊥) → (s ≡ high h) ⊎ Stays S ls h r q (suc s) →
    (reach S ls r q h ≡ suc (s - r)) × ((t : ℕ) → s < t → t ≤ high h → Stays S ls h r q t)

-- The runs above r that a report of r moves are r + 1 to r + reach - 1.
abbrev pub RunsFollow : Type 0
RunsFollow = (S : Algebra) → Laws S → (n : ℕ) (ls : List Line) → well_formed n 0 ls ≡ true → (h : History) (r : ℕ) (q : List ℕ) →
    (s : ℕ) → r < s → s ≤ high h → (s < r + reach S ls r q h → Stays S ls h r q s → ⊥) × (r + reach S ls r q h ≤ s → Stays S ls h r q s)
