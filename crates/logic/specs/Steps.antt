-- Where a row comes from, and what an event does to it. Laws of the definitions.
use Rattle.std.specs.Prelude.{◌≡◌, ℕ, suc, ◌≤◌, true, List, ◌∷◌, ◌≢◌}
use Rattle.scales.specs.Algebra.{Algebra, Laws}
use Rattle.lines.specs.declared.line.Line.{Line}
use Rattle.lines.specs.Forms.{Form}
use Rattle.lines.specs.Stands.{well_formed}
use Rattle.logic.specs.History.{History, start, report, close, high, present, before, earlier_run}
use Rattle.logic.specs.Truth.{truth}
use Rattle.logic.specs.Rows.{row, nos, step}

-- A row comes line by line from the run's present state, its earlier row and the row of the run before.
abbrev pub RowStep : Type 0
RowStep = (S : Algebra) → Laws S → (n : ℕ) (ls : List Line) → well_formed n 0 ls ≡ true → (h : History) (s : ℕ) →
    row S ls h s ≡ step S ls (present h s) (before (nos S ls) (row S ls) h s) (earlier_run (nos S ls) (row S ls h) s)

-- So after a report of r with q: the row of r from q and its row so far, and any other from what it was made of;
-- both with the new row of the run before.
abbrev pub ReportRow : Type 0
ReportRow = (S : Algebra) → Laws S → (n : ℕ) (ls : List Line) → well_formed n 0 ls ≡ true → (h : History) (r : ℕ) (q : List ℕ) →
    (row S ls (report r q ∷ h) r ≡ step S ls q (row S ls h r) (earlier_run (nos S ls) (row S ls (report r q ∷ h)) r))
    × ((s : ℕ) → (s ≢ r) →
    row S ls (report r q ∷ h) s ≡ step S ls (present h s) (before (nos S ls) (row S ls) h s) (earlier_run (nos S ls) (row S ls (report r q ∷ h)) s))

-- A start moves no run that is there, and gives the new one its row from its state and the row of the run before.
abbrev pub StartRow : Type 0
StartRow = (S : Algebra) → Laws S → (n : ℕ) (ls : List Line) → well_formed n 0 ls ≡ true → (h : History) (q : List ℕ) →
    (row S ls (start q ∷ h) (suc (high h)) ≡ step S ls q (nos S ls) (earlier_run (nos S ls) (row S ls h) (suc (high h))))
    × ((f : Form) (s : ℕ) → s ≤ high h → truth S f (start q ∷ h) s ≡ truth S f h s)

-- A close moves no truth.
abbrev pub CloseStays : Type 0
CloseStays = (S : Algebra) (f : Form) (h : History) (r s : ℕ) → truth S f (close r ∷ h) s ≡ truth S f h s
