-- What is known in the middle of a call: what a read gives and a write makes, and how far a report's walk up through the
-- later runs has come. Contracts of inner functions cite these. Assumes nothing.
use Rattle.std.specs.Prelude.{◌≡◌, ℕ, ◌+◌, ◌<◌, ◌≤◌, min, Bool, true, cond, List, ◌∷◌, length, Decides, ◌==◌, nat_lt, slice_index}
use Rattle.scales.specs.Algebra.{Algebra, Laws}
use Rattle.lines.specs.declared.line.Line.{Line}
use Rattle.lines.specs.Stands.{well_formed}
use Rattle.logic.specs.History.{History, report, high}
use Rattle.logic.specs.Reach.{Stays}
use Rattle.logic.specs.Rows.{row, step, reach}
use Rattle.stores.specs.Meaning.{Meaning, high_of, record_at, written}
use Rattle.meaning.specs.Records.{record_of, state_of, truths_of, past_of, with_truths}
use Rattle.meaning.specs.Kept.{low, keeping, meaning, Represents}

-- the scale keeps its laws, and the lines are a table over so many atoms
pub record Lawful (S : Algebra) (ls : List Line) (atoms : ℕ) : Type 0 where
  pub laws : Laws S
  pub formed : well_formed atoms 0 ls ≡ true

-- the run is held, and what is handed over is as long as a record
pub record Held (m : Meaning) (len run : ℕ) : Type 0 where
  pub long : len ≡ m.width
  pub above : m.low ≤ run
  pub inside : run ≤ high_of m

-- what a read of a held run gives, and what a write makes of the store
abbrev pub Reads : Meaning → ℕ → ℕ → List ℕ → Type 0
Reads m len run rec = Held m len run → rec ≡ record_at m run

abbrev pub Writes : Meaning → Meaning → ℕ → ℕ → List ℕ → Type 0
Writes m m' len run rec = Held m len run → m' ≡ written m run rec

-- whether a record's first byte says that its run is open
abbrev pub is_open : List ℕ → Bool
is_open r = slice_index r 0 == 1

-- The record x judged with the row of the run before: `out` has the new row, and `rec` the record with it.
pub record Judged (S : Algebra) (ls : List Line) (atoms : ℕ) (x previous out rec : List ℕ) : Type 0 where
  pub row_is : out ≡ step S ls (state_of atoms x) (past_of atoms (length ls) x) previous
  pub rec_is : rec ≡ with_truths atoms out x

-- One turn of a walk: a held run's record judged, and whether its truths stay.
pub record Turned (S : Algebra) (ls : List Line) (atoms : ℕ) (x previous out rec : List ℕ) (same : Bool) : Type 0 where
  pub judged : Judged S ls atoms x previous out rec
  pub stays : Decides same (out ≡ truths_of atoms (length ls) x)

-- the records as a report of r leaves them up to the run s, and as they were above
abbrev pub mix : Algebra → List Line → History → ℕ → List ℕ → ℕ → ℕ → List ℕ
mix S ls h r q s j = cond (nat_lt s j) (record_of S ls h j) (record_of S ls (report r q ∷ h) j)

abbrev pub mixed : Algebra → List Line → ℕ → ℕ → History → ℕ → List ℕ → ℕ → Meaning
mixed S ls atoms limit h r q s = keeping ls atoms limit h (mix S ls h r q s)

-- The run r is one that a report can be accepted of.
pub record Reported (S : Algebra) (ls : List Line) (atoms r : ℕ) (h : History) : Type 0 where
  pub lawful : Lawful S ls atoms
  pub some : 1 ≤ r
  pub most : r ≤ high h
  pub kept : low h ≤ r

-- A walk up from the run r, reported with q after h, begins: r's own record is written, `previous` has its row.
pub record Begun (S : Algebra) (ls : List Line) (atoms : ℕ) (m : Meaning) (rec previous : List ℕ) (r limit : ℕ) (h : History) (q : List ℕ) : Type 0 where
  pub reported : Reported S ls atoms r h
  pub model_is : m ≡ mixed S ls atoms limit h r q r
  pub rec_is : rec ≡ record_of S ls (report r q ∷ h) r
  pub previous_is : previous ≡ row S ls (report r q ∷ h) r

-- It has come up to the run s, and every run on its way has moved.
pub record Sofar (S : Algebra) (ls : List Line) (atoms : ℕ) (m : Meaning) (rec previous : List ℕ) (r s limit : ℕ) (h : History) (q : List ℕ) : Type 0 where
  pub model_is : m ≡ mixed S ls atoms limit h r q s
  pub rec_is : rec ≡ record_of S ls (report r q ∷ h) s
  pub previous_is : previous ≡ row S ls (report r q ∷ h) s
  pub within : s ≤ high h
  pub moved : (t : ℕ) → r < t → t ≤ s → Stays S ls h r q t → ⊥

-- It has ended at the run s, the last that moved; `rec` has the record of the next run, or of s if that is the newest.
pub record Done (S : Algebra) (ls : List Line) (atoms : ℕ) (m : Meaning) (rec : List ℕ) (r s limit : ℕ) (h : History) (q : List ℕ) : Type 0 where
  pub model_is : m ≡ meaning S ls atoms limit (report r q ∷ h)
  pub last_is : s + 1 ≡ r + reach S ls r q h
  pub rec_is : rec ≡ record_of S ls (report r q ∷ h) (min (s + 1) (high h))

-- The same walk without a write: the store stays as h has it.
pub record Looking (S : Algebra) (ls : List Line) (atoms : ℕ) (m : Meaning) (rec previous : List ℕ) (r : ℕ) (h : History) (q : List ℕ) : Type 0 where
  pub reported : Reported S ls atoms r h
  pub model_is : Represents S ls atoms m h
  pub rec_is : rec ≡ record_of S ls (report r q ∷ h) r
  pub previous_is : previous ≡ row S ls (report r q ∷ h) r

pub record Seen (S : Algebra) (ls : List Line) (rec previous : List ℕ) (r s : ℕ) (h : History) (q : List ℕ) : Type 0 where
  pub rec_is : rec ≡ record_of S ls (report r q ∷ h) s
  pub previous_is : previous ≡ row S ls (report r q ∷ h) s
  pub within : s ≤ high h

-- It has ended at s: `rec` is as a report would leave it, and the newest run's record stays if it lies further up.
pub record Looked (S : Algebra) (ls : List Line) (rec : List ℕ) (r s : ℕ) (h : History) (q : List ℕ) : Type 0 where
  pub rec_is : rec ≡ record_of S ls (report r q ∷ h) (min (s + 1) (high h))
  pub rest : s + 1 < high h → record_of S ls (report r q ∷ h) (high h) ≡ record_of S ls h (high h)

-- The newest run's record is x: the store has it if it lies above the run behind `last`, and `rec` if not.
pub record Newest (m : Meaning) (len last : ℕ) (rec x : List ℕ) : Type 0 where
  pub held : Held m len (high_of m)
  pub above : last + 1 < high_of m → record_at m (high_of m) ≡ x
  pub here : high_of m ≤ last + 1 → rec ≡ x
