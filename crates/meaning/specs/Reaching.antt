-- The law of a report's reach: which runs it moves, and that no other record changes. A law of the definitions.
use Rattle.std.specs.Prelude.{◌≡◌, ℕ, ◌+◌, ◌<◌, ◌≤◌, true, ◌⊎◌, List, ◌∷◌, nat_lt}
use Rattle.scales.specs.Algebra.{Algebra, Laws}
use Rattle.lines.specs.declared.line.Line.{Line}
use Rattle.lines.specs.Stands.{well_formed}
use Rattle.logic.specs.History.{History, report, high}
use Rattle.logic.specs.Rows.{moves, reach}
use Rattle.stores.specs.Meaning.{Meaning, high_of, record_at}
use Rattle.meaning.specs.Records.{record_of}

-- What a report of r with q after h reaches, where it answers `count`.
pub record Reach (S : Algebra) (ls : List Line) (h : History) (r : ℕ) (q : List ℕ) (count : ℕ) : Type 0 where
  -- one, and the number of later runs in which some line's truth differs before and after
  pub counted : count ≡ reach S ls r q h
  -- those are runs that there are
  pub inside : r + count ≤ high h + 1
  -- they follow r without a gap: a later run moves exactly where it is one of r + 1 to r + count - 1
  pub moved : (s : ℕ) → r < s → s ≤ high h → moves S ls (report r q) h s ≡ nat_lt s (r + count)
  -- the records of all runs below r, and from r + count on, stay byte for byte
  pub stay : (s : ℕ) → s ≤ high h → (s < r) ⊎ (r + count ≤ s) → record_of S ls (report r q ∷ h) s ≡ record_of S ls h s

abbrev pub ReportsReach : Type 0
ReportsReach = (S : Algebra) → Laws S → (atoms : ℕ) (ls : List Line) → well_formed atoms 0 ls ≡ true → (h : History) (r : ℕ) (q : List ℕ) →
    r ≤ high h → Reach S ls h r q (reach S ls r q h)

-- The same of a store of the meaning m before such a report, and m' after it.
pub record StoreReach (m m' : Meaning) (r count : ℕ) : Type 0 where
  pub low_stays : m'.low ≡ m.low
  pub high_stays : high_of m' ≡ high_of m
  pub stay : (s : ℕ) → m.low ≤ s → s ≤ high_of m → (s < r) ⊎ (r + count ≤ s) → record_at m' s ≡ record_at m s
