-- What a row store is: its meaning, and what each call makes of it. Read this first. Assumes nothing.
use Rattle.std.specs.Prelude.{◌≡◌, ℕ, ◌+◌, ◌-◌, ◌<◌, ◌≤◌, List, [], ◌∷◌, ◌++◌, length, drop, slice_index_or, slice_set}
use Rattle.std.specs.List.{AllByRecursion}

-- what a store holds, as data (its abstract state): the records of the runs from `low` on, one a run
pub record Meaning : Type 0 where
  pub width : ℕ
  pub limit : ℕ
  pub low : ℕ
  pub records : List (List ℕ)

-- a store that holds nothing yet
abbrev pub empty : ℕ → ℕ → Meaning
empty width limit = record { width = width; limit = limit; low = 1; records = [] }

-- the newest run held, and 0 where there is none
abbrev pub high_of : Meaning → ℕ
high_of m = m.low + length m.records - 1

abbrev pub record_at : Meaning → ℕ → List ℕ
record_at m run = slice_index_or m.records (run - m.low) []

-- a run's record is replaced
abbrev pub written : Meaning → ℕ → List ℕ → Meaning
written m run r = record { width = m.width; limit = m.limit; low = m.low; records = slice_set m.records (run - m.low) r }

-- one record more, for the run above the newest
abbrev pub appended : Meaning → List ℕ → Meaning
appended m r = record { width = m.width; limit = m.limit; low = m.low; records = m.records ++ r ∷ [] }

-- the records below `run`, which is the new low, are dropped
abbrev pub forgotten : Meaning → ℕ → Meaning
forgotten m run = record { width = m.width; limit = m.limit; low = run; records = drop (run - m.low) m.records }

-- a record is as many bytes as the store is wide
abbrev pub IsRecord : ℕ → List ℕ → Type 0
IsRecord width r = (length r ≡ width) × AllByRecursion (λ b. b < 256) r

-- what holds of every store, at any time
pub record Sound (m : Meaning) : Type 0 where
  pub narrowest : 4 ≤ m.width
  pub widest : m.width ≤ 289
  pub fewest : 2 ≤ m.limit
  pub most : m.limit ≤ 4096
  pub first : 1 ≤ m.low
  pub last : high_of m ≤ 999999
  pub room : length m.records ≤ m.limit
  pub fit : AllByRecursion (IsRecord m.width) m.records
  pub start : m.records ≡ [] → m.low ≡ 1
