-- The entries that lie in memory, and what a stretch table means by them. Assumes nothing.
use Rattle.std.specs.Prelude.{◌≡◌, ℕ, ◌+◌, ◌-◌, ◌*◌, ◌^◌, ◌<◌, ◌≤◌, true, List, ◌∷◌, ◌++◌, map, length, take, drop, slice_index}
use Rattle.std.specs.List.{range_with_len, AllByRecursion}
use Rattle.stores.specs.Bounds.{Sizes, Window}
use Rattle.stores.specs.Bytes.{are_bytes}
use Rattle.stores.specs.Meaning.{Meaning}
use Rattle.stores.specs.declared.bounds.Bounds.{Bounds}
use Rattle.stretch_table.specs.Stretches.{Stretch, stretch, stretches, records_of, Follow, Differ}
use Rattle.stretch_table.specs.Image.{filled, image}

-- the number that four bytes write, the highest first
abbrev pub number_at : List ℕ → ℕ → ℕ
number_at m at = slice_index m at * 16777216 + slice_index m (at + 1) * 65536 + slice_index m (at + 2) * 256 + slice_index m (at + 3)

-- the stretch at place i, of records of `width` bytes
abbrev pub stretch_at : ℕ → List ℕ → ℕ → Stretch
stretch_at width m i = stretch (number_at m (i * (width + 8))) (number_at m (i * (width + 8) + 4)) (take width (drop (i * (width + 8) + 8) m))

-- the first `used` of them
abbrev pub stretches_in : ℕ → ℕ → List ℕ → List Stretch
stretches_in width used m = map (stretch_at width m) (range_with_len 0 used)

-- a stretch that an entry can hold
pub record Sized (width : ℕ) (s : Stretch) : Type 0 where
  pub first : s.first < 2 ^ 32
  pub count : s.count < 2 ^ 32
  pub wide : length s.kept ≡ width

-- the memory m holds the stretches ss, and then zeros
pub record Holds (width : ℕ) (ss : List Stretch) (m : List ℕ) : Type 0 where
  pub sized : AllByRecursion (Sized width) ss
  pub fits : length ss * (width + 8) ≤ length m
  pub is : m ≡ filled ss (length m)

-- what a stretch table means, by its numbers and its bytes
abbrev pub meaning_of : Bounds → ℕ → List ℕ → Meaning
meaning_of b used bytes = record { width = b.width; limit = b.limit; low = b.low; records = records_of (stretches_in b.width used bytes) }

-- bytes that are those of a stretch table
pub record Kept (b : Bounds) (used : ℕ) (bytes : List ℕ) : Type 0 where
  pub sizes : Sizes b
  pub window : Window b
  pub inside : b.limit * (b.width + 8) ≤ length bytes
  pub values : are_bytes bytes ≡ true
  pub count : length (meaning_of b used bytes).records ≡ b.high + 1 - b.low
  pub used_is : used ≡ length (stretches b.low (meaning_of b used bytes).records)
  pub layout : bytes ≡ image (meaning_of b used bytes) (length bytes)

-- memory that holds the records of a table, with the run alone in the entry at place `at` of `entries`
pub record Isolated (b : Bounds) (rs : List (List ℕ)) (run at entries : ℕ) (m : List ℕ) : Type 0 where
  pub front : List Stretch
  pub here : Stretch
  pub back : List Stretch
  pub holds : Holds b.width (front ++ (here ∷ back)) m
  pub place : length front ≡ at
  pub all : length (front ++ (here ∷ back)) ≡ entries
  pub follow : Follow b.low (front ++ (here ∷ back))
  pub first : here.first ≡ run
  pub count : here.count ≡ 1
  pub differ_front : Differ front
  pub differ_back : Differ back
  pub records : records_of (front ++ (here ∷ back)) ≡ rs

-- memory that holds the records of a table, in as few entries as can be
pub record Grouped (b : Bounds) (rs : List (List ℕ)) (entries : ℕ) (m : List ℕ) : Type 0 where
  pub held : List Stretch
  pub holds : Holds b.width held m
  pub all : length held ≡ entries
  pub follow : Follow b.low held
  pub differ : Differ held
  pub records : records_of held ≡ rs
