-- The bytes of a row table, by its meaning. Assumes nothing.
use Rattle.std.specs.Prelude.{◌≡◌, ℕ, ◌+◌, ◌-◌, ◌*◌, ◌%◌, ◌≤◌, true, List, [], ◌∷◌, map, length, take, drop, replicate}
use Rattle.std.proofs.Math.Seq.{paste}
use Rattle.std.specs.List.{range_with_len}
use Rattle.stores.specs.Bounds.{Sizes, Window}
use Rattle.stores.specs.Bytes.{are_bytes}
use Rattle.stores.specs.Meaning.{Meaning}
use Rattle.stores.specs.declared.bounds.Bounds.{Bounds}

-- where a run's slot begins: run r is in slot (r - 1) % limit
abbrev pub place : ℕ → ℕ → ℕ → ℕ
place width limit run = ((run - 1) % limit) * width

-- the bytes in a run's slot
abbrev pub slot : ℕ → ℕ → List ℕ → ℕ → List ℕ
slot width limit bytes run = take width (drop (place width limit run) bytes)

-- zeros, with the records of the runs from `low` on in their slots; `paste` lays its third argument over its first
abbrev pub laid : ℕ → ℕ → ℕ → ℕ → List (List ℕ) → List ℕ
laid width limit size low [] = replicate size 0
laid width limit size low (r ∷ rs) = paste (laid width limit size (low + 1) rs) (place width limit low) r width

-- every byte of a row table in `size` bytes of memory
abbrev pub image : Meaning → ℕ → List ℕ
image m size = laid m.width m.limit size m.low m.records

-- what a row table means, by its numbers and its bytes
abbrev pub meaning_of : Bounds → List ℕ → Meaning
meaning_of b bytes = record { width = b.width; limit = b.limit; low = b.low; records = map (slot b.width b.limit bytes) (range_with_len b.low (b.high + 1 - b.low)) }

-- bytes that are those of a row table
pub record Kept (b : Bounds) (bytes : List ℕ) : Type 0 where
  pub sizes : Sizes b
  pub window : Window b
  pub inside : b.limit * b.width ≤ length bytes
  pub values : are_bytes bytes ≡ true
  pub layout : bytes ≡ image (meaning_of b bytes) (length bytes)
