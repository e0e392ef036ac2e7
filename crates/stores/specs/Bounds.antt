-- The numbers of a store, and what holds of them. Assumes nothing.
use Rattle.std.specs.Prelude.{◌≡◌, ℕ, ◌+◌, ◌≤◌}
use Rattle.stores.specs.declared.bounds.Bounds.{Bounds}
use Rattle.stores.specs.Meaning.{Meaning, high_of}

abbrev pub bounds_of : Meaning → Bounds
bounds_of m = record { width = m.width; limit = m.limit; low = m.low; high = high_of m }

-- the sizes that a store may have
abbrev pub Sizes : Bounds → Type 0
Sizes b = (4 ≤ b.width) × (b.width ≤ 289) × (2 ≤ b.limit) × (b.limit ≤ 4096)

-- the runs that it may hold
abbrev pub Window : Bounds → Type 0
Window b =
    (1 ≤ b.low) × (b.low ≤ b.high + 1) × (b.high ≤ 999999) × (b.high + 1 ≤ b.low + b.limit) × (b.high + 1 ≡ b.low → b.low ≡ 1)

-- one record more
abbrev pub raised : Bounds → Bounds
raised b = record { width = b.width; limit = b.limit; low = b.low; high = b.high + 1 }

-- the records below a run less
abbrev pub from_run : Bounds → ℕ → Bounds
from_run b run = record { width = b.width; limit = b.limit; low = run; high = b.high }
