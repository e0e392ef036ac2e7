-- What is known of the records that entries stand for, and of a table's numbers. Assumes nothing.
use Rattle.std.specs.Prelude.{◌≡◌, ℕ, ◌+◌, ◌*◌, ◌<◌, ◌≤◌, List, [], ◌∷◌, length, replicate}
use Rattle.std.proofs.Common.{zero, suc, ap, mul-le-mul_right, arith}
use Rattle.std.specs.List.{range_with_len, AllByRecursion}
use Rattle.std.proofs.ByRecursion.{All-append, All-map}
use Rattle.std.proofs.lemmas.List.{length-take, length-drop}
use Rattle.stores.specs.Bounds.{bounds_of}
use Rattle.stores.specs.Meaning.{IsRecord}
use Rattle.stores.specs.declared.bounds.Bounds.{Bounds}
use Rattle.stores.proofs.Bytes.{Bytes, bytes_part}
use Rattle.stretch_table.specs.Stretches.{Stretch, records_of}
use Rattle.stretch_table.specs.Entries.{stretch_at, stretches_in, meaning_of, Kept}

abbrev with_high : Bounds → ℕ → Bounds
with_high b high = record { width = b.width; limit = b.limit; low = b.low; high = high }

-- the table's numbers are those of its meaning
pub bounds_are : (b : Bounds) (used : ℕ) (m : List ℕ) → Kept b used m → bounds_of (meaning_of b used m) ≡ b
bounds_are b used m k = ap (with_high b) (omega (arith, k.count, k.window))

-- an entry lies within the memory that has room for all of them
pub within : (i used size n : ℕ) → i < used → used * size ≤ n → i * size + size ≤ n
within i used size n lt room = let end : suc i * size ≤ used * size = mul-le-mul_right size lt in omega arith

pub all_counting : (P : ℕ → Type 0) (a n : ℕ) → ((i : ℕ) → i < a + n → P i) → AllByRecursion P (range_with_len a n)
all_counting P a zero h = tt
all_counting P a (suc n) h = (h a (omega arith), all_counting P (a + 1) n (λ i lt. h i (omega arith)))

all_replicate : {X : Type 0} (P : X → Type 0) (n : ℕ) (x : X) → P x → AllByRecursion P (replicate n x)
all_replicate P zero x h = tt
all_replicate P (suc n) x h = (h, all_replicate P n x h)

-- what holds of the record of each stretch, and of each record
all_records : (P : List ℕ → Type 0) (ss : List Stretch) → AllByRecursion (λ s. P s.kept) ss → AllByRecursion P (records_of ss)
all_records P [] h = tt
all_records P (s ∷ ss) h = All-append P (replicate s.count s.kept) (records_of ss) (all_replicate P s.count s.kept h.0) (all_records P ss h.1)

-- every entry that lies in the memory has a record
pub records_fit : (w used : ℕ) (m : List ℕ) → Bytes m → used * (w + 8) ≤ length m → AllByRecursion (IsRecord w) (records_of (stretches_in w used m))
records_fit w used m bytes room =
    all_records (IsRecord w) (stretches_in w used m)
    (All-map (λ s. IsRecord w s.kept) (stretch_at w m) (range_with_len 0 used)
    (all_counting _ 0 used
    (λ i lt. let f = within i used (w + 8) (length m) (omega arith) room in (simp (length-take, length-drop) (omega arith), bytes_part w (i * (w + 8) + 8) m bytes))))
