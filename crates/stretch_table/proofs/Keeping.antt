-- What is known of a stretch table's bytes, and when bytes are those of a stretch table. Assumes nothing.
use Rattle.std.proofs.Common.{◌≡◌, ℕ, zero, suc, ◌+◌, ◌-◌, ◌*◌, ◌<◌, ◌≤◌, List, [], ◌∷◌, ◌++◌, length, replicate, vec_items, Vec, sym, ap, ◌∙◌, subst, mul-le-mul_right, arith}
use Rattle.std.specs.Vec.{with_items}
use Rattle.std.specs.List.{AllByRecursion}
use Rattle.std.proofs.ByRecursion.{All-weaker}
use Rattle.std.proofs.lemmas.List.{with_items_is}
use Rattle.stores.specs.Bounds.{Sizes, Window}
use Rattle.stores.specs.Meaning.{Meaning, IsRecord}
use Rattle.stores.specs.declared.bounds.Bounds.{Bounds}
use Rattle.stores.proofs.Bytes.{Bytes, bytes_from, from_bytes}
use Rattle.stretch_table.specs.Stretches.{Stretch, stretches, records_of, Follow, Differ}
use Rattle.stretch_table.specs.Image.{filled}
use Rattle.stretch_table.specs.Entries.{stretches_in, Sized, Holds, meaning_of, Kept}
use Rattle.stretch_table.specs.Records.{records_fit}
use Rattle.stretch_table.proofs.Edits.{reads_all}
use Rattle.stretch_table.proofs.Grouping.{entries_few, ends}
use Rattle.stretch_table.proofs.Holding.{all_right}
use Rattle.stretch_table.proofs.Stretches.{stand, alone}

abbrev pub holding : Bounds → List (List ℕ) → Meaning
holding b rs = record { width = b.width; limit = b.limit; low = b.low; records = rs }

module _ {X : Type 0} (P : X → Type 0) where
  replicate_all : (n : ℕ) (x : X) (ys : List X) → 0 < n → AllByRecursion P (replicate n x ++ ys) → P x
  replicate_all zero x ys some h = absurd (omega arith)
  replicate_all (suc n) x ys some h = h.0

all_kept : (P : List ℕ → Type 0) (n : ℕ) (ss : List Stretch) → Follow n ss → AllByRecursion P (records_of ss) → AllByRecursion (λ s. P s.kept) ss
all_kept P n [] f h = tt
all_kept P n (s ∷ ss) f h = (replicate_all P s.count s.kept (records_of ss) f.1 h, all_kept P (n + s.count) ss f.2 (all_right P (replicate s.count s.kept) (records_of ss) h))

-- memory that holds stretches, and the records that they stand for
pub record Lies (b : Bounds) (ss : List Stretch) (rs : List (List ℕ)) (m : List ℕ) : Type 0 where
  pub sizes : Sizes b
  pub window : Window b
  pub inside : b.limit * (b.width + 8) ≤ length m
  pub values : Bytes m
  pub count : length rs ≡ b.high + 1 - b.low
  pub holds : Holds b.width ss m
  pub follow : Follow b.low ss
  pub differ : Differ ss
  pub records : records_of ss ≡ rs

module _ {b : Bounds} {ss : List Stretch} {rs : List (List ℕ)} {m : List ℕ} (h : Lies b ss rs m) where
  same_records : (meaning_of b (length ss) m).records ≡ records_of ss
  same_records = ap records_of (reads_all b.width ss m h.holds)

  same_stretches : stretches b.low (meaning_of b (length ss) m).records ≡ ss
  same_stretches = ap (stretches b.low) same_records ∙ alone b.low ss h.follow h.differ

  pub means_again : meaning_of b (length ss) m ≡ holding b rs
  means_again = ap (holding b) (same_records ∙ h.records)

  pub kept_again : Kept b (length ss) m
  kept_again =
      record {
        sizes = h.sizes;
        window = h.window;
        inside = h.inside;
        values = from_bytes m h.values;
        count = ap length (same_records ∙ h.records) ∙ h.count;
        used_is = ap length (sym same_stretches);
        layout = h.holds.is ∙ ap (λ l. filled l (length m)) (sym same_stretches);
      }

module _ (b : Bounds) (used : ℕ) (m : List ℕ) (k : Kept b used m) where
  abbrev rs : List (List ℕ)
  rs = (meaning_of b used m).records

  abbrev pub held : List Stretch
  held = stretches b.low rs

  grouped : Follow b.low held × Differ held × (records_of held ≡ rs)
  grouped = stand b.low rs

  pub used_few : used ≤ b.limit
  used_few = omega (arith, entries_few b.low held grouped.0, ap length grouped.2, k.used_is, k.count, k.window)

  -- no more entries than there is room for
  pub room : used * (b.width + 8) ≤ length m
  room =
      let le : used * (b.width + 8) ≤ b.limit * (b.width + 8) = mul-le-mul_right (b.width + 8) used_few in
      omega (arith, k.inside)

  -- every entry has a record
  pub fit : AllByRecursion (IsRecord b.width) rs
  fit = records_fit b.width used m (bytes_from m k.values) room

  sized : AllByRecursion (Sized b.width) held
  sized =
      let total = ap length grouped.2 ∙ k.count in
      let wide = all_kept (λ r. length r ≡ b.width) b.low held grouped.0 (subst (AllByRecursion (λ r. length r ≡ b.width)) (sym grouped.2) (All-weaker (IsRecord b.width) (λ r. length r ≡ b.width) (λ r h. h.0) rs fit)) in
      both held wide (ends b.low held grouped.0) (omega (arith, k.window))
    where
      both : (ss : List Stretch) {n : ℕ} → AllByRecursion (λ s. length s.kept ≡ b.width) ss → AllByRecursion (λ s. s.first + s.count ≤ n) ss → n ≤ 1000000 → AllByRecursion (Sized b.width) ss
      both [] w e le = tt
      both (s ∷ ss) w e le = (record { first = omega (arith, e.0); count = omega (arith, e.0); wide = w.0 }, both ss w.1 e.1 le)

  pub lies : Lies b held rs m
  lies =
      record {
        sizes = k.sizes;
        window = k.window;
        inside = k.inside;
        values = bytes_from m k.values;
        count = k.count;
        holds = record { sized = sized; fits = subst (λ n. n * (b.width + 8) ≤ length m) k.used_is room; is = k.layout };
        follow = grouped.0;
        differ = grouped.1;
        records = grouped.2;
      }

  -- the entries are those stretches
  same : stretches_in b.width used m ≡ held
  same = ap (λ n. stretches_in b.width n m) k.used_is ∙ reads_all b.width held m lies.holds

  pub follow_in : Follow b.low (stretches_in b.width used m)
  follow_in = subst (Follow b.low) (sym same) grouped.0

  pub differ_in : Differ (stretches_in b.width used m)
  differ_in = subst Differ (sym same) grouped.1

-- the same, where the bytes are written into a Vec
module _ {Z : Type 0} (v : Vec ℕ Z) {b : Bounds} {ss : List Stretch} {rs : List (List ℕ)} {ws : List ℕ} (h : Lies b ss rs ws) (long : length ws ≡ length (vec_items v))
    (used : ℕ) (all : length ss ≡ used) where
  abbrev items : List ℕ
  items = vec_items (with_items v ws)

  items_are : items ≡ ws
  items_are = with_items_is v ws (long ∙ sym v.ok.0)

  pub kept_in : Kept b used items
  kept_in = subst (λ n. Kept b n items) all (subst (Kept b (length ss)) (sym items_are) (kept_again h))

  pub means_in : meaning_of b used items ≡ holding b rs
  means_in = (λ i. meaning_of b (sym all i) (items_are i)) ∙ means_again h

  pub length_in : length items ≡ length (vec_items v)
  length_in = ap length items_are ∙ long
