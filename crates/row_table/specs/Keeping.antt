-- What is known of a row table's bytes, and when bytes are those of a row table. Assumes nothing.
use Rattle.std.specs.Prelude.{◌≡◌, ℕ, ◌+◌, ◌-◌, ◌*◌, ◌≤◌, List, [], ◌∷◌, map, length, vec_items, Vec}
use Rattle.std.proofs.Common.{get_or, sym, ap, subst, ◌∙◌, arith}
use Rattle.std.specs.Vec.{with_items}
use Rattle.std.specs.List.{range_with_len, AllByRecursion}
use Rattle.std.proofs.lemmas.List.FromFn.{length-map-range_with_len, get_or-map-range_with_len}
use Rattle.std.proofs.ByRecursion.{All-map, All-weaker, All-from_get_or}
use Rattle.std.proofs.lemmas.List.{length-take, length-drop, with_items_is}
use Rattle.stores.specs.Bounds.{Sizes, Window, bounds_of}
use Rattle.stores.specs.Meaning.{Meaning, IsRecord, Sound, record_at}
use Rattle.stores.proofs.Sounds.{sound_from}
use Rattle.stores.specs.declared.bounds.Bounds.{Bounds}
use Rattle.stores.proofs.Bytes.{Bytes, bytes_from, from_bytes, bytes_part}
use Rattle.row_table.specs.Image.{place, slot, laid, image, meaning_of, Kept}
use Rattle.row_table.specs.Layouts.{length_laid, slots_laid}
use Rattle.row_table.specs.Ring.{place_fits}

abbrev pub holding : Bounds → List (List ℕ) → Meaning
holding b rs = record { width = b.width; limit = b.limit; low = b.low; records = rs }

abbrev with_high : Bounds → ℕ → Bounds
with_high b high = record { width = b.width; limit = b.limit; low = b.low; high = high }

all : {X : Type 0} (P : X → Type 0) → ((x : X) → P x) → (xs : List X) → AllByRecursion P xs
all P h [] = tt
all P h (x ∷ xs) = (h x, all P h xs)

module _ (b : Bounds) (bytes : List ℕ) (k : Kept b bytes) where
  pub count_is : length (meaning_of b bytes).records ≡ b.high + 1 - b.low
  count_is = length-map-range_with_len (slot b.width b.limit bytes) b.low (b.high + 1 - b.low)

  pub bounds_are : bounds_of (meaning_of b bytes) ≡ b
  bounds_are = let n = count_is in ap (with_high b) (omega (arith, k.window))

  -- every slot holds a record
  pub fit : AllByRecursion (IsRecord b.width) (meaning_of b bytes).records
  fit =
      All-map (IsRecord b.width) (slot b.width b.limit bytes) _
      (All-from_get_or _ _ 0 (λ i _.
      let run = get_or (range_with_len b.low (b.high + 1 - b.low)) i 0 in
      let f = place_fits b.width b.limit run (omega (arith, k.sizes)) in
      (simp (length-take, length-drop) (omega (arith, k.inside)), bytes_part b.width (place b.width b.limit run) bytes (bytes_from bytes k.values))))

  pub wide : AllByRecursion (λ r. length r ≡ b.width) (meaning_of b bytes).records
  wide = All-weaker (IsRecord b.width) (λ r. length r ≡ b.width) (λ r h. h.0) (meaning_of b bytes).records fit

  pub sound : Sound (meaning_of b bytes)
  sound =
      let same = sym bounds_are in
      sound_from (meaning_of b bytes) (subst Sizes same k.sizes) (subst Window same k.window) fit

  pub record_is : (run : ℕ) → b.low ≤ run → run ≤ b.high → record_at (meaning_of b bytes) run ≡ slot b.width b.limit bytes run
  record_is run from to = get_or-map-range_with_len (slot b.width b.limit bytes) b.low (b.high + 1 - b.low) (run - b.low) run [] (omega arith) (omega arith)

-- bytes that are laid out as the records rs
pub record Lays (b : Bounds) (size : ℕ) (rs : List (List ℕ)) (bytes : List ℕ) : Type 0 where
  pub sizes : Sizes b
  pub window : Window b
  pub inside : b.limit * b.width ≤ size
  pub count : length rs ≡ b.high + 1 - b.low
  pub wide : AllByRecursion (λ r. length r ≡ b.width) rs
  pub values : Bytes bytes
  pub is : bytes ≡ laid b.width b.limit size b.low rs

module _ {b : Bounds} {size : ℕ} {rs : List (List ℕ)} {bytes : List ℕ} (h : Lays b size rs bytes) where
  some : 1 ≤ b.limit
  some = omega (arith, h.sizes)

  pub length_is : length bytes ≡ size
  length_is = ap length h.is ∙ length_laid b.width b.limit size some h.inside b.low rs h.wide

  pub means_again : meaning_of b bytes ≡ holding b rs
  means_again =
      ap (holding b)
      (ap (λ l. map (slot b.width b.limit l) (range_with_len b.low (b.high + 1 - b.low))) h.is
      ∙ ap (λ n. map (slot b.width b.limit (laid b.width b.limit size b.low rs)) (range_with_len b.low n)) (sym h.count)
      ∙ slots_laid b.width b.limit size some h.inside b.low rs h.window.0 (omega (arith, h.window, h.count)) h.wide)

  pub kept_again : Kept b bytes
  kept_again =
      record {
        sizes = h.sizes;
        window = h.window;
        inside = omega (arith, length_is, h.inside);
        values = from_bytes bytes h.values;
        layout = h.is ∙ sym (λ i. image (means_again i) (length_is i));
      }

-- the same, where the bytes are written into a Vec
module _ {Z : Type 0} (v : Vec ℕ Z) {b : Bounds} {rs : List (List ℕ)} {ws : List ℕ} (h : Lays b (length (vec_items v)) rs ws) where
  abbrev items : List ℕ
  items = vec_items (with_items v ws)

  items_are : items ≡ ws
  items_are = with_items_is v ws (length_is h ∙ sym v.ok.0)

  pub kept_in : Kept b items
  kept_in = subst (Kept b) (sym items_are) (kept_again h)

  pub means_in : meaning_of b items ≡ holding b rs
  means_in = ap (meaning_of b) items_are ∙ means_again h

  pub length_in : length items ≡ length (vec_items v)
  length_in = ap length items_are ∙ length_is h
