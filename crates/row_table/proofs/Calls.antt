-- What write, append and forget make of a row table's bytes. Assumes nothing.
use Rattle.std.proofs.Common.{◌≡◌, ℕ, ◌+◌, ◌-◌, ◌*◌, ◌<◌, ◌≤◌, List, [], ◌∷◌, ◌++◌, length, take, drop, set, replicate, Ok, sym, refl, ap, ◌∙◌, subst, add-zero, arith}
use lib.Seq.{paste}
use Rattle.std.specs.List.{AllByRecursion}
use Rattle.std.proofs.ByRecursion.{All-set, All-push}
use Rattle.std.proofs.lemmas.List.{length-set, length_push}
use Rattle.std.proofs.lemmas.List.Edits.{length-between}
use Rattle.std.proofs.lemmas.Slice.{put_mid-paste}
use borrow.Rule.Slice.PartMut.{put_mid}
use Rattle.stores.specs.Meaning.{Meaning, high_of}
use Rattle.stores.specs.Bounds.{raised, from_run}
use Rattle.stores.specs.Making.{making}
use Rattle.stores.proofs.Made.{made}
use Rattle.stores.specs.declared.bounds.Bounds.{Bounds}
use Rattle.stores.proofs.Bytes.{Bytes, bytes_from, bytes_paste, bytes_zeros}
use Rattle.row_table.specs.Image.{place, laid, meaning_of, Kept}
use Rattle.row_table.specs.Keeping.{Lays, count_is, wide}
use Rattle.row_table.specs.Layouts.{laid_write, laid_append, laid_forget}

-- a slice written at a run's slot
pub pasted : {bytes xs ys zs : List ℕ} {at place : ℕ} (n w : ℕ) → xs ≡ bytes → at ≡ place → ys ≡ zs → w ≡ n → w ≡ length zs → put_mid at n xs ys ≡ paste bytes place zs w
pasted {zs = zs} n w same there is wide long = put_mid-paste _ n _ _ zs w is wide long ∙ (λ i. paste (same i) (there i) zs w)

-- a slot that was filled with zeros
pub zeroed : (xs ys : List ℕ) (at w : ℕ) → at + w ≤ length xs → ys ≡ replicate (length (take (at + w - at) (drop at xs))) 0 → ys ≡ replicate w 0
zeroed xs ys at w inside is =
    let long : length (take (at + w - at) (drop at xs)) ≡ w = omega (arith, length-between xs at (at + w) inside) in
    is ∙ ap (λ n. replicate n 0) long

pub clears : (width limit size : ℕ) (ws : List ℕ) → making width 0 size ≡ Ok limit → ws ≡ replicate size 0
    → Lays (record { width = width; limit = limit; low = 1; high = 0 }) size [] ws
clears width limit size ws ok is =
    let fits = made width 0 size limit ok in
    let plain : limit * (width + 0) ≡ limit * width = ap (λ n. limit * n) (add-zero width) in
    record {
      sizes = (fits.narrowest, fits.widest, fits.fewest, fits.most);
      window = (omega arith, omega arith, omega arith, omega arith, λ _. refl);
      inside = omega (arith, fits.inside);
      count = refl;
      wide = tt;
      values = subst Bytes (sym is) (bytes_zeros size);
      is = is;
    }

module _ (b : Bounds) (bytes : List ℕ) (k : Kept b bytes) where
  abbrev at : ℕ → ℕ
  at run = place b.width b.limit run

  abbrev m : Meaning
  m = meaning_of b bytes

  some : 1 ≤ b.limit
  some = omega (arith, k.sizes)

  values_then : (ws rec : List ℕ) (run : ℕ) → Bytes rec → ws ≡ paste bytes (at run) rec b.width → Bytes ws
  values_then ws rec run values is = subst Bytes (sym is) (bytes_paste bytes (at run) rec b.width (bytes_from bytes k.values) values)

  -- the bytes laid over, with the run counted from the oldest
  from_oldest : (ws rec : List ℕ) (run i : ℕ) → run ≡ b.low + i → ws ≡ paste bytes (at run) rec b.width
      → ws ≡ paste (laid b.width b.limit (length bytes) b.low m.records) (at (b.low + i)) rec b.width
  from_oldest ws rec run i there is = is ∙ (λ j. paste (k.layout j) (at (there j)) rec b.width)

  module _ (ws rec : List ℕ) (long : length rec ≡ b.width) (values : Bytes rec) where
    pub writes : (run : ℕ) → b.low ≤ run → run ≤ high_of m → ws ≡ paste bytes (at run) rec b.width → Lays b (length bytes) (set m.records (run - b.low) rec) ws
    writes run from to is =
        let n = count_is b bytes k in
        let held : run - b.low < length m.records = omega (arith, k.window) in
        record {
          sizes = k.sizes;
          window = k.window;
          inside = k.inside;
          count = length-set m.records (run - b.low) rec ∙ n;
          wide = All-set _ m.records (run - b.low) rec long (wide b bytes k);
          values = values_then ws rec run values is;
          is =
              from_oldest ws rec run (run - b.low) (omega arith) is
              ∙ laid_write b.width b.limit (length bytes) some k.inside b.low (run - b.low) m.records rec k.window.0 (omega (arith, k.window)) held (wide b bytes k) long;
        }

    pub appends : high_of m < 999999 → length m.records < b.limit → ws ≡ paste bytes (at (b.high + 1)) rec b.width → Lays (raised b) (length bytes) (m.records ++ rec ∷ []) ws
    appends last room is =
        let n = count_is b bytes k in
        record {
          sizes = k.sizes;
          window = (k.window.0, omega (arith, k.window), omega (arith, k.window), omega (arith, k.window), λ e. absurd (omega (arith, k.window)));
          inside = k.inside;
          count = length_push m.records rec ∙ omega (arith, k.window);
          wide = All-push _ m.records rec (wide b bytes k) long;
          values = values_then ws rec (b.high + 1) values is;
          is =
              from_oldest ws rec (b.high + 1) (length m.records) (omega (arith, k.window)) is
              ∙ laid_append b.width b.limit (length bytes) some k.inside b.low m.records rec k.window.0 room (wide b bytes k) long;
        }

  drops_first : (ws : List ℕ) (rs : List (List ℕ)) → length rs ≡ b.high + 1 - b.low → AllByRecursion (λ r. length r ≡ b.width) rs → b.low < b.high
      → ws ≡ paste (laid b.width b.limit (length bytes) b.low rs) (at b.low) (replicate b.width 0) b.width → Bytes ws
      → Lays (from_run b (b.low + 1)) (length bytes) (drop 1 rs) ws
  drops_first ws [] count wide two is values = absurd (omega arith)
  drops_first ws (r ∷ rs) count wide two is values =
      record {
        sizes = k.sizes;
        window = (omega arith, omega arith, k.window.2, omega (arith, k.window), λ e. absurd (omega arith));
        inside = k.inside;
        count = omega arith;
        wide = wide.1;
        values = values;
        is = is ∙ laid_forget b.width b.limit (length bytes) some k.inside b.low r rs k.window.0 (omega (arith, k.window)) wide;
      }

  pub drops : (ws : List ℕ) → b.low < b.high → ws ≡ paste bytes (at b.low) (replicate b.width 0) b.width → Lays (from_run b (b.low + 1)) (length bytes) (drop 1 m.records) ws
  drops ws two is =
      drops_first ws m.records (count_is b bytes k) (wide b bytes k) two (is ∙ ap (λ l. paste l (at b.low) (replicate b.width 0) b.width) k.layout)
      (values_then ws (replicate b.width 0) b.low (bytes_zeros b.width) is)
