-- What making, write, append and forget make of a stretch table's entries. Assumes nothing.
use Rattle.std.proofs.Common.{◌≡◌, ℕ, zero, suc, ◌+◌, ◌-◌, ◌*◌, ◌<◌, ◌≤◌, Bool, true, false, ◌&&◌, ltb, List, [], ◌∷◌, ◌++◌, length, drop, replicate, set, Ok, vec_items, sym, refl, ap, ◌∙◌, subst, ⊎_elim, append_assoc, append-nil, mul-le-mul_right, arith, length-drop}
use lib.ListN.{length-replicate}
use Rattle.std.specs.Str.{bytes_eq}
use Rattle.std.proofs.lemmas.List.{length_push, length-set, drop-drop, drop_at, drop-append-le, drop-replicate, replicate_more, nil_from_length}
use Rattle.std.proofs.lemmas.Bool.{and_cases, and_parts, ltb-false, ltb-true}
use Rattle.stores.specs.Bounds.{Sizes, Window, raised, from_run}
use Rattle.stores.specs.Making.{making}
use Rattle.stores.specs.Meaning.{high_of}
use Rattle.stores.specs.declared.bounds.Bounds.{Bounds}
use Rattle.stores.proofs.Bytes.{Bytes, bytes_from, bytes_zeros}
use Rattle.stores.proofs.Made.{made}
use Rattle.stretch_table.specs.Stretches.{Stretch, stretch, records_of, Follow, Differ}
use Rattle.stretch_table.specs.Entries.{Holds, Isolated, Grouped, meaning_of, Kept}
use Rattle.stretch_table.specs.Held.{held, entry_at, HasRoom, SameRoom}
use Rattle.stretch_table.specs.declared.entries.Entries.{Entries}
use Rattle.stretch_table.proofs.Finding.{total, follow_at}
use Rattle.stretch_table.proofs.Grouping.{runs, records_append, runs_append, runs_more, follow_append, follow_front, follow_back, entries_few, differ_back, differ_append, differ_head, differ_last, Ends, ending}
use Rattle.stretch_table.proofs.Held.{many, lists_as, entry_is, around}
use Rattle.stretch_table.proofs.Holding.{holds_from}
use Rattle.stretch_table.proofs.Keeping.{Lies, holding, kept_again, means_again, follow_in, differ_in}
use Rattle.stretch_table.proofs.Stretches.{equal_from, differ_from}

pub clears : (b : Bounds) (size : ℕ) (ws : List ℕ) → making b.width 8 size ≡ Ok b.limit → b.low ≡ 1 → b.high ≡ 0 → ws ≡ replicate size 0 → Lies b [] [] ws
clears b size ws ok low high is =
    let fits = made b.width 8 size b.limit ok in
    let long : length ws ≡ size = ap length is ∙ length-replicate size 0 in
    record {
      sizes = (fits.narrowest, fits.widest, fits.fewest, fits.most);
      window = (omega arith, omega arith, omega arith, omega arith, λ _. low);
      inside = omega (arith, fits.inside);
      values = subst Bytes (sym is) (bytes_zeros size);
      count = omega arith;
      holds = holds_from b.width [] ws size tt is;
      follow = tt;
      differ = tt;
      records = refl;
    }

-- entries that are those of a table with the numbers b, and its records
pub record IsTable (b : Bounds) (rs : List (List ℕ)) (es : Entries) : Type 0 where
  pub kept : Kept es.bounds es.used (vec_items es.bytes)
  pub means : meaning_of es.bounds es.used (vec_items es.bytes) ≡ holding b rs

-- so are those that hold the records in as few entries as can be
is_table : (b : Bounds) (rs : List (List ℕ)) (es : Entries) → es.bounds ≡ b → Window b → b.limit * (b.width + 8) ≤ length (vec_items es.bytes) → length rs ≡ b.high + 1 - b.low
    → Grouped b rs es.used (vec_items es.bytes) → IsTable b rs es
is_table b rs es is window inside count g =
    let m = vec_items es.bytes in
    let l : Lies b g.held rs m = record {
      sizes = subst Sizes is es.sizes;
      window = window;
      inside = inside;
      values = bytes_from m es.values;
      count = count;
      holds = g.holds;
      follow = g.follow;
      differ = g.differ;
      records = g.records;
    } in
    record {
      kept = subst (λ (x : Bounds). Kept x es.used m) (sym is) (subst (λ n. Kept b n m) g.all (kept_again l));
      means = (λ i. meaning_of (is i) (sym g.all i) m) ∙ means_again l;
    }

module _ (es : Entries) (k : Kept es.bounds es.used (vec_items es.bytes)) where
  abbrev b : Bounds
  b = es.bounds

  abbrev m : List ℕ
  m = vec_items es.bytes

  abbrev rs : List (List ℕ)
  rs = records_of (held es)

  all_runs : runs (held es) ≡ b.high + 1 - b.low
  all_runs = total b es.used m k

  follow : Follow b.low (held es)
  follow = follow_in b es.used m k

  differ : Differ (held es)
  differ = differ_in b es.used m k

  -- a run that is held, by the numbers
  pub held_in : (run : ℕ) → (b.low ≤ run) × (run ≤ high_of (meaning_of b es.used m)) → (b.low ≤ run) × (run ≤ b.high)
  held_in run is = let n = all_runs in (is.0, omega (arith, is.1, k.window))

  pub few_records : length rs ≤ 1000000
  few_records = omega (arith, all_runs, k.window)

  pub replaced : (run at : ℕ) (rec : List ℕ) (es₁ new : Entries) → SameRoom es es₁ → SameRoom es₁ new → Isolated b rs run at es₁.used (vec_items es₁.bytes)
      → ((rs : List (List ℕ)) (run : ℕ) → length rs ≤ 1000000 → Isolated es₁.bounds rs run at es₁.used (vec_items es₁.bytes) → Grouped es₁.bounds (set rs (run - es₁.bounds.low) rec) new.used (vec_items new.bytes))
      → IsTable b (set rs (run - b.low) rec) new
  replaced run at rec es₁ new one two alone settles =
      let there = subst (λ (x : Bounds). Isolated x rs run at es₁.used (vec_items es₁.bytes)) (sym one.0) alone in
      is_table b (set rs (run - b.low) rec) new (two.0 ∙ one.0) k.window (omega (arith, k.inside, one.1, two.1)) (length-set rs (run - b.low) rec ∙ k.count)
      (subst (λ (x : Bounds). Grouped x (set rs (run - x.low) rec) new.used (vec_items new.bytes)) one.0 (settles rs run few_records there))

  -- room for one entry more, where there is room for one run more
  pub room_more : length rs < b.limit → HasRoom es
  room_more room =
      let few = entries_few b.low (held es) follow in
      let size = b.width + 8 in
      let fits : suc es.used * size ≤ b.limit * size = mul-le-mul_right size (omega (arith, many es)) in
      omega (arith, k.inside)

  module _ (some : 0 < es.used) where
    last : Ends (held es)
    last = ending (held es) (omega (arith, many es))

    place : length last.front ≡ es.used - 1
    place = omega (arith, many es, ap length last.is, length_push last.front last.last)

    reads_last : entry_at es (es.used - 1) ≡ last.last
    reads_last = entry_is es (es.used - 1) last.front [] last.last last.is place

    count_small : (entry_at es (es.used - 1)).count ≤ 1000000
    count_small =
        subst (λ (s : Stretch). s.count ≤ 1000000) (sym reads_last)
        (omega (arith, all_runs, ap runs last.is, runs_append last.front (last.last ∷ []), runs_more last.last [], k.window))

    adds_same : (rec : List ℕ) (new : Entries) (count : ℕ) → new.bounds ≡ raised b → bytes_eq (entry_at es (es.used - 1)).kept rec ≡ true → count ≡ (entry_at es (es.used - 1)).count
        → ((A B : List Stretch) (e : Stretch) → held es ≡ A ++ (e ∷ B) → length A ≡ es.used - 1 → held new ≡ A ++ (stretch e.first (count + 1) e.kept ∷ B))
        → Grouped (raised b) (rs ++ (rec ∷ [])) new.used (vec_items new.bytes)
    adds_same rec new count bounds same count_is sets =
        let A = last.front in
        let p = last.last in
        let kept : p.kept ≡ rec = ap (λ (s : Stretch). s.kept) (sym reads_last) ∙ equal_from _ rec same in
        let more : count + 1 ≡ p.count + 1 = ap (λ n. n + 1) (count_is ∙ ap (λ (s : Stretch). s.count) reads_last) in
        let q = stretch p.first (count + 1) p.kept in
        let is = sets A [] p last.is place in
        let follow-there = subst (Follow b.low) last.is follow in
        let old = follow_back b.low A (p ∷ []) follow-there in
        record {
          held = A ++ (q ∷ []);
          holds = subst (λ (x : Bounds). Holds x.width (A ++ (q ∷ [])) (vec_items new.bytes)) bounds (lists_as new (A ++ (q ∷ [])) is);
          all = ap length (sym is) ∙ many new;
          follow = follow_append b.low A (q ∷ []) (follow_front b.low A (p ∷ []) follow-there) (old.0, omega arith, tt);
          differ = differ_last A p q refl (subst Differ last.is differ);
          records =
              records_append A (q ∷ [])
              ∙ ap (λ n. records_of A ++ (replicate n p.kept ++ [])) more
              ∙ ap (λ x. records_of A ++ (x ++ [])) (sym (replicate_more p.count p.kept))
              ∙ ap (λ x. records_of A ++ x) (append_assoc (replicate p.count p.kept) (p.kept ∷ []) [])
              ∙ ap (λ x. records_of A ++ (replicate p.count p.kept ++ (x ∷ []))) kept
              ∙ sym (append_assoc (records_of A) (replicate p.count p.kept) (rec ∷ []))
              ∙ ap (λ x. x ++ (rec ∷ [])) (sym (ap records_of last.is ∙ records_append A (p ∷ []) ∙ ap (λ x. records_of A ++ x) (append-nil _)));
        }

  -- a record that is not that of the last stretch, if there is one
  differs_from : (rec : List ℕ) (u : ℕ) → es.used ≡ u → (ltb 0 u && bytes_eq (entry_at es (es.used - 1)).kept rec) ≡ false → Differ (held es ++ (stretch (b.high + 1) 1 rec ∷ []))
  differs_from rec zero is other =
      let none : held es ≡ [] = nil_from_length (held es) (many es ∙ is) in
      subst (λ x. Differ (x ++ (stretch (b.high + 1) 1 rec ∷ []))) (sym none) (tt, tt)
  differs_from rec (suc u) is other =
      let some : 0 < es.used = omega arith in
      let e = last some in
      let new = stretch (b.high + 1) 1 rec in
      let other-there : bytes_eq (entry_at es (es.used - 1)).kept rec ≡ false =
      ⊎_elim (λ (t : ltb 0 (suc u) ≡ false). absurd (omega (arith, ltb-false 0 (suc u) t))) (λ (t : bytes_eq (entry_at es (es.used - 1)).kept rec ≡ false). t) (and_cases _ _ other)
      in
      let ne : e.last.kept ≡ rec → ⊥ = λ same. differ_from _ rec other-there (ap (λ (s : Stretch). s.kept) (reads_last some) ∙ same) in
      subst (λ x. Differ (x ++ (new ∷ []))) (sym e.is)
      (subst Differ (sym (append_assoc e.front (e.last ∷ []) (new ∷ [])))
      (differ_append e.front (new ∷ []) e.last (subst Differ e.is differ) (ne, (tt, tt))))

  adds_new : (rec : List ℕ) (new : Entries) → new.bounds ≡ raised b → (ltb 0 es.used && bytes_eq (entry_at es (es.used - 1)).kept rec) ≡ false
      → held new ≡ held es ++ (stretch (b.high + 1) 1 rec ∷ []) → Grouped (raised b) (rs ++ (rec ∷ [])) new.used (vec_items new.bytes)
  adds_new rec new bounds other is =
      let s = stretch (b.high + 1) 1 rec in
      record {
        held = held es ++ (s ∷ []);
        holds = subst (λ (x : Bounds). Holds x.width (held es ++ (s ∷ [])) (vec_items new.bytes)) bounds (lists_as new (held es ++ (s ∷ [])) is);
        all = ap length (sym is) ∙ many new;
        follow = follow_append b.low (held es) (s ∷ []) follow (omega (arith, all_runs, k.window), omega arith, tt);
        differ = differs_from rec es.used refl other;
        records = records_append (held es) (s ∷ []);
      }

  raised_window : high_of (meaning_of b es.used m) < 999999 → length rs < b.limit → Window (raised b)
  raised_window last room =
      let n = all_runs in
      (k.window.0, omega (arith, k.window), omega (arith, k.window), omega (arith, k.window), λ e. absurd (omega (arith, k.window)))

  -- by what `ends_with` answers
  module _ (rec : List ℕ) (r : Bool) (value : r ≡ (ltb 0 es.used && bytes_eq (entry_at es (es.used - 1)).kept rec)) where
    ends : r ≡ true → (0 < es.used) × (bytes_eq (entry_at es (es.used - 1)).kept rec ≡ true)
    ends yes' = let both = and_parts (ltb 0 es.used) (bytes_eq (entry_at es (es.used - 1)).kept rec) (sym value ∙ yes') in (ltb-true 0 es.used both.0, both.1)

    pub last_small : r ≡ true → (entry_at es (es.used - 1)).count ≤ 1000000
    last_small yes' = count_small (ends yes').0

    module _ (last : high_of (meaning_of b es.used m) < 999999) (room : length rs < b.limit) (new : Entries) (same : (new.bounds ≡ raised b) × (length (vec_items new.bytes) ≡ length (vec_items es.bytes))) where
      added : Grouped (raised b) (rs ++ (rec ∷ [])) new.used (vec_items new.bytes) → IsTable (raised b) (rs ++ (rec ∷ [])) new
      added g =
          is_table (raised b) (rs ++ (rec ∷ [])) new same.0 (raised_window last room) (omega (arith, k.inside, same.1)) (length_push rs rec ∙ omega (arith, all_runs, k.window)) g

      pub added_same : r ≡ true → (count : ℕ) → count ≡ (entry_at es (es.used - 1)).count
          → ((A B : List Stretch) (e : Stretch) → held es ≡ A ++ (e ∷ B) → length A ≡ es.used - 1 → held new ≡ A ++ (stretch e.first (count + 1) e.kept ∷ B))
          → IsTable (raised b) (rs ++ (rec ∷ [])) new
      added_same yes' count count_is sets = added (adds_same (ends yes').0 rec new count same.0 (ends yes').1 count_is sets)

      pub added_new : r ≡ false → held new ≡ held es ++ (stretch (b.high + 1) 1 rec ∷ []) → IsTable (raised b) (rs ++ (rec ∷ [])) new
      added_new no' is = added (adds_new rec new same.0 (sym value ∙ no') is)

  module _ (run : ℕ) (from : b.low ≤ run) (to : run ≤ b.high) where
    lowered_window : Window (from_run b run)
    lowered_window = (omega (arith, k.window), omega arith, k.window.2, omega (arith, k.window), λ e. absurd (omega arith))

    lowered_count : length (drop (run - b.low) rs) ≡ b.high + 1 - run
    lowered_count = length-drop (run - b.low) rs ∙ omega (arith, all_runs)

    drops : (i first count : ℕ) (es₁ new : Entries) → i < es.used → (entry_at es i).first ≤ run → run < (entry_at es i).first + (entry_at es i).count
        → first ≡ (entry_at es i).first → count ≡ (entry_at es i).count → new.bounds ≡ from_run b run
        → ((A B : List Stretch) (e : Stretch) → held es ≡ A ++ (e ∷ B) → length A ≡ i → held es₁ ≡ A ++ (stretch run (count - (run - first)) e.kept ∷ B))
        → ((A O B : List Stretch) → held es₁ ≡ A ++ (O ++ B) → length A ≡ 0 → length A + length O ≡ i → held new ≡ A ++ B)
        → Grouped (from_run b run) (drop (run - b.low) rs) new.used (vec_items new.bytes)
    drops i first count es₁ new lt begin end first_is count_is bounds sets removes =
        let f = around es i lt in
        let A = f.front in
        let B = f.back in
        let e = entry_at es i in
        let n = stretch run (count - (run - first)) e.kept in
        let follow-there = follow_back b.low A (e ∷ B) (follow_at b es.used m k A B e f.is) in
        let k' = run - first in
        let is = removes [] A (n ∷ B) (sets A B e f.is f.place) refl (omega (arith, f.place)) in
        let past : b.low + runs A + e.count ≡ run + (count - k') = omega (arith, follow-there.0) in
        let cut : run - b.low ≡ runs A + k' = omega (arith, follow-there.0) in
        record {
          held = n ∷ B;
          holds = subst (λ (x : Bounds). Holds x.width (n ∷ B) (vec_items new.bytes)) bounds (lists_as new (n ∷ B) is);
          all = ap length (sym is) ∙ many new;
          follow = (refl, omega arith, subst (λ x. Follow x B) past follow-there.2);
          differ = differ_head B e n refl (differ_back A (e ∷ B) (subst Differ f.is differ));
          records =
              sym (ap (drop (run - b.low)) (ap records_of f.is ∙ records_append A (e ∷ B))
              ∙ ap (λ x. drop x (records_of A ++ records_of (e ∷ B))) cut
              ∙ sym (drop-drop k' (runs A) (records_of A ++ records_of (e ∷ B)))
              ∙ ap (drop k') (drop_at (records_of A) (records_of (e ∷ B)) (runs A) refl)
              ∙ drop-append-le k' (replicate e.count e.kept) (records_of B) (omega (arith, length-replicate e.count e.kept))
              ∙ ap (λ x. x ++ records_of B) (drop-replicate k' e.count e.kept ∙ ap (λ x. replicate (x - k') e.kept) (sym count_is)));
        }

    pub dropped : (i first count : ℕ) (es₁ new : Entries) → i < es.used → (entry_at es i).first ≤ run → run < (entry_at es i).first + (entry_at es i).count
        → first ≡ (entry_at es i).first → count ≡ (entry_at es i).count → new.bounds ≡ from_run b run → length (vec_items new.bytes) ≡ length (vec_items es.bytes)
        → ((A B : List Stretch) (e : Stretch) → held es ≡ A ++ (e ∷ B) → length A ≡ i → held es₁ ≡ A ++ (stretch run (count - (run - first)) e.kept ∷ B))
        → ((A O B : List Stretch) → held es₁ ≡ A ++ (O ++ B) → length A ≡ 0 → length A + length O ≡ i → held new ≡ A ++ B)
        → IsTable (from_run b run) (drop (run - b.low) rs) new
    dropped i first count es₁ new lt begin end first_is count_is bounds size sets removes =
        is_table (from_run b run) (drop (run - b.low) rs) new bounds lowered_window (omega (arith, k.inside, size)) lowered_count
        (drops i first count es₁ new lt begin end first_is count_is bounds sets removes)
