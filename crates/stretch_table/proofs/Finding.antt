-- The entry that has a run. Assumes nothing.
use Rattle.std.proofs.Common.{◌≡◌, ℕ, zero, suc, ◌+◌, ◌-◌, ◌*◌, ◌<◌, ◌≤◌, List, [], ◌∷◌, ◌++◌, length, get_or, replicate, sym, refl, ap, ◌∙◌, subst, append_assoc, mul-le-mul_right, arith, length-append}
use Rattle.std.proofs.lemmas.List.{length_push, get_or_append_left, get_or-append_right, get_or-replicate, length-replicate}
use Rattle.stores.specs.Meaning.{record_at}
use Rattle.stores.specs.declared.bounds.Bounds.{Bounds}
use Rattle.stretch_table.specs.Stretches.{Stretch, records_of, Follow}
use Rattle.stretch_table.specs.Entries.{stretch_at, stretches_in, meaning_of, Kept}
use Rattle.stretch_table.proofs.Grouping.{runs, records_append, runs_more, runs_append, follow_front, follow_back, entries_few}
use Rattle.stretch_table.proofs.Held.{counted, read_at, around_in}
use Rattle.stretch_table.proofs.Keeping.{follow_in}

-- one stretch more than runs would be too many
pub spare : (n : ℕ) (A B : List Stretch) (e : Stretch) → Follow n (A ++ (e ∷ B)) → 1 < e.count → length (A ++ (e ∷ B)) + 1 ≤ runs (A ++ (e ∷ B))
spare n A B e f more =
    let back = follow_back n A (e ∷ B) f in
    omega (arith, entries_few n A (follow_front n A (e ∷ B) f), entries_few _ B back.2, length-append A (e ∷ B), runs_append A (e ∷ B), runs_more e B)

-- the record of a run, by the stretch that has it
pub record_in : (low run : ℕ) (A B : List Stretch) (e : Stretch) → Follow low (A ++ (e ∷ B)) → e.first ≤ run → run < e.first + e.count
    → get_or (records_of (A ++ (e ∷ B))) (run - low) [] ≡ e.kept
record_in low run A B e f from to =
    let back = follow_back low A (e ∷ B) f in
    let k = run - low - runs A in
    let inside : k < e.count = omega (arith, back.0) in
    ap (λ l. get_or l (run - low) []) (records_append A (e ∷ B))
    ∙ get_or-append_right (records_of A) (records_of (e ∷ B)) (runs A) (run - low) [] refl (omega (arith, back.0))
    ∙ get_or_append_left (replicate e.count e.kept) (records_of B) [] k (omega (arith, length-replicate e.count e.kept))
    ∙ get_or-replicate e.count k e.kept [] inside

module _ (b : Bounds) (used : ℕ) (m : List ℕ) (k : Kept b used m) where
  abbrev ss : List Stretch
  ss = stretches_in b.width used m

  pub total : runs ss ≡ b.high + 1 - b.low
  total = k.count

  pub follow_at : (A B : List Stretch) (e : Stretch) → ss ≡ A ++ (e ∷ B) → Follow b.low (A ++ (e ∷ B))
  follow_at A B e is = subst (Follow b.low) is (follow_in b used m k)

  -- room for one entry more, where a stretch of several runs is cut
  pub more_room : (A B : List Stretch) (e : Stretch) (n : ℕ) → Follow b.low (A ++ (e ∷ B)) → runs (A ++ (e ∷ B)) ≡ b.high + 1 - b.low → length (A ++ (e ∷ B)) ≡ n → 1 < e.count
      → n * (b.width + 8) + (b.width + 8) ≤ length m
  more_room A B e n f all long more =
      let one = spare b.low A B e f more in
      let size = b.width + 8 in
      let fits : suc n * size ≤ b.limit * size = mul-le-mul_right size (omega (arith, k.window)) in
      omega (arith, k.inside)

  module _ (run : ℕ) (from : b.low ≤ run) (to : run ≤ b.high) where
    -- there is an entry, and the first does not begin above the run
    begins : (u : ℕ) → Follow b.low (stretches_in b.width u m) → runs (stretches_in b.width u m) ≡ b.high + 1 - b.low → (0 < u) × ((stretch_at b.width m 0).first ≤ run)
    begins zero f n = absurd (omega arith)
    begins (suc u) f n = (omega arith, omega (arith, f.0))

    pub some_entry : 0 < used
    some_entry = (begins used (follow_in b used m k) total).0

    pub first_entry : (stretch_at b.width m 0).first ≤ run
    first_entry = (begins used (follow_in b used m k) total).1

    ends_at : (i : ℕ) (A B : List Stretch) (e : Stretch) → ss ≡ A ++ (e ∷ B) → length A ≡ i → (i + 1 < used → run < (stretch_at b.width m (i + 1)).first) → run < e.first + e.count
    ends_at i A [] e is place next =
        let back = follow_back b.low A (e ∷ []) (follow_at A [] e is) in
        omega (arith, runs_append A (e ∷ []), runs_more e [], back.0, k.window, ap runs is, total)
    ends_at i A (s ∷ B) e is place next =
        let back = follow_back b.low A (e ∷ s ∷ B) (follow_at A (s ∷ B) e is) in
        let reads = read_at b.width used m (i + 1) (A ++ (e ∷ [])) B s (is ∙ sym (append_assoc A (e ∷ []) (s ∷ B))) (length_push A e ∙ ap (λ j. j + 1) place) in
        let above = subst (λ (x : Stretch). run < x.first) reads (next (omega (arith, counted b.width used m, ap length is, length-append A (e ∷ s ∷ B)))) in
        omega (arith, back.0, back.2.0)

    -- it ends at the run or above, where the next begins above it
    pub found : (i : ℕ) → i < used → (i + 1 < used → run < (stretch_at b.width m (i + 1)).first) → run < (stretch_at b.width m i).first + (stretch_at b.width m i).count
    found i lt next = let a = around_in b.width used m i lt in ends_at i a.front a.back (stretch_at b.width m i) a.is a.place next

    pub found_record : (i : ℕ) → i < used → (stretch_at b.width m i).first ≤ run → run < (stretch_at b.width m i).first + (stretch_at b.width m i).count
        → record_at (meaning_of b used m) run ≡ (stretch_at b.width m i).kept
    found_record i lt begin end =
        let a = around_in b.width used m i lt in
        ap (λ l. get_or (records_of l) (run - b.low) []) a.is ∙ record_in b.low run a.front a.back (stretch_at b.width m i) (follow_at a.front a.back (stretch_at b.width m i) a.is) begin end
