-- Records listed by run: one replaced, one more, some dropped. Assumes nothing.
use Rattle.std.proofs.Common.{◌≡◌, ℕ, ◌+◌, ◌-◌, ◌<◌, ◌≤◌, ◌≢◌, [], ◌∷◌, ◌++◌, map, length, get_or, drop, set, sym, refl, ap, ◌∙◌, ⊎_elim, arith}
use Rattle.std.specs.List.{range_with_len}
use Rattle.std.proofs.lemmas.List.{same_lists, length-set, get_or-set_same, get_or-set_other, length-drop, get_or-drop}
use Rattle.std.proofs.lemmas.Bool.{cases_order}
use Rattle.std.proofs.lemmas.List.FromFn.{length-map-range_with_len, get_or-map-range_with_len, map-range_with_len_more}

module _ {X : Type 0} (f g : ℕ → X) (low n : ℕ) where
  pub listed_same : ((j : ℕ) → low ≤ j → j < low + n → g j ≡ f j) → map g (range_with_len low n) ≡ map f (range_with_len low n)
  listed_same same =
      same_lists _ _ (length-map-range_with_len g low n ∙ sym (length-map-range_with_len f low n))
      (λ k d h.
      let l = length-map-range_with_len g low n in
      let lt : k < n = omega arith in
      get_or-map-range_with_len g low n k (low + k) d lt refl ∙ same (low + k) (omega arith) (omega arith) ∙ sym (get_or-map-range_with_len f low n k (low + k) d lt refl))

  pub listed_set : (run : ℕ) (r : X) → low ≤ run → run < low + n → g run ≡ r → ((j : ℕ) → low ≤ j → j < low + n → (j ≡ run → ⊥) → g j ≡ f j) →
      map g (range_with_len low n) ≡ set (map f (range_with_len low n)) (run - low) r
  listed_set run r a b here same =
      let xs = map f (range_with_len low n) in
      same_lists _ _ (length-map-range_with_len g low n ∙ sym (length-set xs (run - low) r ∙ length-map-range_with_len f low n))
      (λ k d h.
      let l = length-map-range_with_len g low n in
      let l0 = length-map-range_with_len f low n in
      let lt : k < n = omega arith in
      let is = get_or-map-range_with_len g low n k (low + k) d lt refl in
      ⊎_elim
      (λ (e : k ≡ run - low).
      let at : low + k ≡ run = omega arith in
      let within : run - low < length (map f (range_with_len low n)) = omega arith in
      is ∙ ap g at ∙ here ∙ sym (ap (λ i. get_or (set xs (run - low) r) i d) e ∙ get_or-set_same xs (run - low) r d within))
      (λ e.
      let ne : k ≢ (run - low) = ⊎_elim (λ (p : k < run - low). λ q. omega arith) (λ (p : run - low < k). λ q. omega arith) e in
      let apart : low + k ≡ run → ⊥ = λ q. ne (omega arith) in
      is ∙ same (low + k) (omega arith) (omega arith) apart ∙ sym (get_or-set_other xs (run - low) k r d ne ∙ get_or-map-range_with_len f low n k (low + k) d lt refl))
      (cases_order k (run - low)))

pub listed_push : {X : Type 0} (f g : ℕ → X) (low n : ℕ) (r : X) → g (low + n) ≡ r → ((j : ℕ) → low ≤ j → j < low + n → g j ≡ f j) →
    map g (range_with_len low (n + 1)) ≡ map f (range_with_len low n) ++ r ∷ []
listed_push f g low n r here same =
    map-range_with_len_more g low n (low + n) refl ∙ ap (λ xs. xs ++ g (low + n) ∷ []) (listed_same f g low n same) ∙ ap (λ x. map f (range_with_len low n) ++ x ∷ []) here

pub listed_drop : {X : Type 0} (f : ℕ → X) (low n k : ℕ) → k ≤ n → map f (range_with_len (low + k) (n - k)) ≡ drop k (map f (range_with_len low n))
listed_drop f low n k h =
    same_lists _ _ (length-map-range_with_len f (low + k) (n - k) ∙ sym (length-drop k (map f (range_with_len low n)) ∙ ap (λ i. i - k) (length-map-range_with_len f low n)))
    (λ i d lt0.
    let l = length-map-range_with_len f (low + k) (n - k) in
    let lt : i < n - k = omega arith in
    get_or-map-range_with_len f (low + k) (n - k) i (low + k + i) d lt refl ∙ sym (get_or-drop k (map f (range_with_len low n)) i d ∙ get_or-map-range_with_len f low n (k + i) (low + k + i) d (omega arith) (omega arith)))
