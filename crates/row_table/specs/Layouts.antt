-- The bytes that a list of records is laid out as: each slot of them, and what a call makes of them. Assumes nothing.
use Rattle.std.specs.Prelude.{◌≡◌, ℕ, zero, suc, ◌+◌, ◌-◌, ◌*◌, ◌<◌, ◌≤◌, List, [], ◌∷◌, ◌++◌, map, length, take, drop, replicate, slice_set, refl}
use Rattle.std.proofs.Common.{sym, ap, ◌∙◌, add-zero, arith}
use Rattle.std.proofs.Math.Seq.{paste}
use Rattle.std.specs.List.{range_with_len, AllByRecursion}
use Rattle.std.proofs.lemmas.List.Edits.{length-paste}
use Rattle.std.proofs.lemmas.List.{length-replicate, take-replicate, drop-replicate}
use Rattle.row_table.specs.Image.{place, slot, laid}
use Rattle.row_table.specs.Pastes.{paste_itself, paste_same, paste_over, paste_other, paste_swap}
use Rattle.row_table.specs.Ring.{place_fits, place_again, apart}

map_same : (f g : ℕ → List ℕ) (low n : ℕ) → ((j : ℕ) → low ≤ j → j < low + n → f j ≡ g j) → map f (range_with_len low n) ≡ map g (range_with_len low n)
map_same f g low zero same = refl
map_same f g low (suc n) same =
    ap (λ x. x ∷ map f (range_with_len (low + 1) n)) (same low (omega arith) (omega arith))
    ∙ ap (λ xs. g low ∷ xs) (map_same f g (low + 1) n (λ j a b. same j (omega arith) (omega arith)))

module _ (w L size : ℕ) (some : 1 ≤ L) (inside : L * w ≤ size) where
  abbrev Wide : List (List ℕ) → Type 0
  Wide rs = AllByRecursion (λ r. length r ≡ w) rs

  pub length_laid : (low : ℕ) (rs : List (List ℕ)) → Wide rs → length (laid w L size low rs) ≡ size
  length_laid low [] wide = length-replicate size 0
  length_laid low (r ∷ rs) wide =
      let all = length_laid (low + 1) rs wide.1 in
      let f = place_fits w L low some in
      length-paste (laid w L size (low + 1) rs) (place w L low) r w (omega arith) (omega (arith, wide.0)) ∙ all

  -- one record laid first does not touch the slot of another run
  slot_rest : (low j : ℕ) (r : List ℕ) (rs : List (List ℕ)) → 1 ≤ low → low < j → j < low + L → Wide (r ∷ rs)
      → slot w L (laid w L size low (r ∷ rs)) j ≡ slot w L (laid w L size (low + 1) rs) j
  slot_rest low j r rs first lt near wide =
      let all = length_laid (low + 1) rs wide.1 in
      let f = place_fits w L low some in
      let g = place_fits w L j some in
      paste_other (laid w L size (low + 1) rs) (place w L low) w (omega arith) r wide.0 (place w L j) (omega arith) (apart w L low j first lt near)

  -- nor does it matter which of the two is laid first
  laid_later : (low j : ℕ) (x : List ℕ) (rs : List (List ℕ)) (r : List ℕ) → 1 ≤ low → low < j → j < low + L → Wide (x ∷ rs) → length r ≡ w
      → paste (laid w L size low (x ∷ rs)) (place w L j) r w ≡ paste (paste (laid w L size (low + 1) rs) (place w L j) r w) (place w L low) x w
  laid_later low j x rs r first lt near wide long =
      let all = length_laid (low + 1) rs wide.1 in
      let f = place_fits w L low some in
      let g = place_fits w L j some in
      paste_swap (laid w L size (low + 1) rs) (place w L low) w (omega arith) x wide.0 (place w L j) (omega arith) (apart w L low j first lt near) r long

  -- a slot that no run of the list uses is zero
  pub slot_spare : (low j : ℕ) (rs : List (List ℕ)) → 1 ≤ low → low + length rs ≤ j → j < low + L → Wide rs
      → slot w L (laid w L size low rs) j ≡ replicate w 0
  slot_spare low j [] first past near wide =
      let f = place_fits w L j some in
      ap (take w) (drop-replicate (place w L j) size 0) ∙ take-replicate w (size - place w L j) 0 (omega arith)
  slot_spare low j (r ∷ rs) first past near wide =
      slot_rest low j r rs first (omega arith) near wide ∙ slot_spare (low + 1) j rs (omega arith) (omega arith) (omega arith) wide.1

  -- the slots of the runs, read in turn, are the records
  pub slots_laid : (low : ℕ) (rs : List (List ℕ)) → 1 ≤ low → length rs ≤ L → Wide rs
      → map (slot w L (laid w L size low rs)) (range_with_len low (length rs)) ≡ rs
  slots_laid low [] first room wide = refl
  slots_laid low (r ∷ rs) first room wide =
      let all = length_laid (low + 1) rs wide.1 in
      let f = place_fits w L low some in
      let here : slot w L (laid w L size low (r ∷ rs)) low ≡ r = paste_same (laid w L size (low + 1) rs) (place w L low) w (omega arith) r wide.0 in
      let later = map_same _ _ (low + 1) (length rs) (λ j a b. slot_rest low j r rs first (omega arith) (omega arith) wide) in
      ap (λ x. x ∷ map (slot w L (laid w L size low (r ∷ rs))) (range_with_len (low + 1) (length rs))) here
      ∙ ap (λ xs. r ∷ xs) (later ∙ slots_laid (low + 1) rs (omega arith) (omega arith) wide.1)

  -- a run's record is laid over the one that its slot holds
  pub laid_write : (low k : ℕ) (rs : List (List ℕ)) (r : List ℕ) → 1 ≤ low → length rs ≤ L → k < length rs → Wide rs → length r ≡ w
      → paste (laid w L size low rs) (place w L (low + k)) r w ≡ laid w L size low (slice_set rs k r)
  laid_write low k [] r first room lt wide long = absurd (omega arith)
  laid_write low zero (x ∷ rs) r first room lt wide long =
      let all = length_laid (low + 1) rs wide.1 in
      let f = place_fits w L low some in
      ap (λ i. paste (laid w L size low (x ∷ rs)) (place w L i) r w) (add-zero low)
      ∙ paste_over (laid w L size (low + 1) rs) (place w L low) w (omega arith) x wide.0 r long
  laid_write low (suc k) (x ∷ rs) r first room lt wide long =
      let next : low + suc k ≡ low + 1 + k = omega arith in
      laid_later low (low + suc k) x rs r first (omega arith) (omega arith) wide long
      ∙ ap (λ i. paste (paste (laid w L size (low + 1) rs) (place w L i) r w) (place w L low) x w) next
      ∙ ap (λ b. paste b (place w L low) x w) (laid_write (low + 1) k rs r (omega arith) (omega arith) (omega arith) wide.1 long)

  -- a record is laid into the slot behind the newest run's
  pub laid_append : (low : ℕ) (rs : List (List ℕ)) (r : List ℕ) → 1 ≤ low → length rs < L → Wide rs → length r ≡ w
      → paste (laid w L size low rs) (place w L (low + length rs)) r w ≡ laid w L size low (rs ++ r ∷ [])
  laid_append low [] r first room wide long = ap (λ i. paste (replicate size 0) (place w L i) r w) (add-zero low)
  laid_append low (x ∷ rs) r first room wide long =
      let next : low + suc (length rs) ≡ low + 1 + length rs = omega arith in
      laid_later low (low + suc (length rs)) x rs r first (omega arith) (omega arith) wide long
      ∙ ap (λ i. paste (paste (laid w L size (low + 1) rs) (place w L i) r w) (place w L low) x w) next
      ∙ ap (λ b. paste b (place w L low) x w) (laid_append (low + 1) rs r (omega arith) (omega arith) wide.1 long)

  -- zeros are laid over the oldest run's record
  pub laid_forget : (low : ℕ) (x : List ℕ) (rs : List (List ℕ)) → 1 ≤ low → length rs < L → Wide (x ∷ rs)
      → paste (laid w L size low (x ∷ rs)) (place w L low) (replicate w 0) w ≡ laid w L size (low + 1) rs
  laid_forget low x rs first room wide =
      let rest = laid w L size (low + 1) rs in
      let all = length_laid (low + 1) rs wide.1 in
      let f = place_fits w L low some in
      let spare : replicate w 0 ≡ take w (drop (place w L low) rest) =
      sym (ap (λ p. take w (drop p rest)) (sym (place_again w L low first)) ∙ slot_spare (low + 1) (low + L) rs (omega arith) (omega arith) (omega arith) wide.1)
      in
      paste_over rest (place w L low) w (omega arith) x wide.0 (replicate w 0) (length-replicate w 0)
      ∙ ap (λ z. paste rest (place w L low) z w) spare
      ∙ paste_itself rest (place w L low) w (omega arith)
