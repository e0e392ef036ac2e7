-- The slots of a ring lie inside it, and two of fewer than `limit` runs in a row share none. Assumes nothing.
use Rattle.std.specs.Prelude.{◌≡◌, ℕ, suc, ◌+◌, ◌-◌, ◌*◌, ◌/◌, ◌%◌, ◌<◌, ◌≤◌, ◌⊎◌, ◌≢◌}
use Rattle.std.proofs.Common.{ap, ◌∙◌, inl, inr, ⊎_elim, mod-lt, mul-le-mul_right, arith}
use Rattle.std.proofs.Math.Nat.{mod-add-div', add-mod_right}
use Rattle.std.proofs.lemmas.Bool.{cases_order, cases_lt}
use Rattle.row_table.specs.Image.{place}

once : (x y L : ℕ) → x < y → y < x + L → x % L ≢ y % L
once x y L lt near same =
    let p = mod-add-div' x L in
    let q = mod-add-div' y L in
    ⊎_elim
    (λ (e : x / L < y / L). let m : suc (x / L) * L ≤ y / L * L = mul-le-mul_right L e in omega arith)
    (λ (e : y / L ≤ x / L). let m : y / L * L ≤ x / L * L = mul-le-mul_right L e in omega arith)
    (cases_lt (x / L) (y / L))

module _ (w L : ℕ) where
  pub place_fits : (run : ℕ) → 1 ≤ L → place w L run + w ≤ L * w
  place_fits run h =
      let below : suc ((run - 1) % L) ≤ L = mod-lt (run - 1) h in
      let end : suc ((run - 1) % L) * w ≤ L * w = mul-le-mul_right w below in
      omega arith

  -- a turn of the ring later the same slot comes again
  pub place_again : (run : ℕ) → 1 ≤ run → place w L (run + L) ≡ place w L run
  place_again run h =
      let turn : run + L - 1 ≡ (run - 1) + L = omega arith in
      ap (λ i. (i % L) * w) turn ∙ ap (λ i. i * w) (add-mod_right (run - 1) L)

  behind : (i j : ℕ) → i < j → i * w + w ≤ j * w
  behind i j h = let m : suc i * w ≤ j * w = mul-le-mul_right w h in omega arith

  pub apart : (a b : ℕ) → 1 ≤ a → a < b → b < a + L → (place w L a + w ≤ place w L b) ⊎ (place w L b + w ≤ place w L a)
  apart a b pos lt near =
      ⊎_elim
      (λ e. absurd (once (a - 1) (b - 1) L (omega arith) (omega arith) e))
      (⊎_elim (λ h. inl (behind _ _ h)) (λ h. inr (behind _ _ h)))
      (cases_order ((a - 1) % L) ((b - 1) % L))
