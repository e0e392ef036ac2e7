-- The longest stretch of bytes that pass a test, from a place on.
use Rattle.std.proofs.Common.{◌≡◌, ℕ, ◌+◌, ◌-◌, ◌<◌, ◌≤◌, Bool, true, false, cond, List, length, get_or, drop, refl, subst, arith, length-drop}
use Rattle.std.specs.List.{prefix_len}
use Rattle.std.proofs.lemmas.List.{get_or-drop}
use Rattle.std.proofs.lemmas.List.Sums.{prefix_len-le-length, prefix_len_passes, prefix_len_stops}

-- from a up to b, and no further, each byte passes
pub record Stretch (p : ℕ → Bool) (xs : List ℕ) (a b : ℕ) : Type 0 where
  pub order : a ≤ b
  pub within : b ≤ length xs
  pub each : (i : ℕ) → a ≤ i → i < b → p (get_or xs i 0) ≡ true
  pub stop : b < length xs → p (get_or xs b 0) ≡ false

pub stretch : (p : ℕ → Bool) (xs : List ℕ) (a : ℕ) → a ≤ length xs → Stretch p xs a (a + prefix_len p (drop a xs))
stretch p xs a h =
    let n : prefix_len p (drop a xs) ≤ length xs - a = omega (arith, prefix_len-le-length p (drop a xs), length-drop a xs) in
    record {
      order = omega arith;
      within = omega arith;
      each = λ i l u. let j : a + (i - a) ≡ i = omega arith in subst (λ v. p (get_or xs v 0) ≡ true) j (subst (λ v. p v ≡ true) (get_or-drop a xs (i - a) 0) (prefix_len_passes p (drop a xs) (i - a) 0 (omega arith)));
      stop = λ l. subst (λ v. p v ≡ false) (get_or-drop a xs (prefix_len p (drop a xs)) 0) (prefix_len_stops p (drop a xs) 0 (omega (arith, length-drop a xs)));
    }
