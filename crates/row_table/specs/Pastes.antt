-- Parts of a list laid over it: what stands where then, and in what order they may be laid. Assumes nothing.
use Rattle.std.specs.Prelude.{◌≡◌, ℕ, ◌+◌, ◌≤◌, ◌⊎◌, List, length, take, drop}
use Rattle.std.proofs.Common.{arith, rules}
use Rattle.std.proofs.Math.Seq.{paste}
use Rattle.std.proofs.lemmas.List.{same_lists, places}

module _ (xs : List ℕ) (p w : ℕ) (inside : p + w ≤ length xs) where
  -- what lies there already
  pub paste_itself : paste xs p (take w (drop p xs)) w ≡ xs
  paste_itself = same_lists _ _ (search (rules, places)) (λ k d h. grind (arith, places))

  module _ (a : List ℕ) (la : length a ≡ w) where
    pub paste_same : take w (drop p (paste xs p a w)) ≡ a
    paste_same = same_lists _ _ (search (rules, places)) (λ k d h. grind (arith, places))

    pub paste_over : (b : List ℕ) → length b ≡ w → paste (paste xs p a w) p b w ≡ paste xs p b w
    paste_over b lb = same_lists _ _ (search (rules, places)) (λ k d h. grind (arith, places))

    module _ (q : ℕ) (fits : q + w ≤ length xs) (far : (p + w ≤ q) ⊎ (q + w ≤ p)) where
      pub paste_other : take w (drop q (paste xs p a w)) ≡ take w (drop q xs)
      paste_other = same_lists _ _ (search (rules, places)) (λ k d h. grind (arith, places))

      pub paste_swap : (b : List ℕ) → length b ≡ w → paste (paste xs p a w) q b w ≡ paste (paste xs q b w) p a w
      paste_swap b lb = same_lists _ _ (search (rules, places)) (λ k d h. grind (arith, places))
