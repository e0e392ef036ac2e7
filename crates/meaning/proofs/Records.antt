-- The parts of a record, by list. Assumes nothing.
use Rattle.std.proofs.Common.{◌≡◌, ℕ, ◌+◌, ◌*◌, List, ◌∷◌, ◌++◌, length, take, drop, sym, ap, ◌∙◌, arith, length-append}
use Rattle.std.proofs.lemmas.List.{take_at, drop_at, drop-drop}
use Rattle.meaning.specs.Records.{state_of, truths_of, past_of, with_truths, renewed}

module _ (f a l : ℕ) (st tr pa : List ℕ) (is-a : length st ≡ a) (is-l : length tr ≡ l) where
  abbrev whole : List ℕ
  whole = f ∷ (st ++ (tr ++ pa))

  pub state_is : state_of a whole ≡ st
  state_is = take_at st (tr ++ pa) a is-a

  pub truths_is : truths_of a l whole ≡ tr
  truths_is = ap (take l) (drop_at st (tr ++ pa) a is-a) ∙ take_at tr pa l is-l

  pub past_is : past_of a l whole ≡ pa
  past_is = sym (drop-drop l a (st ++ (tr ++ pa))) ∙ ap (drop l) (drop_at st (tr ++ pa) a is-a) ∙ drop_at tr pa l is-l

  pub with_is : (out : List ℕ) → length out ≡ l → with_truths a out whole ≡ f ∷ (st ++ (out ++ pa))
  with_is out e =
      ap (λ n. f ∷ (state_of a whole ++ (out ++ past_of a n whole))) e
      ∙ ap (λ t. f ∷ (t ++ (out ++ past_of a l whole))) state_is
      ∙ ap (λ t. f ∷ (st ++ (out ++ t))) past_is

  pub renewed_is : (q : List ℕ) → length q ≡ a → renewed l q whole ≡ f ∷ (q ++ (tr ++ tr))
  renewed_is q e = ap (λ n. f ∷ (q ++ (truths_of n l whole ++ truths_of n l whole))) e ∙ ap (λ t. f ∷ (q ++ (t ++ t))) truths_is

-- the state is as long as the width leaves room for
pub long_state : (f a l : ℕ) (st tr pa : List ℕ) → length tr ≡ l → length pa ≡ l → length (f ∷ (st ++ (tr ++ pa))) ≡ 1 + a + 2 * l → length st ≡ a
long_state f a l st tr pa x y w = let b = length-append st (tr ++ pa) in let c = length-append tr pa in omega arith
