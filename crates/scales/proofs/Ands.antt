-- What `and` keeps of the laws, on every scale. Assumes nothing.
use Rattle.std.proofs.Common.{◌≡◌, ℕ, true, sym, ap, ◌∙◌, inl, inr}
use Rattle.std.proofs.lemmas.Bool.{cases_Bool}
use Rattle.scales.specs.Algebra.{Algebra, Laws, and}

module _ (S : Algebra) (L : Laws S) where
  pub not_no : S.not S.no ≡ S.yes
  not_no = ap S.not (sym L.not_yes) ∙ L.not_not S.yes L.yes_code

  -- not, or and and give a code whatever they are given
  pub not_gives_code : (a : ℕ) → S.code (S.not a) ≡ true
  not_gives_code a = elim (cases_Bool (S.code a)) [
    | inl c ↦ L.not_code a c
    | inr c ↦ ap S.code (L.not_other a c) ∙ L.no_code
  ]

  pub or_gives_code : (a b : ℕ) → S.code (S.or a b) ≡ true
  or_gives_code a b = elim (cases_Bool (S.code a)) [
    | inl c ↦ elim (cases_Bool (S.code b)) [
      | inl d ↦ L.or_code a b c d
      | inr d ↦ ap S.code (L.or_other_right a b d) ∙ L.no_code
    ]
    | inr c ↦ ap S.code (L.or_other_left a b c) ∙ L.no_code
  ]

  pub and_gives_code : (a b : ℕ) → S.code (and S a b) ≡ true
  and_gives_code a b = not_gives_code (S.or (S.not a) (S.not b))

  -- and with no and with yes, on either side
  pub and_no : (a : ℕ) → and S a S.no ≡ S.no
  and_no a = ap (λ x. S.not (S.or (S.not a) x)) not_no ∙ ap S.not (L.or_yes (S.not a) (not_gives_code a)) ∙ L.not_yes

  pub no_and : (a : ℕ) → and S S.no a ≡ S.no
  no_and a = ap (λ x. S.not (S.or x (S.not a))) not_no ∙ ap S.not (L.yes_or (S.not a) (not_gives_code a)) ∙ L.not_yes

  pub and_yes : (a : ℕ) → S.code a ≡ true → and S a S.yes ≡ a
  and_yes a c = ap (λ x. S.not (S.or (S.not a) x)) L.not_yes ∙ ap S.not (L.or_no (S.not a) (L.not_code a c)) ∙ L.not_not a c

  pub yes_and : (a : ℕ) → S.code a ≡ true → and S S.yes a ≡ a
  yes_and a c = ap (λ x. S.not (S.or x (S.not a))) L.not_yes ∙ ap S.not (L.no_or (S.not a) (L.not_code a c)) ∙ L.not_not a c

  -- not of an and, and of an or
  pub not_and : (a b : ℕ) → S.not (and S a b) ≡ S.or (S.not a) (S.not b)
  not_and a b = L.not_not (S.or (S.not a) (S.not b)) (or_gives_code (S.not a) (S.not b))

  pub and_nots : (a b : ℕ) → S.code a ≡ true → S.code b ≡ true → and S (S.not a) (S.not b) ≡ S.not (S.or a b)
  and_nots a b c d = ap (λ x. S.not (S.or x (S.not (S.not b)))) (L.not_not a c) ∙ ap (λ x. S.not (S.or a x)) (L.not_not b d)

  -- clearer sides, a clearer and
  pub clear_and : (b a d c : ℕ) → S.clear b a ≡ true → S.clear d c ≡ true → S.clear (and S b d) (and S a c) ≡ true
  clear_and b a d c h i = L.clear_not _ _ (L.clear_or _ _ _ _ (L.clear_not b a h) (L.clear_not d c i))

  -- a yes or a no stays in all that is as clear
  pub clear_stays_yes : (b a : ℕ) → S.clear b a ≡ true → a ≡ S.yes → b ≡ S.yes
  clear_stays_yes b a h e = L.clear_yes b (sym (ap (S.clear b) e) ∙ h)

  pub clear_stays_no : (b a : ℕ) → S.clear b a ≡ true → a ≡ S.no → b ≡ S.no
  clear_stays_no b a h e = L.clear_no b (sym (ap (S.clear b) e) ∙ h)
