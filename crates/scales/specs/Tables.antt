-- The laws of a scale with few codes: a test that the checker computes over the table of its codes, and the
-- lemma that turns the test into the laws. Assumes nothing.
use Rattle.std.specs.Prelude.{◌≡◌, ℕ, zero, suc, ◌<◌, ◌≤◌, Bool, true, cond, not, ◌&&◌, List, [], ◌∷◌, ◌==◌, nat_eq, slice_index_or, refl}
use Rattle.std.proofs.Common.{sym, ◌∙◌, subst, inl, inr, arith}
use Rattle.std.proofs.lemmas.Bool.{and_parts, cases_lt, cond-true, cond-false, and_left, and_right, not-true, eqb-true, eq-eqb, both_ways}
use Rattle.scales.specs.Algebra.{Algebra, Laws}
use Rattle.scales.specs.Scales.{on_codes}

abbrev pub implies : Bool → Bool → Bool
implies a b = cond a b true

-- each code of S below k passes the test t
abbrev pub each : Algebra → ℕ → (ℕ → Bool) → Bool
each S zero t = true
each S (suc k) t = implies (S.code k) (t k) && each S k t

abbrev pub all : List Bool → Bool
all [] = true
all (b ∷ bs) = b && all bs

-- the laws of S as tests, over the codes below k
abbrev pub tests : ℕ → Algebra → List Bool
tests k S =
    S.code S.no
    ∷ S.code S.yes
    ∷ not (S.no == S.yes)
    ∷ each S k (λ a. S.code (S.not a))
    ∷ each S k (λ a. each S k (λ b. S.code (S.or a b)))
    ∷ (S.not S.yes == S.no)
    ∷ each S k (λ a. nat_eq (S.not (S.not a)) a)
    ∷ each S k (λ a. nat_eq (S.or a S.no) a)
    ∷ each S k (λ a. nat_eq (S.or S.no a) a)
    ∷ each S k (λ a. nat_eq (S.or a S.yes) S.yes)
    ∷ each S k (λ a. nat_eq (S.or S.yes a) S.yes)
    ∷ each S k (λ a. S.clear a a)
    ∷ each S k (λ c. each S k (λ b. implies (S.clear c b) (each S k (λ a. implies (S.clear b a) (S.clear c a)))))
    ∷ each S k (λ b. each S k (λ a. implies (S.clear b a) (S.clear (S.not b) (S.not a))))
    ∷ each S k (λ b. each S k (λ a. implies (S.clear b a)
    (each S k (λ d. each S k (λ c. implies (S.clear d c) (S.clear (S.or b d) (S.or a c)))))))
    ∷ each S k (λ b. implies (S.clear b S.yes) (b == S.yes))
    ∷ each S k (λ b. implies (S.clear b S.no) (b == S.no))
    ∷ []

implied : (a b : Bool) → implies a b ≡ true → a ≡ true → b ≡ true
implied a b h e = sym (cond-true a b true e) ∙ h

all_at : (bs : List Bool) → all bs ≡ true → (i : ℕ) → slice_index_or bs i true ≡ true
all_at [] h i = refl
all_at (b ∷ bs) h zero = (and_parts b (all bs) h).0
all_at (b ∷ bs) h (suc i) = all_at bs (and_parts b (all bs) h).1 i

each_at : (S : Algebra) (k : ℕ) (t : ℕ → Bool) → each S k t ≡ true → (a : ℕ) → a < k → S.code a ≡ true → t a ≡ true
each_at S zero t h a l c = absurd (omega arith)
each_at S (suc k) t h a l c =
    let parts = and_parts (implies (S.code k) (t k)) (each S k t) h in
    elim (cases_lt a k) [
      | inl below ↦ each_at S k t parts.1 a below c
      | inr above ↦
          let here : k ≡ a = omega arith in
          implied (S.code a) (t a) (subst (λ x. implies (S.code x) (t x) ≡ true) here parts.0) c
    ]

module _ (k : ℕ) (bytes : k ≤ 256) (R : Algebra) (few : (a : ℕ) → R.code a ≡ true → a < k) (passed : all (tests k (on_codes R)) ≡ true) where
  abbrev S : Algebra
  S = on_codes R

  test : (i : ℕ) → slice_index_or (tests k S) i true ≡ true
  test = all_at (tests k S) passed

  at : (t : ℕ → Bool) → each S k t ≡ true → (a : ℕ) → S.code a ≡ true → t a ≡ true
  at t h a c = each_at S k t h a (few a c) c

  codes : (b a : ℕ) → S.clear b a ≡ true → (S.code b ≡ true) × (S.code a ≡ true)
  codes b a h = and_parts (S.code b) (S.code a) (and_parts (S.code b && S.code a) (R.clear b a) h).0

  pub laws_by_test : Laws (on_codes R)
  laws_by_test = record {
    code_byte = λ a c. let l = few a c in omega arith;
    no_code = test 0;
    yes_code = test 1;
    apart = λ e. both_ways (S.no == S.yes) (not-true (S.no == S.yes) (test 2)) (eq-eqb S.no S.yes e);
    not_code = at (λ a. S.code (S.not a)) (test 3);
    or_code = λ a b c d. at (λ b. S.code (S.or a b)) (at (λ a. each S k (λ b. S.code (S.or a b))) (test 4) a c) b d;
    not_other = λ a c. cond-false (S.code a) (R.not a) S.no c;
    or_other_left = λ a b c. cond-false (S.code a && S.code b) (R.or a b) S.no (and_left (S.code a) (S.code b) c);
    or_other_right = λ a b c. cond-false (S.code a && S.code b) (R.or a b) S.no (and_right (S.code a) (S.code b) c);
    not_yes = eqb-true _ _ (test 5);
    not_not = λ a c. eqb-true _ _ (at _ (test 6) a c);
    or_no = λ a c. eqb-true _ _ (at _ (test 7) a c);
    no_or = λ a c. eqb-true _ _ (at _ (test 8) a c);
    or_yes = λ a c. eqb-true _ _ (at _ (test 9) a c);
    yes_or = λ a c. eqb-true _ _ (at _ (test 10) a c);
    clear_codes = codes;
    clear_same = λ a c. at _ (test 11) a c;
    clear_trans = λ c b a h i. implied _ _ (at _ (implied _ _ (at _ (at _ (test 12) c (codes c b h).0) b (codes c b h).1) h) a (codes b a i).1) i;
    clear_not = λ b a h. implied _ _ (at _ (at _ (test 13) b (codes b a h).0) a (codes b a h).1) h;
    clear_or = λ b a d c h i.
        implied _ _ (at _ (at _ (implied _ _ (at _ (at _ (test 14) b (codes b a h).0) a (codes b a h).1) h) d (codes d c i).0) c (codes d c i).1) i;
    clear_yes = λ b h. eqb-true _ _ (implied _ _ (at _ (test 15) b (codes b S.yes h).0) h);
    clear_no = λ b h. eqb-true _ _ (implied _ _ (at _ (test 16) b (codes b S.no h).0) h);
  }
