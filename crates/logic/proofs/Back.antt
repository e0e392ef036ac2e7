-- One step back: what looks back over states and runs, by its earlier value. Assumes nothing.
use Rattle.std.proofs.Common.{◌≡◌, ℕ, zero, suc, Bool, true, false, cond, eqb, [], ◌∷◌, Some, None, Option, unwrap_or, sym, refl, ap, ◌∙◌}
use Rattle.std.specs.Option.{option_map}
use Rattle.scales.specs.Algebra.{Algebra, Laws, and}
use Rattle.scales.proofs.Ands.{and_no}
use Rattle.lines.specs.declared.line.Infix.TheVariants as pair
use Rattle.logic.specs.History.{History, start, report, close, high, earlier, before, earlier_run}
use Rattle.logic.specs.Truth.{Truths, from_earlier, at_earlier, over_states, infix_truth}
use Rattle.logic.specs.Readings.{LocalReadings, GlobalReadings}

cond_mapped : {A B : Type 0} (f : A → B) (b : Bool) (x y : Option A) {x' y' : Option B} →
    x' ≡ option_map f x → y' ≡ option_map f y → cond b x' y' ≡ option_map f (cond b x y)
cond_mapped f true x y p q = p
cond_mapped f false x y p q = q

module _ (first : Truths) (next : History → ℕ → ℕ → ℕ) where
  -- what the earlier state has is what looking back gives there
  pub at_earlier_is : (h : History) (s : ℕ) → at_earlier first next h s ≡ option_map (λ g. over_states first next g s) (earlier h s)
  at_earlier_is [] s = refl
  at_earlier_is (start q ∷ h) s = cond_mapped (λ g. over_states first next g s) (eqb s (suc (high h))) None (earlier h s) refl (at_earlier_is h s)
  at_earlier_is (report r q ∷ h) s = cond_mapped (λ g. over_states first next g s) (eqb s r) (Some h) (earlier h s) refl (at_earlier_is h s)
  at_earlier_is (close r ∷ h) s = at_earlier_is h s

  pub over_states_step : (h : History) (s : ℕ) →
      over_states first next h s ≡ from_earlier first next (option_map (λ g. over_states first next g s) (earlier h s)) h s
  over_states_step h s = ap (λ o. from_earlier first next o h s) (at_earlier_is h s)

  pub over_states_first : (h : History) (s : ℕ) → earlier h s ≡ None → over_states first next h s ≡ first h s
  over_states_first h s e = over_states_step h s ∙ ap (λ o. from_earlier first next (option_map (λ g. over_states first next g s) o) h s) e

  pub over_states_later : (h g : History) (s : ℕ) → earlier h s ≡ Some g → over_states first next h s ≡ next h s (over_states first next g s)
  over_states_later h g s e = over_states_step h s ∙ ap (λ o. from_earlier first next (option_map (λ g. over_states first next g s) o) h s) e

-- a function of what is before
pub before_reads : {A B : Type 0} (f : A → B) (d : A) (e : B) (v : History → ℕ → A) (w : History → ℕ → B) →
    f d ≡ e → ((h : History) (s : ℕ) → f (v h s) ≡ w h s) → (h : History) (s : ℕ) → f (before d v h s) ≡ before e w h s
before_reads f d e v w p q h s = by (earlier h s)
  where
    by : (o : Option History) → f (unwrap_or (option_map (λ g. v g s) o) d) ≡ unwrap_or (option_map (λ g. w g s) o) e
    by None = p
    by (Some g) = q g s

pub earlier_run_reads : {A B : Type 0} (f : A → B) (d : A) (e : B) (v : ℕ → A) (w : ℕ → B) →
    f d ≡ e → ((s : ℕ) → f (v s) ≡ w s) → (s : ℕ) → f (earlier_run d v s) ≡ earlier_run e w s
earlier_run_reads f d e v w p q zero = p
earlier_run_reads f d e v w p q (suc zero) = p
earlier_run_reads f d e v w p q (suc (suc n)) = q (suc n)

pub before_always : {A : Type 0} (d : A) (h : History) (s : ℕ) → before d (λ _ _. d) h s ≡ d
before_always d h s = by (earlier h s)
  where
    by : (o : Option History) → unwrap_or (option_map (λ _. d) o) d ≡ d
    by None = refl
    by (Some g) = refl

-- both since read their own earlier truth: where there is none, (a and no) is no
module _ (S : Algebra) (L : Laws S) (v w : Truths) where
  pub SL_reads : (h : History) (s : ℕ) →
      infix_truth S pair.SL v w h s ≡ S.or (w h s) (and S (v h s) (before S.no (infix_truth S pair.SL v w) h s))
  SL_reads h s =
      over_states_step (λ g t. S.or (w g t) S.no) (λ g t x. S.or (w g t) (and S (v g t) x)) h s ∙ by (earlier h s)
    where
      by : (o : Option History) →
          from_earlier (λ g t. S.or (w g t) S.no) (λ g t x. S.or (w g t) (and S (v g t) x)) (option_map (λ g. infix_truth S pair.SL v w g s) o) h s
          ≡ S.or (w h s) (and S (v h s) (unwrap_or (option_map (λ g. infix_truth S pair.SL v w g s) o) S.no))
      by None = ap (S.or (w h s)) (sym (and_no S L (v h s)))
      by (Some g) = refl

  pub SG_reads : (h : History) (s : ℕ) →
      infix_truth S pair.SG v w h s ≡ S.or (w h s) (and S (v h s) (earlier_run S.no (infix_truth S pair.SG v w h) s))
  SG_reads h zero = ap (S.or (w h zero)) (sym (and_no S L (v h zero)))
  SG_reads h (suc zero) = ap (S.or (w h (suc zero))) (sym (and_no S L (v h (suc zero))))
  SG_reads h (suc (suc n)) = refl

pub local_readings : LocalReadings
local_readings S a b h s = record {
  YL_first = λ e. rw e;
  YL_later = λ g e. rw e;
  SL_first = λ e. over_states_first _ _ h s e;
  SL_later = λ g e. over_states_later _ _ h g s e;
  OL_first = λ e. over_states_first _ _ h s e;
  OL_later = λ g e. over_states_later _ _ h g s e;
  HL_first = λ e. over_states_first _ _ h s e;
  HL_later = λ g e. over_states_later _ _ h g s e;
}

pub global_readings : GlobalReadings
global_readings S a b h n = record {
  YG_first = refl;
  YG_later = refl;
  SG_first = refl;
  SG_later = refl;
  OG_first = refl;
  OG_later = refl;
  HG_first = refl;
  HG_later = refl;
}
