-- Two histories of the same events whose states are in a relation Q: what the operations make of truths that are in
-- a relation R. Said once for every Q and R. Assumes nothing.
use Rattle.std.proofs.Common.{◌≡◌, ℕ, zero, suc, Bool, true, false, cond, eqb, List, [], get_or, Some, None, Option, unwrap_or, refl, ap}
use Rattle.std.specs.Option.{option_map}
use Rattle.scales.specs.Algebra.{Algebra, and}
use Rattle.lines.specs.declared.line.Prefix.{Prefix}
use Rattle.lines.specs.declared.line.Prefix.TheVariants as single
use Rattle.lines.specs.declared.line.Infix.{Infix}
use Rattle.lines.specs.declared.line.Infix.TheVariants as pair
use Rattle.lines.specs.Forms.{Form, atom, no, yes, prefixed, joined}
use Rattle.logic.specs.History.{History, high, present, opened, before, earlier_run, earlier}
use Rattle.logic.specs.Truth.{Truths, over_runs, from_earlier, at_earlier, over_states, prefix_truth, infix_truth, truth}
use Rattle.logic.specs.Clear.{Alike, alike_none, alike_start, alike_report, alike_close}

cond_related : {A B : Type 0} (P : A → B → Type 0) (b : Bool) {x y : A} {x' y' : B} → P x x' → P y y' → P (cond b x y) (cond b x' y')
cond_related P true p q = p
cond_related P false p q = q

-- both or none
pub data Opt {A B : Type 0} (P : A → B → Type 0) : Option A → Option B → Type 0 where
  none : Opt P None None
  some : {x : A} {y : B} → P x y → Opt P (Some x) (Some y)

module _ (Q : List ℕ → List ℕ → Type 0) where
  pub same_high : {g h : History} → Alike Q g h → high g ≡ high h
  same_high alike_none = refl
  same_high (alike_start p c) = ap suc (same_high c)
  same_high (alike_report p c) = same_high c
  same_high (alike_close c) = same_high c

  pub same_opened : {g h : History} → Alike Q g h → (s : ℕ) → opened g s ≡ opened h s
  same_opened alike_none s = refl
  same_opened (alike_start {g = g} {h = h} p c) s = rw (same_high c, same_opened c s)
  same_opened (alike_report p c) s = same_opened c s
  same_opened (alike_close {r = r} c) s = ap (cond (eqb s r) false) (same_opened c s)

  pub present_related : Q [] [] → {g h : History} → Alike Q g h → (s : ℕ) → Q (present g s) (present h s)
  present_related q alike_none s = q
  present_related q (alike_start {h = h} p c) s = rw (same_high c) (cond_related Q (eqb s (suc (high h))) p (present_related q c s))
  present_related q (alike_report {r = r} p c) s = cond_related Q (eqb s r) p (present_related q c s)
  present_related q (alike_close c) s = present_related q c s

  pub earlier_related : {g h : History} → Alike Q g h → (s : ℕ) → Opt (Alike Q) (earlier g s) (earlier h s)
  earlier_related alike_none s = none
  earlier_related (alike_start {h = h} p c) s = rw (same_high c) (cond_related (Opt (Alike Q)) (eqb s (suc (high h))) none (earlier_related c s))
  earlier_related (alike_report {r = r} p c) s = cond_related (Opt (Alike Q)) (eqb s r) (some c) (earlier_related c s)
  earlier_related (alike_close c) s = earlier_related c s

  module _ (R : ℕ → ℕ → Type 0) where
    -- truths that are in the relation at every run of like histories
    abbrev pub Both : Truths → Truths → Type 0
    Both v w = (g h : History) → Alike Q g h → (s : ℕ) → R (v g s) (w h s)

    pub before_related : (d e : ℕ) (v w : Truths) → R d e → Both v w → Both (before d v) (before e w)
    before_related d e v w r b g h c s = by (earlier_related c s)
      where
        by : {o p : Option History} → Opt (Alike Q) o p → R (unwrap_or (option_map (λ k. v k s) o) d) (unwrap_or (option_map (λ k. w k s) p) e)
        by none = r
        by (some {x = g'} {y = h'} c') = b g' h' c' s

    pub earlier_run_related : (d e : ℕ) (v w : ℕ → ℕ) → R d e → ((s : ℕ) → R (v s) (w s)) → (s : ℕ) → R (earlier_run d v s) (earlier_run e w s)
    earlier_run_related d e v w r b zero = r
    earlier_run_related d e v w r b (suc zero) = r
    earlier_run_related d e v w r b (suc (suc n)) = b (suc n)

    pub over_runs_related : (first first' : ℕ → ℕ) (next next' : ℕ → ℕ → ℕ) → ((s : ℕ) → R (first s) (first' s)) → ((s x y : ℕ) → R x y → R (next s x) (next' s y)) →
        (s : ℕ) → R (over_runs first next s) (over_runs first' next' s)
    over_runs_related first first' next next' p q zero = p zero
    over_runs_related first first' next next' p q (suc zero) = p (suc zero)
    over_runs_related first first' next next' p q (suc (suc n)) = q (suc (suc n)) _ _ (over_runs_related first first' next next' p q (suc n))

    module _ (first first' : Truths) (next next' : History → ℕ → ℕ → ℕ) (p : Both first first')
        (q : (g h : History) → Alike Q g h → (s x y : ℕ) → R x y → R (next g s x) (next' h s y)) where
      from_related : (g h : History) → Alike Q g h → (s : ℕ) {x y : Option ℕ} → Opt R x y → R (from_earlier first next x g s) (from_earlier first' next' y h s)
      from_related g h c s none = p g h c s
      from_related g h c s (some {x = x} {y = y} r) = q g h c s x y r

      at_earlier_related : {g h : History} → Alike Q g h → (s : ℕ) → Opt R (at_earlier first next g s) (at_earlier first' next' h s)
      at_earlier_related alike_none s = none
      at_earlier_related (alike_start {h = h} st c) s = rw (same_high c) (cond_related (Opt R) (eqb s (suc (high h))) none (at_earlier_related c s))
      at_earlier_related (alike_report {r = r} {g = g} {h = h} st c) s =
          cond_related (Opt R) (eqb s r) (some (from_related g h c s (at_earlier_related c s))) (at_earlier_related c s)
      at_earlier_related (alike_close c) s = at_earlier_related c s

      pub over_states_related : Both (over_states first next) (over_states first' next')
      over_states_related g h c s = from_related g h c s (at_earlier_related c s)

    -- a relation that the operations of a scale keep
    module _ (S : Algebra) (r-no : R S.no S.no) (r-yes : R S.yes S.yes) (r-not : (b a : ℕ) → R b a → R (S.not b) (S.not a))
        (r-or : (b a d c : ℕ) → R b a → R d c → R (S.or b d) (S.or a c)) where
      r_and : (b a d c : ℕ) → R b a → R d c → R (and S b d) (and S a c)
      r_and b a d c p q = r-not _ _ (r-or _ _ _ _ (r-not b a p) (r-not d c q))

      pub prefix_related : (o : Prefix) (v w : Truths) → Both v w → Both (prefix_truth S o v) (prefix_truth S o w)
      prefix_related single.Not v w b g h c s = r-not _ _ (b g h c s)
      prefix_related single.YL v w b g h c s = before_related S.no S.no v w r-no b g h c s
      prefix_related single.OL v w b g h c s = over_states_related v w _ _ b (λ g h c s x y r. r-or _ _ _ _ (b g h c s) r) g h c s
      prefix_related single.HL v w b g h c s = over_states_related v w _ _ b (λ g h c s x y r. r_and _ _ _ _ (b g h c s) r) g h c s
      prefix_related single.YG v w b g h c s = earlier_run_related S.no S.no (v g) (w h) r-no (b g h c) s
      prefix_related single.OG v w b g h c s = over_runs_related (v g) (w h) _ _ (b g h c) (λ s x y r. r-or _ _ _ _ (b g h c s) r) s
      prefix_related single.HG v w b g h c s = over_runs_related (v g) (w h) _ _ (b g h c) (λ s x y r. r_and _ _ _ _ (b g h c s) r) s

      pub infix_related : (o : Infix) (v v' w w' : Truths) → Both v v' → Both w w' → Both (infix_truth S o v w) (infix_truth S o v' w')
      infix_related pair.SL v v' w w' a b g h c s =
          over_states_related _ _ _ _ (λ g h c s. r-or _ _ _ _ (b g h c s) r-no) (λ g h c s x y r. r-or _ _ _ _ (b g h c s) (r_and _ _ _ _ (a g h c s) r)) g h c s
      infix_related pair.SG v v' w w' a b g h c s =
          over_runs_related _ _ _ _ (λ s. r-or _ _ _ _ (b g h c s) r-no) (λ s x y r. r-or _ _ _ _ (b g h c s) (r_and _ _ _ _ (a g h c s) r)) s
      infix_related pair.And v v' w w' a b g h c s = r_and _ _ _ _ (a g h c s) (b g h c s)
      infix_related pair.Or v v' w w' a b g h c s = r-or _ _ _ _ (a g h c s) (b g h c s)
      infix_related pair.Implies v v' w w' a b g h c s = r-or _ _ _ _ (r-not _ _ (a g h c s)) (b g h c s)

      pub truth_related : Q [] [] → ((p q : List ℕ) → Q p q → (i : ℕ) → R (get_or p i S.no) (get_or q i S.no)) → (f : Form) → Both (truth S f) (truth S f)
      truth_related e at (atom i) g h c s = at _ _ (present_related e c s) i
      truth_related e at no g h c s = r-no
      truth_related e at yes g h c s = r-yes
      truth_related e at (prefixed o f) g h c s = prefix_related o (truth S f) (truth S f) (truth_related e at f) g h c s
      truth_related e at (joined o f f') g h c s =
          infix_related o (truth S f) (truth S f) (truth S f') (truth S f') (truth_related e at f) (truth_related e at f') g h c s
