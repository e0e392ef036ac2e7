-- What an event leaves as it was, and what it makes of a row. Assumes nothing.
use Rattle.std.proofs.Common.{◌≡◌, ℕ, zero, suc, ◌<◌, ◌≤◌, List, [], ◌∷◌, map, get_or, Some, None, Option, unwrap_or, sym, refl, ap, ◌∙◌, ap₂, arith}
use Rattle.std.specs.Option.{option_map}
use Rattle.std.proofs.lemmas.Bool.{eq-eqb, ne_eqb}
use Rattle.scales.specs.Algebra.{Algebra, and}
use Rattle.lines.specs.declared.line.Prefix.{Prefix}
use Rattle.lines.specs.declared.line.Prefix.TheVariants as single
use Rattle.lines.specs.declared.line.Infix.{Infix}
use Rattle.lines.specs.declared.line.Infix.TheVariants as pair
use Rattle.lines.specs.declared.line.Line.{Line}
use Rattle.lines.specs.Forms.{Form, atom, no, yes, prefixed, joined}
use Rattle.lines.specs.Stands.{forms}
use Rattle.logic.specs.History.{History, start, report, close, high, present, earlier, before, earlier_run}
use Rattle.logic.specs.Truth.{Truths, over_runs, from_earlier, over_states, prefix_truth, infix_truth, truth}
use Rattle.logic.specs.Rows.{row, nos, step}
use Rattle.logic.specs.Steps.{ReportRow, StartRow, CloseStays}
use Rattle.logic.specs.Reach.{BelowStays, NoGap}
use Rattle.logic.proofs.Back.{over_states_step}
use Rattle.logic.proofs.Rows.{row_step}

pub map_same : {A B : Type 0} (f g : A → B) (xs : List A) → ((x : A) → f x ≡ g x) → map f xs ≡ map g xs
map_same f g [] e = refl
map_same f g (x ∷ xs) e = ap₂ ◌∷◌ (e x) (map_same f g xs e)

over_runs_same : (first first' : ℕ → ℕ) (next next' : ℕ → ℕ → ℕ) (s : ℕ) → ((t : ℕ) → t ≤ s → first t ≡ first' t) → ((t : ℕ) → t ≤ s → (x : ℕ) → next t x ≡ next' t x) →
    over_runs first next s ≡ over_runs first' next' s
over_runs_same first first' next next' zero p q = p zero (omega arith)
over_runs_same first first' next next' (suc zero) p q = p (suc zero) (omega arith)
over_runs_same first first' next next' (suc (suc n)) p q =
    ap (next (suc (suc n))) (over_runs_same first first' next next' (suc n) (λ t le. p t (omega arith)) (λ t le. q t (omega arith)))
    ∙ q (suc (suc n)) (omega arith) (over_runs first' next' (suc n))

over_states_same : (first : Truths) (next : History → ℕ → ℕ → ℕ) (g h : History) (s : ℕ) → earlier g s ≡ earlier h s → first g s ≡ first h s → ((x : ℕ) → next g s x ≡ next h s x) →
    over_states first next g s ≡ over_states first next h s
over_states_same first next g h s e p q =
    over_states_step first next g s ∙ ap (λ o. from_earlier first next (option_map (λ k. over_states first next k s) o) g s) e
    ∙ by (option_map (λ k. over_states first next k s) (earlier h s)) ∙ sym (over_states_step first next h s)
  where
    by : (o : Option ℕ) → from_earlier first next o g s ≡ from_earlier first next o h s
    by None = p
    by (Some x) = q x

-- two histories that say the same of each run below m
module _ (S : Algebra) (g h : History) (m : ℕ) (states : (t : ℕ) → t < m → present g t ≡ present h t) (back : (t : ℕ) → t < m → earlier g t ≡ earlier h t) where
  Same : Truths → Type 0
  Same v = (t : ℕ) → t < m → v g t ≡ v h t

  prefix_same : (o : Prefix) (v : Truths) → Same v → Same (prefix_truth S o v)
  unfolding Same
  prefix_same single.Not v e t lt = ap S.not (e t lt)
  prefix_same single.YL v e t lt = ap (λ o. unwrap_or (option_map (λ k. v k t) o) S.no) (back t lt)
  prefix_same single.OL v e t lt = over_states_same _ _ g h t (back t lt) (e t lt) (λ x. ap (λ y. S.or y x) (e t lt))
  prefix_same single.HL v e t lt = over_states_same _ _ g h t (back t lt) (e t lt) (λ x. ap (λ y. and S y x) (e t lt))
  prefix_same single.YG v e zero lt = refl
  prefix_same single.YG v e (suc zero) lt = refl
  prefix_same single.YG v e (suc (suc n)) lt = e (suc n) (omega arith)
  prefix_same single.OG v e t lt = over_runs_same _ _ _ _ t (λ u le. e u (omega arith)) (λ u le x. ap (λ y. S.or y x) (e u (omega arith)))
  prefix_same single.HG v e t lt = over_runs_same _ _ _ _ t (λ u le. e u (omega arith)) (λ u le x. ap (λ y. and S y x) (e u (omega arith)))

  infix_same : (o : Infix) (v w : Truths) → Same v → Same w → Same (infix_truth S o v w)
  unfolding Same
  infix_same pair.SL v w d e t lt =
      over_states_same _ _ g h t (back t lt) (ap (λ y. S.or y S.no) (e t lt)) (λ x. ap₂ (λ y z. S.or y (and S z x)) (e t lt) (d t lt))
  infix_same pair.SG v w d e t lt =
      over_runs_same _ _ _ _ t (λ u le. ap (λ y. S.or y S.no) (e u (omega arith))) (λ u le x. ap₂ (λ y z. S.or y (and S z x)) (e u (omega arith)) (d u (omega arith)))
  infix_same pair.And v w d e t lt = ap₂ (and S) (d t lt) (e t lt)
  infix_same pair.Or v w d e t lt = ap₂ S.or (d t lt) (e t lt)
  infix_same pair.Implies v w d e t lt = ap₂ (λ y z. S.or (S.not y) z) (d t lt) (e t lt)

  same : (f : Form) → Same (truth S f)
  unfolding Same
  same (atom i) t lt = ap (λ q. get_or q i S.no) (states t lt)
  same no t lt = refl
  same yes t lt = refl
  same (prefixed o f) t lt = prefix_same o (truth S f) (same f) t lt
  same (joined o f f') t lt = infix_same o (truth S f) (truth S f') (same f) (same f') t lt

  pub truth_same : (f : Form) (t : ℕ) → t < m → truth S f g t ≡ truth S f h t
  unfolding Same
  truth_same = same

pub below_stays : BelowStays
below_stays S f h r q s lt =
    truth_same S (report r q ∷ h) h r (λ t l. rw (ne_eqb t r (λ e. omega arith))) (λ t l. rw (ne_eqb t r (λ e. omega arith))) f s lt

pub close_stays : CloseStays
close_stays S f h r s = truth_same S (close r ∷ h) h (suc s) (λ t l. refl) (λ t l. refl) f s (omega arith)

-- a start leaves the runs that are there
pub start_stays : (S : Algebra) (f : Form) (h : History) (q : List ℕ) (s : ℕ) → s ≤ high h → truth S f (start q ∷ h) s ≡ truth S f h s
start_stays S f h q s le =
    truth_same S (start q ∷ h) h (suc (high h)) (λ t l. rw (ne_eqb t (suc (high h)) (λ e. omega arith))) (λ t l. rw (ne_eqb t (suc (high h)) (λ e. omega arith))) f s (omega arith)

-- the same of whole rows
pub row_below_stays : (S : Algebra) (ls : List Line) (h : History) (r : ℕ) (q : List ℕ) (s : ℕ) → s < r → row S ls (report r q ∷ h) s ≡ row S ls h s
row_below_stays S ls h r q s lt = map_same _ _ (forms ls) (λ f. below_stays S f h r q s lt)

pub row_close_stays : (S : Algebra) (ls : List Line) (h : History) (r s : ℕ) → row S ls (close r ∷ h) s ≡ row S ls h s
row_close_stays S ls h r s = map_same _ _ (forms ls) (λ f. close_stays S f h r s)

pub row_start_stays : (S : Algebra) (ls : List Line) (h : History) (q : List ℕ) (s : ℕ) → s ≤ high h → row S ls (start q ∷ h) s ≡ row S ls h s
row_start_stays S ls h q s le = map_same _ _ (forms ls) (λ f. start_stays S f h q s le)

-- the run before has the same where its own row has
pub earlier_run_same : {A : Type 0} (d : A) (v w : ℕ → A) (n : ℕ) → v n ≡ w n → earlier_run d v (suc n) ≡ earlier_run d w (suc n)
earlier_run_same d v w zero e = refl
earlier_run_same d v w (suc n) e = e

pub start_row : StartRow
start_row S L n ls ok h q = (
  row_step S L n ls ok (start q ∷ h) (suc (high h))
      ∙ rw (eq-eqb (suc (high h)) (suc (high h)) refl)
      (ap (step S ls q (nos S ls)) (earlier_run_same (nos S ls) (row S ls (start q ∷ h)) (row S ls h) (high h) (row_start_stays S ls h q (high h) (omega arith)))),
  λ f s le. start_stays S f h q s le,
)

pub report_row : ReportRow
report_row S L n ls ok h r q = (
  row_step S L n ls ok (report r q ∷ h) r ∙ rw (eq-eqb r r refl),
  λ s e. row_step S L n ls ok (report r q ∷ h) s ∙ rw (ne_eqb s r e),
)

pub no_gap : NoGap
no_gap S L n ls ok h r q s above same =
    (report_row S L n ls ok h r q).1 (suc s) (λ e. omega arith)
    ∙ ap (step S ls (present h (suc s)) (before (nos S ls) (row S ls) h (suc s))) (earlier_run_same (nos S ls) (row S ls (report r q ∷ h)) (row S ls h) s same)
    ∙ sym (row_step S L n ls ok h (suc s))
