-- The truth of a form at a run after a history, on any scale. Assumes nothing.
use Rattle.std.specs.Prelude.{ℕ, zero, suc, cond, [], ◌∷◌, Some, None, Option, ◌==◌, slice_index_or}
use Rattle.scales.specs.Algebra.{Algebra, and}
use Rattle.lines.specs.declared.line.Prefix.{Prefix}
use Rattle.lines.specs.declared.line.Prefix.TheVariants as single
use Rattle.lines.specs.declared.line.Infix.{Infix}
use Rattle.lines.specs.declared.line.Infix.TheVariants as pair
use Rattle.lines.specs.Forms.{Form, atom, no, yes, prefixed, joined}
use Rattle.logic.specs.History.{History, start, report, close, high, present, before, earlier_run}

-- a code for each history and run
abbrev pub Truths : Type 0
Truths = History → ℕ → ℕ

-- What looks back over the runs: `first` at run 1, and `next` of what the run before has at any other.
abbrev pub over_runs : (ℕ → ℕ) → (ℕ → ℕ → ℕ) → ℕ → ℕ
over_runs first next zero = first zero
over_runs first next (suc zero) = first (suc zero)
over_runs first next (suc (suc n)) = next (suc (suc n)) (over_runs first next (suc n))

-- What looks back over the states of one run: `first` where the run has no earlier state, and `next` of what
-- the earlier state has where it has one.
abbrev pub from_earlier : Truths → (History → ℕ → ℕ → ℕ) → Option ℕ → Truths
from_earlier first next None h s = first h s
from_earlier first next (Some x) h s = next h s x

-- what the earlier state has, if there is one
abbrev pub at_earlier : Truths → (History → ℕ → ℕ → ℕ) → History → ℕ → Option ℕ
at_earlier first next [] s = None
at_earlier first next (start q ∷ h) s = cond (s == suc (high h)) None (at_earlier first next h s)
at_earlier first next (report r q ∷ h) s =
    cond (s == r) (Some (from_earlier first next (at_earlier first next h s) h s)) (at_earlier first next h s)
at_earlier first next (close r ∷ h) s = at_earlier first next h s

abbrev pub over_states : Truths → (History → ℕ → ℕ → ℕ) → Truths
over_states first next h s = from_earlier first next (at_earlier first next h s) h s

module _ (S : Algebra) where
  -- an operation before its one part v
  abbrev pub prefix_truth : Prefix → Truths → Truths
  prefix_truth single.Not v h s = S.not (v h s)
  prefix_truth single.YL v h s = before S.no v h s
  prefix_truth single.OL v h s = over_states v (λ g t x. S.or (v g t) x) h s
  prefix_truth single.HL v h s = over_states v (λ g t x. and S (v g t) x) h s
  prefix_truth single.YG v h s = earlier_run S.no (v h) s
  prefix_truth single.OG v h s = over_runs (v h) (λ t x. S.or (v h t) x) s
  prefix_truth single.HG v h s = over_runs (v h) (λ t x. and S (v h t) x) s

  -- an operation between its two parts v and w
  abbrev pub infix_truth : Infix → Truths → Truths → Truths
  infix_truth pair.SL v w h s = over_states (λ g t. S.or (w g t) S.no) (λ g t x. S.or (w g t) (and S (v g t) x)) h s
  infix_truth pair.SG v w h s = over_runs (λ t. S.or (w h t) S.no) (λ t x. S.or (w h t) (and S (v h t) x)) s
  infix_truth pair.And v w h s = and S (v h s) (w h s)
  infix_truth pair.Or v w h s = S.or (v h s) (w h s)
  infix_truth pair.Implies v w h s = S.or (S.not (v h s)) (w h s)

  abbrev pub truth : Form → Truths
  truth (atom i) h s = slice_index_or (present h s) i S.no
  truth no h s = S.no
  truth yes h s = S.yes
  truth (prefixed o f) h s = prefix_truth o (truth f) h s
  truth (joined o f g) h s = infix_truth o (truth f) (truth g) h s
