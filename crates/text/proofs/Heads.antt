-- How the machine moves outside the rule: through the names, over `rule`, and over the full stop to the end.
use Rattle.std.proofs.Common.{◌≡◌, ℕ, ◌&&◌, leb, List, [], length, Some, None, sym, refl, ap, ◌∙◌}
use Rattle.std.proofs.lemmas.Bool.{cond-true, le-leb}
use Rattle.lines.specs.Forms.{Form}
use Rattle.signs.specs.declared.sign.SignFault.{SignFault}
use Rattle.signs.specs.Signs.{Kind, mark, name, end, found}
use Rattle.signs.specs.Stands.{Stands, sign_stands}
use Rattle.signs.specs.Walk.{then_signs, signs_from}
use Rattle.signs.proofs.Steps.{signs_step}
use Rattle.grammar.specs.declared.fault.GrammarFault.{GrammarFault}
use Rattle.grammar.specs.declared.fault.GrammarFault.TheVariants as faults
use Rattle.grammar.specs.Machine.{State, begun, name_due, name_read, rule_due, in_rule, form_read, choose, step, limit, refused, at_end, run}
use Rattle.names.specs.Names.{span_bytes}
use Rattle.rules.proofs.Moves.{Next, Bad}

-- a state before the rule: the end of the text does not fit there
pub record Head (st : State) : Type 0 where
  pub ends_badly : (n : ℕ) → at_end st n ≡ refused (faults.Misfit n)
  pub no_end : step st end ≡ None

pub head_begun : Head begun
head_begun = record { ends_badly = λ n. refl; no_end = refl }

pub head_name_due : {ns : List (List ℕ)} → Head (name_due ns)
head_name_due = record { ends_badly = λ n. refl; no_end = refl }

pub head_name_read : {ns : List (List ℕ)} → Head (name_read ns)
head_name_read = record { ends_badly = λ n. refl; no_end = refl }

pub head_rule_due : {ns : List (List ℕ)} → Head (rule_due ns)
head_rule_due = record { ends_badly = λ n. refl; no_end = refl }

pub head_form_read : {ns : List (List ℕ)} {f : Form} → Head (in_rule ns (form_read f []))
head_form_read = record { ends_badly = λ n. refl; no_end = refl }

module _ (t : List ℕ) (st : State) (h : Head st) where
  met : (k : Kind) (f e : ℕ) → run st (then_signs (found k f e) (signs_from t)) ≡ choose (step st k) (refused (faults.Misfit f)) (λ next. choose (limit st k f) (run next (signs_from t e)) refused)
  met (mark m) f e = refl
  met (name w) f e = refl
  met end f e = h.ends_badly f ∙ sym (ap (λ o. choose o (refused (faults.Misfit f)) (λ next. choose (limit st end f) (run next (signs_from t e)) refused)) h.no_end)

  next_run : {a : ℕ} {k : Kind} {f e : ℕ} → Next t a k f e → run st (signs_from t a) ≡ choose (step st k) (refused (faults.Misfit f)) (λ next. choose (limit st k f) (run next (signs_from t e)) refused)
  next_run {a} {k} {f} {e} n = ap (run st) (signs_step t a n.within ∙ ap (λ r. then_signs r (signs_from t)) n.is) ∙ met k f e

  pub head_bad : {a : ℕ} {e : SignFault} → Bad t a e → run st (signs_from t a) ≡ refused (faults.Sign e)
  head_bad {a} b = ap (run st) (signs_step t a b.within ∙ ap (λ r. then_signs r (signs_from t)) b.is)

  pub head_leads : {a : ℕ} {k : Kind} {f e : ℕ} (next : State) → Next t a k f e → step st k ≡ Some next → limit st k f ≡ None → run st (signs_from t a) ≡ run next (signs_from t e)
  head_leads {a} {k} {f} {e} next n s l =
      next_run n
      ∙ ap (λ o. choose o (refused (faults.Misfit f)) (λ x. choose (limit st k f) (run x (signs_from t e)) refused)) s
      ∙ ap (λ o. choose o (run next (signs_from t e)) refused) l

  pub head_over : {a : ℕ} {k : Kind} {f e : ℕ} {y : GrammarFault} (next : State) → Next t a k f e → step st k ≡ Some next → limit st k f ≡ Some y → run st (signs_from t a) ≡ refused y
  head_over {a} {k} {f} {e} next n s l =
      next_run n
      ∙ ap (λ o. choose o (refused (faults.Misfit f)) (λ x. choose (limit st k f) (run x (signs_from t e)) refused)) s
      ∙ ap (λ o. choose o (run next (signs_from t e)) refused) l

  pub head_misfits : {a : ℕ} {k : Kind} {f e : ℕ} → Next t a k f e → step st k ≡ None → run st (signs_from t a) ≡ refused (faults.Misfit f)
  head_misfits {a} {k} {f} {e} n s = next_run n ∙ ap (λ o. choose o (refused (faults.Misfit f)) (λ x. choose (limit st k f) (run x (signs_from t e)) refused)) s

-- a name's bytes are its part of the text
pub name_bytes : {text : List ℕ} {at : ℕ} {w : List ℕ} {f e : ℕ} → Stands text at (found (name w) f e) → span_bytes text (record { from = f; to = e }) ≡ w
name_bytes {text} {at} {w} {f} {e} (sign_stands b up within spelled whole) =
    cond-true _ _ _ (ap (λ v. v && leb e (length text)) (le-leb f e up) ∙ le-leb e (length text) within) ∙ spelled
