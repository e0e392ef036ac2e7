-- The whole of a text: from its first byte to its end.
use Rattle.std.proofs.Common.{arith, ◌≡◌, ℕ, ◌≤◌, Bool, true, false, cond, ltb, List, [], map, length, take, Some, None, Ok, Err, Result, sym, refl, ap, ◌∙◌, subst}
use Rattle.std.proofs.lemmas.Bool.{cond-false, ltb-false}
use Rattle.lines.specs.declared.line.Line.{Line}
use Rattle.lines.specs.Forms.{Form, declared}
use Rattle.lines.specs.Written.{kept_lines, Written}
use Rattle.signs.specs.declared.sign.Mark.TheVariants.{Close, Stop, Atoms, Rule}
use Rattle.signs.specs.declared.sign.Mark.{Mark}
use Rattle.signs.specs.declared.sign.Sign.{Sign}
use Rattle.signs.specs.declared.sign.SignFault.{SignFault}
use Rattle.signs.specs.declared.sign.SignFault.TheVariants.{TooLong}
use Rattle.signs.specs.Signs.{Kind, mark, name, end, found, length_answer}
use Rattle.signs.specs.Walk.{Signs, then_signs, signs_from}
use Rattle.signs.proofs.Steps.{signs_step}
use Rattle.grammar.specs.declared.fault.GrammarFault.{GrammarFault}
use Rattle.grammar.specs.declared.fault.GrammarFault.TheVariants as faults
use Rattle.grammar.specs.Machine.{is_mark, State, begun, name_due, rule_due, in_rule, stopped, due, form_read, no_lefts, after_form, ended, step, limit, Outcome, accepted, refused, run, outcome}
use Rattle.grammar.proofs.Sound.{mark_is}
use Rattle.names.specs.Names.{span_bytes, names_of}
use Rattle.rules.specs.declared.parser.Parser.{Parser}
use Rattle.rules.specs.Parts.{text_of, place_of, declared_in, signs_at, lines_in, count_in, Over, Room, a_form, Done, Fails}
use Rattle.rules.proofs.Parsing.{over_next}
use Rattle.text.specs.Heads.{Missing, unread, other, Tells, SignRead, MarkRead, EndRead, Named, Unnamed, Fresh, Accepts, Refuses}
use Rattle.text.proofs.Heads.{Head, head_begun, head_rule_due, head_form_read, head_bad, head_leads, head_misfits}

pub over_names : {p q : Parser} {k : Kind} → Over p q k → declared_in q ≡ declared_in p
over_names {p} {q} o = ap (λ n. names_of (text_of q) n) o.names ∙ ap (λ t. names_of t p.names) o.text

-- the reading of p has come to the state st, and goes on from q
pub record Upto (p : Parser) (st : State) (q : Parser) : Type 0 where
  pub comes : outcome (text_of p) ≡ run st (signs_at q)
  pub text : text_of q ≡ text_of p

-- a text of over 8,192 bytes is refused before all else
abbrev long : Bool → Result (Unit {0}) SignFault
long b = cond b (Err TooLong) (Ok tt)

not_long : (b : Bool) (x y : Outcome) → Ok tt ≡ long b → cond b x y ≡ y
not_long true x y e = cc
not_long false x y e = refl

pub upto_start : (p : Parser) → Fresh p → Ok tt ≡ length_answer (text_of p) → Upto p begun p
upto_start p f e = record { comes = not_long (ltb 8192 (length (text_of p))) _ _ e ∙ ap (λ v. run begun (signs_from (text_of p) v)) (sym f.place); text = refl }

pub upto_over : {p q r : Parser} {st : State} {k : Kind} (next : State) → Head st → Upto p st q → (o : Over q r k) → step st k ≡ Some next → limit st k o.from ≡ None → Upto p next r
upto_over {p} {q} {r} {st} {k} next h u o s l = record {
  comes = u.comes ∙ head_leads (text_of q) st h next (over_next o) s l ∙ ap (λ v. run next (signs_from v (place_of r))) (sym o.text);
  text = o.text ∙ u.text;
}

pub upto_misses : {p q : Parser} {st : State} {K : Kind → Type 0} {e : GrammarFault} → Head st → Upto p st q → Missing q K e → ((j : Kind) → K j → step st j ≡ None) → Refuses p e
upto_misses {p} {q} {st} h u (unread v) none = record { comes = u.comes ∙ head_bad (text_of q) st h (record { within = q.reader.within; is = v }) }
upto_misses {p} {q} {st} h u (other {j} v k) none = record { comes = u.comes ∙ head_misfits (text_of q) st h (record { within = q.reader.within; is = v }) (none j k) }

is_short : (b : Bool) → Ok tt ≡ long b → b ≡ false
is_short true e = cc
is_short false e = refl

-- no line is written before the rule
pub rule_has_room : {p q r s : Parser} → Fresh p → Ok tt ≡ length_answer (text_of p) → Over p q (mark Atoms) → Named q r → Over r s (mark Rule) → Room s
rule_has_room {p} {q} {r} {s} f e a n o =
    let none : count_in s ≡ 0 = ap (λ t. t.count) (o.table ∙ n.table ∙ a.table) ∙ f.count in
    record {
      short = subst (λ t. length t ≤ 8192) (sym (o.text ∙ n.text ∙ a.text)) (ltb-false 8192 (length (text_of p)) (is_short _ e));
      credit = omega (arith, none);
    }

-- the state's names are the parser's
pub upto_named : {p q r : Parser} → Upto p (name_due (declared_in q)) q → Named q r → Upto p (rule_due (declared_in r)) r
upto_named u n = record { comes = u.comes ∙ n.goes; text = n.text ∙ u.text }

pub upto_unnamed : {p q : Parser} {e : GrammarFault} → Upto p (name_due (declared_in q)) q → Unnamed q e → Refuses p e
upto_unnamed u n = record { comes = u.comes ∙ n.stops }

no_names : (p : Parser) → p.names.count ≡ 0 → declared_in p ≡ []
no_names p e = ap (λ v. map (span_bytes (text_of p)) (take v p.names.spans)) e

pub upto_atoms : {p q : Parser} → Fresh p → Ok tt ≡ length_answer (text_of p) → Over p q (mark Atoms) → Upto p (name_due (declared_in q)) q
upto_atoms {p} {q} f e o = subst (λ v. Upto p (name_due v) q) (sym (over_names o ∙ no_names p f.names)) (upto_over (name_due []) head_begun (upto_start p f e) o refl refl)

pub upto_rule : {p q r : Parser} → Upto p (rule_due (declared_in q)) q → Over q r (mark Rule) → Upto p (in_rule (declared_in r) (due [] no_lefts [])) r
upto_rule {p} {q} {r} u o = subst (λ v. Upto p (in_rule v (due [] no_lefts [])) r) (sym (over_names o)) (upto_over (in_rule (declared_in q) (due [] no_lefts [])) head_rule_due u o refl refl)

pub upto_form : {p q r : Parser} {l n : ℕ} → n ≡ 0 → Upto p (in_rule (declared_in q) (due [] no_lefts [])) q → (d : Done a_form q n r l) → Upto p (in_rule (declared_in q) (form_read d.form [])) r
upto_form none u d = record { comes = u.comes ∙ d.goes [] (sym none); text = d.onward.text ∙ u.text }

pub upto_no_form : {p q : Parser} {n : ℕ} {e : GrammarFault} → n ≡ 0 → Upto p (in_rule (declared_in q) (due [] no_lefts [])) q → Fails a_form q n e → Refuses p e
upto_no_form none u f = record { comes = u.comes ∙ f.stops [] (sym none) }

pub upto_stop : {p q r : Parser} {ns : List (List ℕ)} {f : Form} → Upto p (in_rule ns (form_read f [])) q → Over q r (mark Stop) → Upto p (stopped ns f) r
upto_stop {p} {q} {r} {ns} {f} u o = upto_over (stopped ns f) head_form_read u o refl refl

pub no_stop : (ns : List (List ℕ)) (f : Form) (j : Kind) → is_mark Stop j ≡ false → after_form ns f [] j ≡ None
no_stop ns f j e = go (is_mark Close j)
  where
    go : (b : Bool) → cond b None (cond (is_mark Stop j) (ended ns f []) None) ≡ None
    go true = refl
    go false = cond-false _ _ _ e

-- only the end comes behind the full stop
pub upto_end : {p q r : Parser} {ns : List (List ℕ)} {f : Form} → Upto p (stopped ns f) q → Over q r end → outcome (text_of p) ≡ accepted ns f
upto_end {p} {q} {r} {ns} {f} u o = u.comes ∙ ap (run (stopped ns f)) (signs_step (text_of q) (place_of q) q.reader.within ∙ ap (λ v. then_signs v (signs_from (text_of q))) o.is)

no_more : (ns : List (List ℕ)) (f : Form) (rest : ℕ → Signs) (j : Kind) (g h : ℕ) → (j ≡ end → ⊥) → run (stopped ns f) (then_signs (found j g h) rest) ≡ refused (faults.Misfit g)
no_more ns f rest (mark m) g h k = refl
no_more ns f rest (name w) g h k = refl
no_more ns f rest end g h k = absurd (k refl)

pub upto_more : {p q : Parser} {ns : List (List ℕ)} {f : Form} {e : GrammarFault} → Upto p (stopped ns f) q → Missing q (λ j. j ≡ end → ⊥) e → Refuses p e
upto_more {p} {q} {ns} {f} u (unread v) = record { comes = u.comes ∙ ap (run (stopped ns f)) (signs_step (text_of q) (place_of q) q.reader.within ∙ ap (λ x. then_signs x (signs_from (text_of q))) v) }
upto_more {p} {q} {ns} {f} u (other {j} v k) = record { comes = u.comes ∙ ap (run (stopped ns f)) (signs_step (text_of q) (place_of q) q.reader.within ∙ ap (λ x. then_signs x (signs_from (text_of q))) v) ∙ no_more ns f (signs_from (text_of q)) j _ _ k }

from_none : {ys : List Line} {n r : ℕ} {f : Form} (k : ℕ) (xs : List Line) → k ≡ 0 → xs ≡ [] → Written k xs ys n f r → Written 0 [] ys n f r
from_none {ys} {n} {r} {f} k xs a b w = subst (λ v. Written 0 v ys n f r) b (subst (λ v. Written v xs ys n f r) a w)

-- Everything together: from p over the names at q, the rule at r, its form at s and the full stop at t to the end.
pub accepts : {p q r s t u : Parser} {l n : ℕ} → Fresh p → Named q r → (d : Done a_form s n t l) → text_of s ≡ text_of p → Over r s (mark Rule) → Over t u (mark Stop) → {v : Parser} → Over u v end → count_in q ≡ 0 → lines_in q ≡ [] → outcome (text_of p) ≡ accepted (declared_in s) d.form → Accepts p v
accepts {p} {q} {r} {s} {t} {u} {l} f named d same o stop {v} fin none empty comes =
    let names : v.names ≡ s.names = fin.names ∙ stop.names ∙ d.onward.names in
    let text : text_of v ≡ text_of s = fin.text ∙ stop.text ∙ d.onward.text in
    let ns : declared_in v ≡ declared_in s = ap (λ m. names_of (text_of v) m) names ∙ ap (λ x. names_of x s.names) text in
    let table : v.table ≡ t.table = fin.table ∙ stop.table in
    let before : s.table ≡ q.table = o.table ∙ named.table in
    record {
      form = d.form;
      last = l;
      text = text ∙ same;
      comes = comes ∙ ap (λ x. accepted x d.form) (sym ns);
      some = subst (λ m. 1 ≤ m.count) (sym (names ∙ o.names)) named.some;
      atoms = ap (λ x. declared (length x) d.form) ns ∙ d.atoms;
      lines_are = subst (λ x. Written 0 [] (kept_lines x) x.count d.form l) (sym table) (from_none (count_in s) (lines_in s) (ap (λ x. x.count) before ∙ none) (ap kept_lines before ∙ empty) d.lines_are);
    }

-- what passes the test of a mark is the mark
pub mark_read : (m : Mark) {gives : Sign → Bool → Type 0} {p q : Parser} → ((test : Kind → Bool) → Tells gives test → SignRead test p q (Ok tt)) → Tells gives (is_mark m) → MarkRead m p q (Ok tt)
mark_read m {gives} {p} {q} reads tells = let r = reads (is_mark m) tells in subst (Over p q) (mark_is m r.0 r.1) r.2

-- what passes the test of the end is the end
abbrev pub ends : Kind → Bool
ends (mark m) = false
ends (name w) = false
ends end = true

is_end : (k : Kind) → ends k ≡ true → k ≡ end
is_end (mark m) is = cc
is_end (name w) is = cc
is_end end is = refl

not_end : (k : Kind) → ends k ≡ false → k ≡ end → ⊥
not_end (mark m) is e = cc
not_end (name w) is e = cc
not_end end is e = cc

pub end_read : {gives : Sign → Bool → Type 0} {p q : Parser} → ((test : Kind → Bool) → Tells gives test → SignRead test p q (Ok tt)) → Tells gives ends → EndRead p q (Ok tt)
end_read {gives} {p} {q} reads tells = let r = reads ends tells in subst (Over p q) (is_end r.0 r.1) r.2

pub end_missing : {p : Parser} {e : GrammarFault} → Missing p (λ k. ends k ≡ false) e → Missing p (λ k. k ≡ end → ⊥) e
end_missing (unread v) = unread v
end_missing (other {j} v k) = other v (not_end j k)
