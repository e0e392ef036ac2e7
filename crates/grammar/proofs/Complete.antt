-- Whatever the grammar derives, the machine reads: completeness, and from it that there is one reading.
use Rattle.std.proofs.Common.{◌≡◌, ℕ, false, cond, List, [], ◌∷◌, ◌++◌, Some, None, Option, sym, refl, ap, ◌∙◌, append_assoc}
use Rattle.lines.specs.declared.line.Prefix.{Prefix}
use Rattle.lines.specs.declared.line.Prefix.TheVariants as single
use Rattle.lines.specs.declared.line.Infix.{Infix}
use Rattle.lines.specs.declared.line.Infix.TheVariants as pair
use Rattle.lines.specs.Forms.{Form, joined}
use Rattle.signs.specs.declared.sign.Mark.TheVariants.{Close, And, Or, Arrow, Comma, Semicolon, Stop, SL, SG, Rule}
use Rattle.signs.specs.Signs.{Kind, mark, name}
use Rattle.grammar.specs.Grammar.{IsUnit, is_name, is_true, is_false, is_prefixed, is_bracketed, IsLink, is_unit, is_since_local, is_since_global, IsConj, is_link, is_and, IsDisj, is_conj, is_or, IsForm, is_disj, is_implies, AreNames, one_name, one_more, IsPolicy, is_policy}
use Rattle.grammar.specs.Machine.{is_mark, since_of, wrapped, Lefts, Bracket, due, unit_read, link_read, conj_read, disj_read, form_read, State, begun, name_due, name_read, in_rule, stopped, lefts, no_lefts, choose, after_form, after_disj, after_conj, after_link, steps}

-- what comes behind a link, a conj, a disj and a form
abbrev pub PastLink : List Kind → Type 0
PastLink [] = ⊥
PastLink (k ∷ ks) = since_of k ≡ None

abbrev pub PastConj : List Kind → Type 0
PastConj [] = ⊥
PastConj (k ∷ ks) = (since_of k ≡ None) × (is_mark And k ≡ false)

abbrev pub PastDisj : List Kind → Type 0
PastDisj [] = ⊥
PastDisj (k ∷ ks) = (since_of k ≡ None) × (is_mark And k ≡ false) × (is_mark Or k ≡ false)

abbrev pub PastForm : List Kind → Type 0
PastForm [] = ⊥
PastForm (k ∷ ks) = (since_of k ≡ None) × (is_mark And k ≡ false) × (is_mark Or k ≡ false) × (is_mark Arrow k ≡ false)

abbrev on : Option State → List Kind → Option State
on o ks = choose o None (λ next. steps next ks)

module _ (ns : List (List ℕ)) where
  -- a part that no sign makes longer is a larger part
  unit_is_link : (f : Form) (c d i : Option Form) (bs : List Bracket) (rest : List Kind) → PastLink rest → steps (in_rule ns (unit_read f (lefts None c d i) bs)) rest ≡ steps (in_rule ns (link_read f c d i bs)) rest
  unit_is_link f c d i bs [] e = absurd e
  unit_is_link f c d i bs (k ∷ ks) e = ap (λ v. on (choose v (after_link ns f c d i bs k) (λ o. Some (in_rule ns (due [] (lefts (Some (o, f)) c d i) bs)))) ks) e

  link_is_conj : (f : Form) (d i : Option Form) (bs : List Bracket) (rest : List Kind) → PastConj rest → steps (in_rule ns (link_read f None d i bs)) rest ≡ steps (in_rule ns (conj_read f d i bs)) rest
  link_is_conj f d i bs [] e = absurd e
  link_is_conj f d i bs (k ∷ ks) e = ap (λ v. on (cond v (Some (in_rule ns (due [] (lefts None (Some f) d i) bs))) (after_conj ns f d i bs k)) ks) e.1

  conj_is_disj : (f : Form) (i : Option Form) (bs : List Bracket) (rest : List Kind) → PastDisj rest → steps (in_rule ns (conj_read f None i bs)) rest ≡ steps (in_rule ns (disj_read f i bs)) rest
  conj_is_disj f i bs [] e = absurd e
  conj_is_disj f i bs (k ∷ ks) e = ap (λ v. on (cond v (Some (in_rule ns (due [] (lefts None None (Some f) i) bs))) (after_disj ns f i bs k)) ks) e.2

  disj_is_form : (f : Form) (bs : List Bracket) (rest : List Kind) → PastForm rest → steps (in_rule ns (disj_read f None bs)) rest ≡ steps (in_rule ns (form_read f bs)) rest
  disj_is_form f bs [] e = absurd e
  disj_is_form f bs (k ∷ ks) e = ap (λ v. on (cond v (Some (in_rule ns (due [] (lefts None None None (Some f)) bs))) (after_form ns f bs k)) ks) e.3

  past_disj : (rest : List Kind) → PastForm rest → PastDisj rest
  past_disj [] e = absurd e
  past_disj (k ∷ ks) e = (e.0, e.1, e.2)

  past_conj : (rest : List Kind) → PastDisj rest → PastConj rest
  past_conj [] e = absurd e
  past_conj (k ∷ ks) e = (e.0, e.1)

  past_link : (rest : List Kind) → PastConj rest → PastLink rest
  past_link [] e = absurd e
  past_link (k ∷ ks) e = e.0

  -- the left side of a chain is taken in
  and_joins : (f g : Form) (d i : Option Form) (bs : List Bracket) (rest : List Kind) → PastLink rest → steps (in_rule ns (link_read g (Some f) d i bs)) rest ≡ steps (in_rule ns (link_read (joined pair.And f g) None d i bs)) rest
  and_joins f g d i bs [] e = absurd e
  and_joins f g d i bs (k ∷ ks) e = refl

  or_joins : (f g : Form) (i : Option Form) (bs : List Bracket) (rest : List Kind) → PastConj rest → steps (in_rule ns (conj_read g (Some f) i bs)) rest ≡ steps (in_rule ns (conj_read (joined pair.Or f g) None i bs)) rest
  or_joins f g i bs [] e = absurd e
  or_joins f g i bs (k ∷ ks) e = refl

  implies_joins : (f g : Form) (bs : List Bracket) (rest : List Kind) → PastForm rest → steps (in_rule ns (disj_read g (Some f) bs)) rest ≡ steps (in_rule ns (form_read (joined pair.Implies f g) bs)) rest
  implies_joins f g bs [] e = absurd e
  implies_joins f g bs (k ∷ ks) e = refl

  since_joins : (o : Infix) (f g : Form) (c d i : Option Form) (bs : List Bracket) (rest : List Kind) → PastLink rest → steps (in_rule ns (unit_read g (lefts (Some (o, f)) c d i) bs)) rest ≡ steps (in_rule ns (link_read (joined o f g) c d i bs)) rest
  since_joins o f g c d i bs [] e = absurd e
  since_joins o f g c d i bs (k ∷ ks) e = refl

  mutual
    pub unit_complete : {s : List Kind} {f : Form} → IsUnit ns s f → (os : List Prefix) (l : Lefts) (bs : List Bracket) (rest : List Kind) → steps (in_rule ns (due os l bs)) (s ++ rest) ≡ steps (in_rule ns (unit_read (wrapped os f) l bs)) rest
    unit_complete (is_name w) os l bs rest = refl
    unit_complete is_true os l bs rest = refl
    unit_complete is_false os l bs rest = refl
    unit_complete (is_prefixed single.Not u) os l bs rest = unit_complete u (single.Not ∷ os) l bs rest
    unit_complete (is_prefixed single.YL u) os l bs rest = unit_complete u (single.YL ∷ os) l bs rest
    unit_complete (is_prefixed single.OL u) os l bs rest = unit_complete u (single.OL ∷ os) l bs rest
    unit_complete (is_prefixed single.HL u) os l bs rest = unit_complete u (single.HL ∷ os) l bs rest
    unit_complete (is_prefixed single.YG u) os l bs rest = unit_complete u (single.YG ∷ os) l bs rest
    unit_complete (is_prefixed single.OG u) os l bs rest = unit_complete u (single.OG ∷ os) l bs rest
    unit_complete (is_prefixed single.HG u) os l bs rest = unit_complete u (single.HG ∷ os) l bs rest
    unit_complete (is_bracketed {s} {f} u) os l bs rest =
        ap (steps (in_rule ns (due [] no_lefts ((os, l) ∷ bs)))) (append_assoc s (mark Close ∷ []) rest)
        ∙ form_complete u ((os, l) ∷ bs) (mark Close ∷ rest) (refl, refl, refl, refl)

    link_complete : {s : List Kind} {f : Form} → IsLink ns s f → (c d i : Option Form) (bs : List Bracket) (rest : List Kind) → PastLink rest → steps (in_rule ns (due [] (lefts None c d i) bs)) (s ++ rest) ≡ steps (in_rule ns (link_read f c d i bs)) rest
    link_complete (is_unit {s} {f} u) c d i bs rest e = unit_complete u [] (lefts None c d i) bs rest ∙ unit_is_link f c d i bs rest e
    link_complete (is_since_local {s} {t} {f} {g} u v) c d i bs rest e =
        ap (steps (in_rule ns (due [] (lefts None c d i) bs))) (append_assoc s (mark SL ∷ t) rest)
        ∙ unit_complete u [] (lefts None c d i) bs (mark SL ∷ (t ++ rest))
        ∙ unit_complete v [] (lefts (Some (pair.SL, f)) c d i) bs rest
        ∙ since_joins pair.SL f g c d i bs rest e
    link_complete (is_since_global {s} {t} {f} {g} u v) c d i bs rest e =
        ap (steps (in_rule ns (due [] (lefts None c d i) bs))) (append_assoc s (mark SG ∷ t) rest)
        ∙ unit_complete u [] (lefts None c d i) bs (mark SG ∷ (t ++ rest))
        ∙ unit_complete v [] (lefts (Some (pair.SG, f)) c d i) bs rest
        ∙ since_joins pair.SG f g c d i bs rest e

    conj_complete : {s : List Kind} {f : Form} → IsConj ns s f → (d i : Option Form) (bs : List Bracket) (rest : List Kind) → PastLink rest → steps (in_rule ns (due [] (lefts None None d i) bs)) (s ++ rest) ≡ steps (in_rule ns (link_read f None d i bs)) rest
    conj_complete (is_link u) d i bs rest e = link_complete u None d i bs rest e
    conj_complete (is_and {s} {t} {f} {g} u v) d i bs rest e =
        ap (steps (in_rule ns (due [] (lefts None None d i) bs))) (append_assoc s (mark And ∷ t) rest)
        ∙ conj_complete u d i bs (mark And ∷ (t ++ rest)) refl
        ∙ link_complete v (Some f) d i bs rest e
        ∙ and_joins f g d i bs rest e

    disj_complete : {s : List Kind} {f : Form} → IsDisj ns s f → (i : Option Form) (bs : List Bracket) (rest : List Kind) → PastConj rest → steps (in_rule ns (due [] (lefts None None None i) bs)) (s ++ rest) ≡ steps (in_rule ns (conj_read f None i bs)) rest
    disj_complete (is_conj {s} {f} u) i bs rest e = conj_complete u None i bs rest (past_link rest e) ∙ link_is_conj f None i bs rest e
    disj_complete (is_or {s} {t} {f} {g} u v) i bs rest e =
        ap (steps (in_rule ns (due [] (lefts None None None i) bs))) (append_assoc s (mark Or ∷ t) rest)
        ∙ disj_complete u i bs (mark Or ∷ (t ++ rest)) (refl, refl)
        ∙ conj_complete v (Some f) i bs rest (past_link rest e)
        ∙ link_is_conj g (Some f) i bs rest e
        ∙ or_joins f g i bs rest e

    pub form_complete : {s : List Kind} {f : Form} → IsForm ns s f → (bs : List Bracket) (rest : List Kind) → PastForm rest → steps (in_rule ns (due [] no_lefts bs)) (s ++ rest) ≡ steps (in_rule ns (form_read f bs)) rest
    form_complete (is_disj {s} {f} u) bs rest e =
        disj_complete u None bs rest (past_conj rest (past_disj rest e)) ∙ conj_is_disj f None bs rest (past_disj rest e) ∙ disj_is_form f bs rest e
    form_complete (is_implies {s} {t} {f} {g} u v) bs rest e =
        ap (steps (in_rule ns (due [] no_lefts bs))) (append_assoc s (mark Arrow ∷ t) rest)
        ∙ disj_complete u None bs (mark Arrow ∷ (t ++ rest)) (refl, refl)
        ∙ disj_complete v (Some f) bs rest (past_conj rest (past_disj rest e))
        ∙ conj_is_disj g (Some f) bs rest (past_disj rest e)
        ∙ implies_joins f g bs rest e

pub names_complete : {s : List Kind} {ns : List (List ℕ)} → AreNames s ns → (rest : List Kind) → steps (name_due []) (s ++ rest) ≡ steps (name_read ns) rest
names_complete (one_name w) rest = refl
names_complete (one_more {s} a w) rest = ap (steps (name_due [])) (append_assoc s (mark Comma ∷ (name w ∷ [])) rest) ∙ names_complete a (mark Comma ∷ (name w ∷ rest))

pub policy_complete : {s : List Kind} {ns : List (List ℕ)} {f : Form} → IsPolicy s ns f → steps begun s ≡ Some (stopped ns f)
policy_complete (is_policy {s} {t} {names} {f} a u) = names_complete a (mark Semicolon ∷ (mark Rule ∷ (t ++ (mark Stop ∷ [])))) ∙ form_complete names u [] (mark Stop ∷ []) (refl, refl, refl, refl)

-- a list of signs is a policy in one way
pub one_policy : {s : List Kind} {ns ms : List (List ℕ)} {f g : Form} → IsPolicy s ns f → IsPolicy s ms g → (ns ≡ ms) × (f ≡ g)
one_policy {s} {ns} {ms} {f} {g} p q = let e : Some (stopped ns f) ≡ Some (stopped ms g) = sym (policy_complete p) ∙ policy_complete q in (cc, cc)

-- a list of signs is a form in one way
pub one_form : {ns : List (List ℕ)} {s : List Kind} {f g : Form} → IsForm ns s f → IsForm ns s g → f ≡ g
one_form {ns} {s} {f} {g} u v =
    let e : Some (stopped ns f) ≡ Some (stopped ns g) = sym (form_complete ns u [] (mark Stop ∷ []) (refl, refl, refl, refl)) ∙ form_complete ns v [] (mark Stop ∷ []) (refl, refl, refl, refl) in cc
