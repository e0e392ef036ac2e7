-- Whatever the machine reads to its end, the grammar derives: soundness. Each state is tied to the signs
-- that have been read.
use Rattle.std.proofs.lemmas.Bool.{cond_both}
use Rattle.std.proofs.Common.{◌≡◌, ℕ, Bool, true, false, cond, eqb, ◌⊎◌, List, [], ◌∷◌, ◌++◌, Some, None, Option, sym, refl, ap, ◌∙◌, subst, inl, inr, append_assoc, append-nil, arith}
use Rattle.std.proofs.lemmas.Bool.Decides.{nat_tests}
use Rattle.lines.specs.declared.line.Prefix.{Prefix}
use Rattle.lines.specs.declared.line.Prefix.TheVariants as single
use Rattle.lines.specs.declared.line.Infix.{Infix}
use Rattle.lines.specs.declared.line.Infix.TheVariants as pair
use Rattle.lines.specs.Forms.{Form, atom, no, yes, prefixed, joined}
use Rattle.signs.specs.declared.sign.Mark.{Mark}
use Rattle.signs.specs.declared.sign.Mark.TheVariants.{Open, Close, Not, And, Or, Arrow, Comma, Semicolon, Stop, YL, SL, OL, HL, YG, SG, OG, HG, Atoms, Rule, True, False}
use Rattle.signs.specs.Marks.{mark_number}
use Rattle.signs.specs.Signs.{Kind, mark, name, end}
use Rattle.grammar.specs.Grammar.{prefix_mark, number, IsUnit, is_name, is_true, is_false, is_prefixed, is_bracketed, IsLink, is_unit, is_since_local, is_since_global, IsConj, is_link, is_and, IsDisj, is_conj, is_or, IsForm, is_disj, is_implies, AreNames, one_name, one_more, IsPolicy, is_policy}
use Rattle.grammar.specs.Machine.{is_mark, wrapped, join, Lefts, Bracket, Point, due, unit_read, link_read, conj_read, disj_read, form_read, State, begun, name_due, name_read, rule_due, in_rule, stopped, lefts, no_lefts, choose, closed, ended, after_form, after_disj, after_conj, after_link, after_unit, unit_sign, rule_sign, name_sign, step, steps}

-- a mark by its number
unmarked : ℕ → Mark
unmarked n =
    cond (eqb n 0) Open (cond (eqb n 1) Close (cond (eqb n 2) Not (cond (eqb n 3) And (cond (eqb n 4) Or (cond (eqb n 5) Arrow (cond (eqb n 6) Comma (cond (eqb n 7) Semicolon (cond (eqb n 8) Stop (cond (eqb n 9) YL (cond (eqb n 10) SL (cond (eqb n 11) OL (cond (eqb n 12) HL (cond (eqb n 13) YG (cond (eqb n 14) SG (cond (eqb n 15) OG (cond (eqb n 16) HG (cond (eqb n 17) Atoms (cond (eqb n 18) Rule (cond (eqb n 19) True False)))))))))))))))))))

back : (m : Mark) → unmarked (mark_number m) ≡ m
unfolding unmarked
back Open = refl
back Close = refl
back Not = refl
back And = refl
back Or = refl
back Arrow = refl
back Comma = refl
back Semicolon = refl
back Stop = refl
back YL = refl
back SL = refl
back OL = refl
back HL = refl
back YG = refl
back SG = refl
back OG = refl
back HG = refl
back Atoms = refl
back Rule = refl
back True = refl
back False = refl

differ : {b : Bool} → b ≡ true → b ≡ false → ⊥
differ p q = let z : ◌≡◌ {A = ℕ} 0 1 = cc in omega arith

pub mark_is : (m : Mark) (k : Kind) → is_mark m k ≡ true → k ≡ mark m
mark_is m (mark n) e = let s : mark_number m ≡ mark_number n = grind (arith, nat_tests) in ap mark (sym (back n) ∙ ap unmarked (sym s) ∙ back m)
mark_is m (name w) e = absurd (differ (sym e ∙ e) (sym e))
mark_is m end e = absurd (differ (sym e ∙ e) (sym e))

-- the signs of prefixes, the last of which comes first in the list
abbrev pub prefix_signs : List Prefix → List Kind
prefix_signs [] = []
prefix_signs (o ∷ os) = prefix_signs os ++ (mark (prefix_mark o) ∷ [])

-- the signs of a left side that waits, with its infix
abbrev pub Waits : (List Kind → Form → Type 0) → Mark → Option Form → List Kind → Type 0
Waits R m None t = t ≡ []
Waits R m (Some g) t = (u : List Kind) × R u g × (t ≡ u ++ (mark m ∷ []))

abbrev pub SinceWaits : List (List ℕ) → Option (Infix × Form) → List Kind → Type 0
SinceWaits ns None t = t ≡ []
SinceWaits ns (Some l) t = (u : List Kind) × IsUnit ns u l.1 × (((l.0 ≡ pair.SL) × (t ≡ u ++ (mark SL ∷ []))) ⊎ ((l.0 ≡ pair.SG) × (t ≡ u ++ (mark SG ∷ []))))

-- the signs t are the left sides l
pub record Waiting (ns : List (List ℕ)) (l : Lefts) (t : List Kind) : Type 0 where
  pub i_signs : List Kind
  pub d_signs : List Kind
  pub c_signs : List Kind
  pub s_signs : List Kind
  pub implied : Waits (IsDisj ns) Arrow l.implied i_signs
  pub disj : Waits (IsDisj ns) Or l.disj d_signs
  pub conj : Waits (IsConj ns) And l.conj c_signs
  pub since : SinceWaits ns l.since s_signs
  pub whole : t ≡ i_signs ++ (d_signs ++ (c_signs ++ s_signs))

-- the signs e lead into these brackets
abbrev pub Enclosed : List (List ℕ) → List Bracket → List Kind → Type 0
Enclosed ns [] e = e ≡ []
Enclosed ns (b ∷ bs) e = (d : List Kind) × (t : List Kind) × Enclosed ns bs d × Waiting ns b.1 t × (e ≡ d ++ (t ++ (prefix_signs b.0 ++ (mark Open ∷ []))))

-- the rule's signs r lead to this point
abbrev pub AtPoint : List (List ℕ) → Point → List Kind → Type 0
AtPoint ns (due os l bs) r = (e : List Kind) × (t : List Kind) × Enclosed ns bs e × Waiting ns l t × (r ≡ e ++ (t ++ prefix_signs os))
AtPoint ns (unit_read f l bs) r = (e : List Kind) × (t : List Kind) × (u : List Kind) × Enclosed ns bs e × Waiting ns l t × IsUnit ns u f × (r ≡ e ++ (t ++ u))
AtPoint ns (link_read f c d i bs) r = ⊥
AtPoint ns (conj_read f d i bs) r = ⊥
AtPoint ns (disj_read f i bs) r = ⊥
AtPoint ns (form_read f bs) r = ⊥

-- the signs s lead to this state
abbrev pub Leads : State → List Kind → Type 0
Leads begun s = s ≡ []
Leads (name_due ns) s = ((ns ≡ []) × (s ≡ mark Atoms ∷ [])) ⊎ ((t : List Kind) × AreNames t ns × (s ≡ mark Atoms ∷ (t ++ (mark Comma ∷ []))))
Leads (name_read ns) s = (t : List Kind) × AreNames t ns × (s ≡ mark Atoms ∷ t)
Leads (rule_due ns) s = (t : List Kind) × AreNames t ns × (s ≡ mark Atoms ∷ (t ++ (mark Semicolon ∷ [])))
Leads (in_rule ns p) s = (t : List Kind) × (r : List Kind) × AreNames t ns × AtPoint ns p r × (s ≡ mark Atoms ∷ (t ++ (mark Semicolon ∷ (mark Rule ∷ r))))
Leads (stopped ns f) s = IsPolicy s ns f

-- so do these signs, if anywhere
abbrev Onto : List Kind → Option State → Type 0
Onto s None = Unit {0}
Onto s (Some st) = Leads st s

module _ (ns : List (List ℕ)) where
  wrap_unit : (os : List Prefix) (u : List Kind) (f : Form) → IsUnit ns u f → IsUnit ns (prefix_signs os ++ u) (wrapped os f)
  wrap_unit [] u f p = p
  wrap_unit (o ∷ os) u f p = subst (λ v. IsUnit ns v (wrapped os (prefixed o f))) (sym (append_assoc (prefix_signs os) (mark (prefix_mark o) ∷ []) u)) (wrap_unit os (mark (prefix_mark o) ∷ u) (prefixed o f) (is_prefixed o p))

  link_joins : (l : Option (Infix × Form)) (t u : List Kind) (f : Form) → SinceWaits ns l t → IsUnit ns u f → IsLink ns (t ++ u) (choose l f (λ p. joined p.0 p.1 f))
  link_joins None t u f w p = subst (λ v. IsLink ns (v ++ u) f) (sym w) (is_unit p)
  link_joins (Some l) t u f (v, q, inl (o, e)) p =
      subst (λ x. IsLink ns (t ++ u) (joined x l.1 f)) (sym o) (subst (λ x. IsLink ns x (joined pair.SL l.1 f)) (sym (ap (λ x. x ++ u) e ∙ append_assoc v (mark SL ∷ []) u)) (is_since_local q p))
  link_joins (Some l) t u f (v, q, inr (o, e)) p =
      subst (λ x. IsLink ns (t ++ u) (joined x l.1 f)) (sym o) (subst (λ x. IsLink ns x (joined pair.SG l.1 f)) (sym (ap (λ x. x ++ u) e ∙ append_assoc v (mark SG ∷ []) u)) (is_since_global q p))

  conj_joins : (c : Option Form) (t u : List Kind) (f : Form) → Waits (IsConj ns) And c t → IsLink ns u f → IsConj ns (t ++ u) (join pair.And c f)
  conj_joins None t u f w p = subst (λ v. IsConj ns (v ++ u) f) (sym w) (is_link p)
  conj_joins (Some g) t u f (v, q, e) p = subst (λ x. IsConj ns x (joined pair.And g f)) (sym (ap (λ x. x ++ u) e ∙ append_assoc v (mark And ∷ []) u)) (is_and q p)

  disj_joins : (d : Option Form) (t u : List Kind) (f : Form) → Waits (IsDisj ns) Or d t → IsConj ns u f → IsDisj ns (t ++ u) (join pair.Or d f)
  disj_joins None t u f w p = subst (λ v. IsDisj ns (v ++ u) f) (sym w) (is_conj p)
  disj_joins (Some g) t u f (v, q, e) p = subst (λ x. IsDisj ns x (joined pair.Or g f)) (sym (ap (λ x. x ++ u) e ∙ append_assoc v (mark Or ∷ []) u)) (is_or q p)

  implies_joins : (i : Option Form) (t u : List Kind) (f : Form) → Waits (IsDisj ns) Arrow i t → IsDisj ns u f → IsForm ns (t ++ u) (join pair.Implies i f)
  implies_joins None t u f w p = subst (λ v. IsForm ns (v ++ u) f) (sym w) (is_disj p)
  implies_joins (Some g) t u f (v, q, e) p = subst (λ x. IsForm ns x (joined pair.Implies g f)) (sym (ap (λ x. x ++ u) e ∙ append_assoc v (mark Arrow ∷ []) u)) (is_implies q p)

  module _ (h : List Kind) (given : AreNames h ns) (k : Kind) where
    abbrev RuleOnto : List Kind → Option State → Type 0
    RuleOnto r o = Onto ((mark Atoms ∷ (h ++ (mark Semicolon ∷ (mark Rule ∷ r)))) ++ (k ∷ [])) o

    -- one sign more, behind the rule's signs r
    further : (r : List Kind) {q : List Kind} → r ++ (k ∷ []) ≡ q → (mark Atoms ∷ (h ++ (mark Semicolon ∷ (mark Rule ∷ r)))) ++ (k ∷ []) ≡ mark Atoms ∷ (h ++ (mark Semicolon ∷ (mark Rule ∷ q)))
    further r e = ap (λ v. mark Atoms ∷ v) (append_assoc h (mark Semicolon ∷ (mark Rule ∷ r)) (k ∷ []) ∙ ap (λ v. h ++ (mark Semicolon ∷ (mark Rule ∷ v))) e)

    onto_close : (bs : List Bracket) (e v : List Kind) (f : Form) → k ≡ mark Close → Enclosed ns bs e → IsForm ns v f → RuleOnto (e ++ v) (closed ns f bs)
    onto_close [] e v f is enc p = tt
    onto_close (b ∷ bs) e v f is (d, t, enc, wait, eq) p = (
      h,
      d ++ (t ++ (prefix_signs b.0 ++ (mark Open ∷ (v ++ (mark Close ∷ []))))),
      given,
      (d, t, prefix_signs b.0 ++ (mark Open ∷ (v ++ (mark Close ∷ []))), enc, wait, wrap_unit b.0 (mark Open ∷ (v ++ (mark Close ∷ []))) f (is_bracketed p), refl),
      further (e ++ v) (ap (λ x. (e ++ v) ++ (x ∷ [])) is ∙ ap (λ x. (x ++ v) ++ (mark Close ∷ [])) eq ∙ simp append_assoc),
    )

    onto_stop : (bs : List Bracket) (e v : List Kind) (f : Form) → k ≡ mark Stop → Enclosed ns bs e → IsForm ns v f → RuleOnto (e ++ v) (ended ns f bs)
    onto_stop [] e v f is enc p = subst (λ x. IsPolicy x ns f) (sym (further (e ++ v) (ap (λ x. (e ++ v) ++ (x ∷ [])) is ∙ ap (λ x. (x ++ v) ++ (mark Stop ∷ [])) enc))) (is_policy given p)
    onto_stop (b ∷ bs) e v f is enc p = tt

    onto_form : (bs : List Bracket) (e v : List Kind) (f : Form) → Enclosed ns bs e → IsForm ns v f → RuleOnto (e ++ v) (after_form ns f bs k)
    onto_form bs e v f enc p =
        cond_both (is_mark Close k) _ _ (RuleOnto (e ++ v)) (λ c. onto_close bs e v f (mark_is Close k c) enc p) (λ _.
        cond_both (is_mark Stop k) _ _ (RuleOnto (e ++ v)) (λ c. onto_stop bs e v f (mark_is Stop k c) enc p) (λ _. tt))

    -- a unit is due behind a new left side
    due_next : (bs : List Bracket) (e t r : List Kind) (l : Lefts) → Enclosed ns bs e → Waiting ns l t → r ++ (k ∷ []) ≡ e ++ t → RuleOnto r (Some (in_rule ns (due [] l bs)))
    due_next bs e t r l enc w eq = (h, e ++ (t ++ []), given, (e, t, enc, w, refl), further r (eq ∙ ap (λ x. e ++ x) (sym (append-nil t))))

    onto_disj : (i : Option Form) (bs : List Bracket) (e a v : List Kind) (f : Form) → Enclosed ns bs e → Waits (IsDisj ns) Arrow i a → IsDisj ns v f → RuleOnto (e ++ (a ++ v)) (after_disj ns f i bs k)
    onto_disj (Some g) bs e a v f enc wi p = onto_form bs e (a ++ v) (joined pair.Implies g f) enc (implies_joins (Some g) a v f wi p)
    onto_disj None bs e a v f enc wi p =
        cond_both (is_mark Arrow k) _ _ (RuleOnto (e ++ (a ++ v)))
        (λ c. due_next bs e (v ++ (mark Arrow ∷ [])) (e ++ (a ++ v)) (lefts None None None (Some f)) enc
        (record { i_signs = v ++ (mark Arrow ∷ []); d_signs = []; c_signs = []; s_signs = []; implied = (v, p, refl); disj = refl; conj = refl; since = refl; whole = sym (append-nil (v ++ (mark Arrow ∷ []))) })
        (ap (λ x. (e ++ (a ++ v)) ++ (x ∷ [])) (mark_is Arrow k c) ∙ ap (λ x. (e ++ (x ++ v)) ++ (mark Arrow ∷ [])) wi ∙ append_assoc e v (mark Arrow ∷ [])))
        (λ _. onto_form bs e (a ++ v) f enc (implies_joins None a v f wi p))

    onto_conj : (d i : Option Form) (bs : List Bracket) (e a b v : List Kind) (f : Form) → Enclosed ns bs e → Waits (IsDisj ns) Arrow i a → Waits (IsDisj ns) Or d b → IsConj ns v f → RuleOnto (e ++ (a ++ (b ++ v))) (after_conj ns f d i bs k)
    onto_conj d i bs e a b v f enc wi wd p =
        cond_both (is_mark Or k) _ _ (RuleOnto (e ++ (a ++ (b ++ v))))
        (λ c. due_next bs e (a ++ ((b ++ v) ++ (mark Or ∷ []))) (e ++ (a ++ (b ++ v))) (lefts None None (Some (join pair.Or d f)) i) enc
        (record { i_signs = a; d_signs = (b ++ v) ++ (mark Or ∷ []); c_signs = []; s_signs = []; implied = wi; disj = (b ++ v, disj_joins d b v f wd p, refl); conj = refl; since = refl; whole = ap (λ x. a ++ x) (sym (append-nil ((b ++ v) ++ (mark Or ∷ [])))) })
        (ap (λ x. (e ++ (a ++ (b ++ v))) ++ (x ∷ [])) (mark_is Or k c) ∙ simp append_assoc))
        (λ _. onto_disj i bs e a (b ++ v) (join pair.Or d f) enc wi (disj_joins d b v f wd p))

    onto_link : (c d i : Option Form) (bs : List Bracket) (e a b g v : List Kind) (f : Form) → Enclosed ns bs e → Waits (IsDisj ns) Arrow i a → Waits (IsDisj ns) Or d b → Waits (IsConj ns) And c g → IsLink ns v f → RuleOnto (e ++ (a ++ (b ++ (g ++ v)))) (after_link ns f c d i bs k)
    onto_link c d i bs e a b g v f enc wi wd wc p =
        cond_both (is_mark And k) _ _ (RuleOnto (e ++ (a ++ (b ++ (g ++ v)))))
        (λ is. due_next bs e (a ++ (b ++ ((g ++ v) ++ (mark And ∷ [])))) (e ++ (a ++ (b ++ (g ++ v)))) (lefts None (Some (join pair.And c f)) d i) enc
        (record { i_signs = a; d_signs = b; c_signs = (g ++ v) ++ (mark And ∷ []); s_signs = []; implied = wi; disj = wd; conj = (g ++ v, conj_joins c g v f wc p, refl); since = refl; whole = ap (λ x. a ++ (b ++ x)) (sym (append-nil ((g ++ v) ++ (mark And ∷ [])))) })
        (ap (λ x. (e ++ (a ++ (b ++ (g ++ v)))) ++ (x ∷ [])) (mark_is And k is) ∙ simp append_assoc))
        (λ _. onto_conj d i bs e a b (g ++ v) (join pair.And c f) enc wi wd (conj_joins c g v f wc p))

    onto_since : (o : Infix) (m : Mark) (c d i : Option Form) (bs : List Bracket) (e a b g v : List Kind) (f : Form) → ((o ≡ pair.SL) × (m ≡ SL)) ⊎ ((o ≡ pair.SG) × (m ≡ SG)) → k ≡ mark m → Enclosed ns bs e → Waits (IsDisj ns) Arrow i a → Waits (IsDisj ns) Or d b → Waits (IsConj ns) And c g → IsUnit ns v f →
        RuleOnto (e ++ (a ++ (b ++ (g ++ v)))) (Some (in_rule ns (due [] (lefts (Some (o, f)) c d i) bs)))
    onto_since o m c d i bs e a b g v f which is enc wi wd wc p =
        due_next bs e (a ++ (b ++ (g ++ (v ++ (mark m ∷ []))))) (e ++ (a ++ (b ++ (g ++ v)))) (lefts (Some (o, f)) c d i) enc
        (record { i_signs = a; d_signs = b; c_signs = g; s_signs = v ++ (mark m ∷ []); implied = wi; disj = wd; conj = wc; since = (v, p, since_is which); whole = refl })
        (ap (λ x. (e ++ (a ++ (b ++ (g ++ v)))) ++ (x ∷ [])) is ∙ simp append_assoc)
      where
        since_is : ((o ≡ pair.SL) × (m ≡ SL)) ⊎ ((o ≡ pair.SG) × (m ≡ SG)) → ((o ≡ pair.SL) × (v ++ (mark m ∷ []) ≡ v ++ (mark SL ∷ []))) ⊎ ((o ≡ pair.SG) × (v ++ (mark m ∷ []) ≡ v ++ (mark SG ∷ [])))
        since_is (inl (x, y)) = inl (x, ap (λ z. v ++ (mark z ∷ [])) y)
        since_is (inr (x, y)) = inr (x, ap (λ z. v ++ (mark z ∷ [])) y)

    onto_unit : (s : Option (Infix × Form)) (c d i : Option Form) (bs : List Bracket) (e a b g t v : List Kind) (f : Form) → Enclosed ns bs e → Waits (IsDisj ns) Arrow i a → Waits (IsDisj ns) Or d b → Waits (IsConj ns) And c g → SinceWaits ns s t → IsUnit ns v f →
        RuleOnto (e ++ (a ++ (b ++ (g ++ (t ++ v))))) (after_unit ns f s c d i bs k)
    onto_unit (Some l) c d i bs e a b g t v f enc wi wd wc ws p = onto_link c d i bs e a b g (t ++ v) (joined l.0 l.1 f) enc wi wd wc (link_joins (Some l) t v f ws p)
    onto_unit None c d i bs e a b g t v f enc wi wd wc ws p =
        let here : t ++ v ≡ v = ap (λ x. x ++ v) ws in
        let R : Option State → Type 0 = RuleOnto (e ++ (a ++ (b ++ (g ++ (t ++ v))))) in
        let Q : Option Infix → Type 0 = λ o. R (choose o (after_link ns f c d i bs k) (λ o. Some (in_rule ns (due [] (lefts (Some (o, f)) c d i) bs)))) in
        let back = λ (o : Option State) (q : RuleOnto (e ++ (a ++ (b ++ (g ++ v)))) o). subst (λ x. RuleOnto (e ++ (a ++ (b ++ (g ++ x)))) o) (sym here) q in
        cond_both (is_mark SL k) _ _ Q (λ is. back (Some (in_rule ns (due [] (lefts (Some (pair.SL, f)) c d i) bs))) (onto_since pair.SL SL c d i bs e a b g v f (inl (refl, refl)) (mark_is SL k is) enc wi wd wc p)) (λ _.
        cond_both (is_mark SG k) _ _ Q (λ is. back (Some (in_rule ns (due [] (lefts (Some (pair.SG, f)) c d i) bs))) (onto_since pair.SG SG c d i bs e a b g v f (inr (refl, refl)) (mark_is SG k is) enc wi wd wc p)) (λ _.
        onto_link c d i bs e a b g (t ++ v) f enc wi wd wc (link_joins None t v f ws p)))

    onto_after : (f : Form) (l : Lefts) (bs : List Bracket) (r : List Kind) → AtPoint ns (unit_read f l bs) r → RuleOnto r (after_unit ns f l.since l.conj l.disj l.implied bs k)
    onto_after f l bs r (e, t, u, enc, w, p, eq) =
        let all : r ≡ e ++ (w.i_signs ++ (w.d_signs ++ (w.c_signs ++ (w.s_signs ++ u)))) = eq ∙ ap (λ x. e ++ (x ++ u)) w.whole ∙ simp append_assoc in
        subst (λ x. RuleOnto x (after_unit ns f l.since l.conj l.disj l.implied bs k)) (sym all) (onto_unit l.since l.conj l.disj l.implied bs e w.i_signs w.d_signs w.c_signs w.s_signs u f enc w.implied w.disj w.conj w.since p)

    -- a unit of one sign, behind its prefixes
    onto_single : (os : List Prefix) (l : Lefts) (bs : List Bracket) (r : List Kind) (f : Form) → AtPoint ns (due os l bs) r → IsUnit ns (k ∷ []) f → RuleOnto r (Some (in_rule ns (unit_read (wrapped os f) l bs)))
    onto_single os l bs r f (e, t, enc, w, eq) p = (
      h,
      e ++ (t ++ (prefix_signs os ++ (k ∷ []))),
      given,
      (e, t, prefix_signs os ++ (k ∷ []), enc, w, wrap_unit os (k ∷ []) f p, refl),
      further r (ap (λ x. x ++ (k ∷ [])) eq ∙ simp append_assoc),
    )

    onto_prefix : (o : Prefix) (os : List Prefix) (l : Lefts) (bs : List Bracket) (r : List Kind) → AtPoint ns (due os l bs) r → k ≡ mark (prefix_mark o) → RuleOnto r (Some (in_rule ns (due (o ∷ os) l bs)))
    onto_prefix o os l bs r (e, t, enc, w, eq) is =
        (h, e ++ (t ++ prefix_signs (o ∷ os)), given, (e, t, enc, w, refl), further r (ap (λ x. x ++ (k ∷ [])) eq ∙ ap (λ x. (e ++ (t ++ prefix_signs os)) ++ (x ∷ [])) is ∙ simp append_assoc))

    onto_open : (os : List Prefix) (l : Lefts) (bs : List Bracket) (r : List Kind) → AtPoint ns (due os l bs) r → k ≡ mark Open → RuleOnto r (Some (in_rule ns (due [] no_lefts ((os, l) ∷ bs))))
    onto_open os l bs r (e, t, enc, w, eq) is =
        due_next ((os, l) ∷ bs) (e ++ (t ++ (prefix_signs os ++ (mark Open ∷ [])))) [] r no_lefts (e, t, enc, w, refl)
        (record { i_signs = []; d_signs = []; c_signs = []; s_signs = []; implied = refl; disj = refl; conj = refl; since = refl; whole = refl })
        (ap (λ x. x ++ (k ∷ [])) eq ∙ ap (λ x. (e ++ (t ++ prefix_signs os)) ++ (x ∷ [])) is ∙ simp (append_assoc, append-nil))

  module _ (h : List Kind) (given : AreNames h ns) where
    abbrev Ruled : List Kind → Kind → Option State → Type 0
    Ruled r k o = RuleOnto h given k r o

    onto_mark : (m : Mark) (os : List Prefix) (l : Lefts) (bs : List Bracket) (r : List Kind) → AtPoint ns (due os l bs) r → Ruled r (mark m) (unit_sign ns os l bs (mark m))
    onto_mark m os l bs r at =
        let k : Kind = mark m in
        let rest : Option State = cond (is_mark Open k) (Some (in_rule ns (due [] no_lefts ((os, l) ∷ bs)))) (cond (is_mark True k) (Some (in_rule ns (unit_read (wrapped os yes) l bs))) (cond (is_mark False k) (Some (in_rule ns (unit_read (wrapped os no) l bs))) None)) in
        let Q : Option Prefix → Type 0 = λ o. Ruled r k (choose o rest (λ o. Some (in_rule ns (due (o ∷ os) l bs)))) in
        let pre = λ (o : Prefix) (e : is_mark (prefix_mark o) k ≡ true). onto_prefix h given k o os l bs r at (mark_is (prefix_mark o) k e) in
        cond_both (is_mark Not k) _ _ Q (pre single.Not) (λ _.
        cond_both (is_mark YL k) _ _ Q (pre single.YL) (λ _.
        cond_both (is_mark OL k) _ _ Q (pre single.OL) (λ _.
        cond_both (is_mark HL k) _ _ Q (pre single.HL) (λ _.
        cond_both (is_mark YG k) _ _ Q (pre single.YG) (λ _.
        cond_both (is_mark OG k) _ _ Q (pre single.OG) (λ _.
        cond_both (is_mark HG k) _ _ Q (pre single.HG) (λ _.
        cond_both (is_mark Open k) _ _ (Ruled r k) (λ e. onto_open h given k os l bs r at (mark_is Open k e)) (λ _.
        cond_both (is_mark True k) _ _ (Ruled r k) (λ e. onto_single h given k os l bs r yes at (subst (λ x. IsUnit ns (x ∷ []) yes) (sym (mark_is True k e)) is_true)) (λ _.
        cond_both (is_mark False k) _ _ (Ruled r k) (λ e. onto_single h given k os l bs r no at (subst (λ x. IsUnit ns (x ∷ []) no) (sym (mark_is False k e)) is_false)) (λ _. tt))))))))))

    onto_rule : (p : Point) (k : Kind) (r : List Kind) → AtPoint ns p r → Ruled r k (rule_sign ns p k)
    onto_rule (due os l bs) (name w) r at = onto_single h given (name w) os l bs r (atom (number ns w)) at (is_name w)
    onto_rule (due os l bs) (mark m) r at = onto_mark m os l bs r at
    onto_rule (due os l bs) end r at = tt
    onto_rule (unit_read f l bs) k r at = onto_after h given k f l bs r at
    onto_rule (link_read f c d i bs) k r at = absurd at
    onto_rule (conj_read f d i bs) k r at = absurd at
    onto_rule (disj_read f i bs) k r at = absurd at
    onto_rule (form_read f bs) k r at = absurd at

onto_name : (ns : List (List ℕ)) (s : List Kind) (k : Kind) → Leads (name_due ns) s → Onto (s ++ (k ∷ [])) (name_sign ns k)
onto_name ns s (mark m) l = tt
onto_name ns s end l = tt
onto_name ns s (name w) (inl (none, e)) = (name w ∷ [], subst (λ x. AreNames (name w ∷ []) (x ++ (w ∷ []))) (sym none) (one_name w), ap (λ x. x ++ (name w ∷ [])) e)
onto_name ns s (name w) (inr (t, a, e)) = (t ++ (mark Comma ∷ (name w ∷ [])), one_more a w, ap (λ x. x ++ (name w ∷ [])) e ∙ ap (λ x. mark Atoms ∷ x) (append_assoc t (mark Comma ∷ []) (name w ∷ [])))

-- one sign more
onto : (st : State) (s : List Kind) (k : Kind) → Leads st s → Onto (s ++ (k ∷ [])) (step st k)
onto begun s k e = cond_both (is_mark Atoms k) _ _ (Onto (s ++ (k ∷ []))) (λ c. inl (refl, ap (λ x. x ++ (k ∷ [])) e ∙ ap (λ x. x ∷ []) (mark_is Atoms k c))) (λ _. tt)
onto (name_due ns) s k l = onto_name ns s k l
onto (name_read ns) s k (t, a, e) =
    cond_both (is_mark Comma k) _ _ (Onto (s ++ (k ∷ []))) (λ c. inr (t, a, ap (λ x. x ++ (k ∷ [])) e ∙ ap (λ x. mark Atoms ∷ (t ++ (x ∷ []))) (mark_is Comma k c))) (λ _.
    cond_both (is_mark Semicolon k) _ _ (Onto (s ++ (k ∷ []))) (λ c. (t, a, ap (λ x. x ++ (k ∷ [])) e ∙ ap (λ x. mark Atoms ∷ (t ++ (x ∷ []))) (mark_is Semicolon k c))) (λ _. tt))
onto (rule_due ns) s k (t, a, e) =
    cond_both (is_mark Rule k) _ _ (Onto (s ++ (k ∷ [])))
    (λ c. (
      t,
      [],
      a,
      ([], [], refl, record { i_signs = []; d_signs = []; c_signs = []; s_signs = []; implied = refl; disj = refl; conj = refl; since = refl; whole = refl }, refl),
      ap (λ x. x ++ (k ∷ [])) e ∙ ap (λ x. mark Atoms ∷ x) (append_assoc t (mark Semicolon ∷ []) (k ∷ [])) ∙ ap (λ x. mark Atoms ∷ (t ++ (mark Semicolon ∷ (x ∷ [])))) (mark_is Rule k c),
    ))
    (λ _. tt)
onto (in_rule ns p) s k (t, r, a, at, e) = subst (λ x. Onto (x ++ (k ∷ [])) (rule_sign ns p k)) (sym e) (onto_rule ns t a p k r at)
onto (stopped ns f) s k l = tt

goes_on : (s : List Kind) (k : Kind) (ks : List Kind) (o : Option State) → ((next : State) → Leads next (s ++ (k ∷ [])) → Onto ((s ++ (k ∷ [])) ++ ks) (steps next ks)) → Onto (s ++ (k ∷ [])) o → Onto (s ++ (k ∷ ks)) (choose o None (λ next. steps next ks))
goes_on s k ks None rest t = tt
goes_on s k ks (Some next) rest t = subst (λ x. Onto x (steps next ks)) (append_assoc s (k ∷ []) ks) (rest next t)

leads_on : (st : State) (s ks : List Kind) → Leads st s → Onto (s ++ ks) (steps st ks)
leads_on st s [] l = subst (Leads st) (sym (append-nil s)) l
leads_on st s (k ∷ ks) l = goes_on s k ks (step st k) (λ next t. leads_on next (s ++ (k ∷ [])) ks t) (onto st s k l)

-- the signs that lead to a state do lead there
pub steps_lead : (s : List Kind) (st : State) → steps begun s ≡ Some st → Leads st s
steps_lead s st e = subst (Onto s) e (leads_on begun [] s refl)

pub policy_sound : (s : List Kind) (ns : List (List ℕ)) (f : Form) → steps begun s ≡ Some (stopped ns f) → IsPolicy s ns f
policy_sound s ns f e = steps_lead s (stopped ns f) e
