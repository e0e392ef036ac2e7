-- A sign fits where the machine goes on: the signs of each state can be completed to a policy.
use Rattle.std.proofs.Common.{◌≡◌, ℕ, List, [], ◌∷◌, ◌++◌, Some, None, Option, sym, refl, ap, ◌∙◌, append_assoc, arith}
use Rattle.lines.specs.declared.line.Infix.{Infix}
use Rattle.lines.specs.Forms.{Form}
use Rattle.signs.specs.declared.sign.Mark.TheVariants.{Close, Semicolon, Stop, Atoms, Rule, True}
use Rattle.signs.specs.Signs.{Kind, mark, name}
use Rattle.grammar.specs.Grammar.{Begins}
use Rattle.grammar.specs.Machine.{Bracket, Point, due, unit_read, link_read, conj_read, disj_read, form_read, State, begun, name_due, name_read, rule_due, in_rule, stopped, lefts, choose, step, steps}
use Rattle.grammar.proofs.Complete.{policy_complete}
use Rattle.grammar.proofs.Sound.{AtPoint, Leads, steps_lead, policy_sound}

choose_then : (o : Option State) (f g : State → Option State) → ((next : State) → f next ≡ g next) → choose o None f ≡ choose o None g
choose_then None f g e = refl
choose_then (Some x) f g e = e x

choose_choose : (o : Option State) (f g : State → Option State) → choose (choose o None f) None g ≡ choose o None (λ x. choose (f x) None g)
choose_choose None f g = refl
choose_choose (Some x) f g = refl

-- the way through s and then ks
pub steps_then : (st : State) (s ks : List Kind) → steps st (s ++ ks) ≡ choose (steps st s) None (λ next. steps next ks)
steps_then st [] ks = refl
steps_then st (k ∷ s) ks =
    choose_then (step st k) (λ next. steps next (s ++ ks)) (λ next. choose (steps next s) None (λ last. steps last ks)) (λ next. steps_then next s ks)
    ∙ sym (choose_choose (step st k) (λ next. steps next s) (λ next. steps next ks))

pub steps_from : (st next : State) (s ks : List Kind) → steps st s ≡ Some next → steps st (s ++ ks) ≡ steps next ks
steps_from st next s ks e = steps_then st s ks ∙ ap (λ o. choose o None (λ x. steps x ks)) e

clash : {A : Type 0} {o : Option A} {x : A} → o ≡ Some x → o ≡ None → ⊥
clash p q = let z : ◌≡◌ {A = ℕ} 0 1 = cc in omega arith

-- signs that finish a policy
abbrev closing : List Bracket → List Kind
closing [] = mark Stop ∷ []
closing (b ∷ bs) = mark Close ∷ closing bs

module _ (ns : List (List ℕ)) where
  abbrev Finishes : State → List Kind → Type 0
  Finishes st ks = (f : Form) × (steps st ks ≡ Some (stopped ns f))

  closes : (bs : List Bracket) (f : Form) (s : Option (Infix × Form)) (c d i : Option Form) → Finishes (in_rule ns (unit_read f (lefts s c d i) bs)) (closing bs)
  closes [] f None c d None = (_, refl)
  closes [] f None c d (Some i) = (_, refl)
  closes [] f (Some s) c d None = (_, refl)
  closes [] f (Some s) c d (Some i) = (_, refl)
  closes (b ∷ bs) f None c d None = closes bs _ b.1.since b.1.conj b.1.disj b.1.implied
  closes (b ∷ bs) f None c d (Some i) = closes bs _ b.1.since b.1.conj b.1.disj b.1.implied
  closes (b ∷ bs) f (Some s) c d None = closes bs _ b.1.since b.1.conj b.1.disj b.1.implied
  closes (b ∷ bs) f (Some s) c d (Some i) = closes bs _ b.1.since b.1.conj b.1.disj b.1.implied

  finish_rule : (p : Point) (r : List Kind) → AtPoint ns p r → (ks : List Kind) × Finishes (in_rule ns p) ks
  finish_rule (due os l bs) r at = (mark True ∷ closing bs, closes bs _ l.since l.conj l.disj l.implied)
  finish_rule (unit_read f l bs) r at = (closing bs, closes bs f l.since l.conj l.disj l.implied)
  finish_rule (link_read f c d i bs) r at = absurd at
  finish_rule (conj_read f d i bs) r at = absurd at
  finish_rule (disj_read f i bs) r at = absurd at
  finish_rule (form_read f bs) r at = absurd at

abbrev letter : List ℕ
letter = 97 ∷ []

abbrev rule_rest : List Kind
rule_rest = mark Rule ∷ (mark True ∷ (mark Stop ∷ []))

finish : (st : State) (s : List Kind) → Leads st s → (ks : List Kind) × (ns : List (List ℕ)) × Finishes ns st ks
finish begun s l = (mark Atoms ∷ (name letter ∷ (mark Semicolon ∷ rule_rest)), letter ∷ [], (_, refl))
finish (name_due ns) s l = (name letter ∷ (mark Semicolon ∷ rule_rest), ns ++ (letter ∷ []), (_, refl))
finish (name_read ns) s l = (mark Semicolon ∷ rule_rest, ns, (_, refl))
finish (rule_due ns) s l = (rule_rest, ns, (_, refl))
finish (in_rule ns p) s l = let r = finish_rule ns p l.1 l.3 in (r.0, ns, r.1)
finish (stopped ns f) s l = ([], ns, (f, refl))

pub begins : (s : List Kind) (st : State) → steps begun s ≡ Some st → Begins s
begins s st e =
    let r = finish st s (steps_lead s st e) in
    record { rest = r.0; names = r.1; form = r.2.0; policy = policy_sound (s ++ r.0) r.1 r.2.0 (steps_from begun st s r.0 e ∙ r.2.1) }

pub begins_next : (s : List Kind) (st next : State) (k : Kind) → steps begun s ≡ Some st → step st k ≡ Some next → Begins (s ++ (k ∷ []))
begins_next s st next k e h = begins (s ++ (k ∷ [])) next (steps_from begun st s (k ∷ []) e ∙ ap (λ o. choose o None (λ x. steps x [])) h)

pub begins_none : (s : List Kind) (st : State) (k : Kind) → steps begun s ≡ Some st → step st k ≡ None → Begins (s ++ (k ∷ [])) → ⊥
begins_none s st k e h b =
    clash (policy_complete b.policy) (ap (steps begun) (append_assoc s (k ∷ []) b.rest) ∙ steps_from begun st s (k ∷ b.rest) e ∙ ap (λ o. choose o None (λ x. steps x b.rest)) h)

-- signs that begin a policy lead somewhere
some_start : (o : Option State) (g : State → Option State) (last : State) → choose o None g ≡ Some last → (st : State) × (o ≡ Some st)
some_start None g last e = absurd (clash (sym (sym e)) refl)
some_start (Some st) g last e = (st, refl)

pub begun_leads : (s : List Kind) → Begins s → (st : State) × (steps begun s ≡ Some st)
begun_leads s b = some_start (steps begun s) (λ next. steps next b.rest) (stopped b.names b.form) (sym (steps_then begun s b.rest) ∙ policy_complete b.policy)
