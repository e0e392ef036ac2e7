-- The machine comes to what is right, and nothing else is right.
use Rattle.std.proofs.Common.{◌≡◌, ℕ, Bool, true, false, cond, ltb, List, [], ◌∷◌, ◌++◌, length, Some, None, Option, sym, refl, ap, ◌∙◌, subst, append_assoc, append-nil, arith, ltb-false, ltb-true}
use Rattle.std.proofs.lemmas.Bool.{cond_both, cond-true, cond-false, lt-ltb, le-ltb}
use Rattle.lines.specs.Forms.{Form}
use Rattle.signs.specs.Signs.{Kind, mark, name, end}
use Rattle.signs.specs.Walk.{Signs, ends, wrong, sign, signs_of}
use Rattle.grammar.specs.declared.fault.GrammarFault.{GrammarFault}
use Rattle.grammar.specs.declared.fault.GrammarFault.TheVariants as faults
use Rattle.grammar.specs.Grammar.{Begins}
use Rattle.grammar.specs.Limits.{rule_begun, names_in, open_after, limit_at, WithinBehind, Within}
use Rattle.grammar.specs.Machine.{State, begun, name_due, name_read, rule_due, in_rule, stopped, choose, step, steps, is_declared, opens, limit, Outcome, refused, at_end, run}
use Rattle.grammar.specs.Reading.{Goes, here, there, Right, is_policy_read, no_sign_reads, end_misfits, sign_misfits, limit_breaks, Reading, too_long, by_signs, ReadsRight, ReadsOnlyRight, OneReading}
use Rattle.grammar.proofs.Complete.{policy_complete, one_policy}
use Rattle.grammar.proofs.Fits.{steps_then, steps_from, begins, begins_next, begins_none, begun_leads}
use Rattle.grammar.proofs.Limits.{Tracks, Tracked, tracked, tracks_none}
use Rattle.grammar.proofs.Sound.{steps_lead, policy_sound}

goes_next : {a b : Signs} {s : List Kind} {k : Kind} {f : ℕ} → Goes a s (sign k f b) → Goes a (s ++ (k ∷ [])) b
goes_next here = there here
goes_next (there g) = there (goes_next g)

-- one sign more within the limits
within_next : (b s : List Kind) (k : Kind) → WithinBehind b s → ((f : ℕ) → limit_at (b ++ s) k f ≡ None) → WithinBehind b (s ++ (k ∷ []))
within_next b [] k w h = (λ f. ap (λ v. limit_at v k f) (sym (append-nil b)) ∙ h f, tt)
within_next b (x ∷ s) k w h = (w.0, within_next (b ++ (x ∷ [])) s k w.1 (λ f. ap (λ v. limit_at v k f) (append_assoc b (x ∷ []) s) ∙ h f))

-- where the machine has come along the signs s
record Come (st : State) (s : List Kind) : Type 0 where
  way : steps begun s ≡ Some st
  tracks : Tracks st s

come_next : {st next : State} {s : List Kind} (k : Kind) → Come st s → step st k ≡ Some next → Come next (s ++ (k ∷ [])) × ((f : ℕ) → limit st k f ≡ limit_at s k f)
come_next {st} {next} {s} k c e =
    let t : Tracked st s k (Some next) = subst (Tracked st s k) e (tracked st s k (steps_lead s st c.way) c.tracks) in
    (record { way = steps_from begun st s (k ∷ []) c.way ∙ ap (λ o. choose o None (λ x. steps x [])) e; tracks = t.0 }, t.1)

-- not at its end
abbrev Unstopped : State → Type 0
Unstopped st = (ns : List (List ℕ)) (f : Form) → st ≡ stopped ns f → ⊥

other_state : {st : State} {ns : List (List ℕ)} {f : Form} (n : State → ℕ) → n st ≡ 0 → n (stopped ns f) ≡ 1 → st ≡ stopped ns f → ⊥
other_state n a b e = let z : ◌≡◌ {A = ℕ} 0 1 = sym a ∙ ap n e ∙ b in omega arith

abbrev is_stopped : State → ℕ
is_stopped begun = 0
is_stopped (name_due ns) = 0
is_stopped (name_read ns) = 0
is_stopped (rule_due ns) = 0
is_stopped (in_rule ns p) = 0
is_stopped (stopped ns f) = 1

end_right : (a : Signs) (s : List Kind) (n : ℕ) (st : State) → is_stopped st ≡ 0 → Come st s → Within s → Goes a s (ends n) → Right a (refused (faults.Misfit n))
end_right a s n st h c w g =
    end_misfits g (begins s st c.way) w (λ ns f p. let e : Some st ≡ Some (stopped ns f) = sym c.way ∙ policy_complete p in let same : st ≡ stopped ns f = cc in other_state is_stopped h refl same)

at_end_right : (a : Signs) (s : List Kind) (n : ℕ) (st : State) → Come st s → Within s → Goes a s (ends n) → Right a (at_end st n)
at_end_right a s n begun c w g = end_right a s n begun refl c w g
at_end_right a s n (name_due ns) c w g = end_right a s n (name_due ns) refl c w g
at_end_right a s n (name_read ns) c w g = end_right a s n (name_read ns) refl c w g
at_end_right a s n (rule_due ns) c w g = end_right a s n (rule_due ns) refl c w g
at_end_right a s n (in_rule ns p) c w g = end_right a s n (in_rule ns p) refl c w g
at_end_right a s n (stopped ns f) c w g = is_policy_read g (policy_sound s ns f c.way) w

-- a sign that fits, by the limit that it breaks
fitting : (a : Signs) (s : List Kind) (k : Kind) (f : ℕ) (b : Signs) (o : Option GrammarFault) (r : Outcome) → limit_at s k f ≡ o → Begins (s ++ (k ∷ [])) → Within s → Goes a s (sign k f b) → (o ≡ None → Right a r) → Right a (choose o r refused)
fitting a s k f b (Some e) r l fits w g go = limit_breaks g fits w l
fitting a s k f b None r l fits w g go = go refl

some_none : {A : Type 0} {x : A} → Some x ≡ None → ⊥
some_none e = let z : ◌≡◌ {A = ℕ} 0 1 = cc in omega arith

-- whether a limit breaks does not depend on the place
name_anywhere : (r d c : Bool) (f g : ℕ) → cond r (cond d None (Some (faults.Undeclared f))) (cond d (Some (faults.Repeated f)) (cond c None (Some (faults.ManyAtoms f)))) ≡ None → cond r (cond d None (Some (faults.Undeclared g))) (cond d (Some (faults.Repeated g)) (cond c None (Some (faults.ManyAtoms g)))) ≡ None
name_anywhere true true c f g e = refl
name_anywhere true false c f g e = absurd (some_none e)
name_anywhere false true c f g e = absurd (some_none e)
name_anywhere false false true f g e = refl
name_anywhere false false false f g e = absurd (some_none e)

mark_anywhere : (o l : Bool) (f g : ℕ) → cond o (cond l None (Some (faults.TooDeep f))) None ≡ None → cond o (cond l None (Some (faults.TooDeep g))) None ≡ None
mark_anywhere true true f g e = refl
mark_anywhere true false f g e = absurd (some_none e)
mark_anywhere false l f g e = refl

limit_anywhere : (s : List Kind) (k : Kind) (f : ℕ) → limit_at s k f ≡ None → (g : ℕ) → limit_at s k g ≡ None
limit_anywhere s (name w) f e g = name_anywhere (rule_begun s) (is_declared (names_in s) w) (ltb (length (names_in s)) 32) f g e
limit_anywhere s (mark m) f e g = mark_anywhere (opens (mark m)) (ltb (length (open_after [] s)) 32) f g e
limit_anywhere s end f e g = refl

sign_right : (a : Signs) (s : List Kind) (st : State) (k : Kind) (f : ℕ) (b : Signs) (o : Option State) → step st k ≡ o → Come st s → Within s → Goes a s (sign k f b) → ((next : State) (t : List Kind) → Come next t → Within t → Goes a t b → Right a (run next b)) → Right a (choose o (refused (faults.Misfit f)) (λ next. choose (limit st k f) (run next b) refused))
sign_right a s st k f b None e c w g rest = sign_misfits g (begins s st c.way) w (begins_none s st k c.way e)
sign_right a s st k f b (Some next) e c w g rest =
    let n = come_next k c e in
    fitting a s k f b (limit st k f) (run next b) (sym (n.1 f)) (begins_next s st next k c.way e) w g
    (λ l. rest next (s ++ (k ∷ [])) n.0 (within_next [] s k w (limit_anywhere s k f (sym (n.1 f) ∙ l))) (goes_next g))

run_right : (a : Signs) (s : List Kind) (st : State) (b : Signs) → Come st s → Within s → Goes a s b → Right a (run st b)
run_right a s st (wrong e) c w g = no_sign_reads g (begins s st c.way) w
run_right a s st (ends n) c w g = at_end_right a s n st c w g
run_right a s st (sign k f b) c w g = sign_right a s st k f b (step st k) refl c w g (λ next t d v h. run_right a t next b d v h)

come_none : Come begun []
come_none = record { way = refl; tracks = tracks_none }

pub reads_right : ReadsRight
reads_right text =
    cond_both (ltb 8192 (length text)) _ _ (Reading text) (λ l. too_long (omega (arith, ltb-true, l)))
    (λ l. by_signs (omega (arith, ltb-false, l)) (run_right (signs_of text) [] begun (signs_of text) come_none tt here))

-- the machine's way along signs that keep the limits
some_step : (o : Option State) (g : State → Option State) (last : State) → choose o None g ≡ Some last → (next : State) × (o ≡ Some next) × (g next ≡ Some last)
some_step None g last e = absurd (some_none (sym e))
some_step (Some next) g last e = (next, refl, e)

along : {a b : Signs} {s : List Kind} → Goes a s b → (st last : State) (t : List Kind) → Come st t → steps st s ≡ Some last → WithinBehind t s → run st a ≡ run last b
along {a} here st last t c e w = let same : st ≡ last = cc in ap (λ x. run x a) same
along (there {k} {f} {a} {b} {s} g) st last t c e w =
    let n = some_step (step st k) (λ next. steps next s) last e in
    let d = come_next k c n.1 in
    ap (λ o. choose o (refused (faults.Misfit f)) (λ next. choose (limit st k f) (run next a) refused)) n.1
    ∙ ap (λ o. choose o (run n.0 a) refused) (d.1 f ∙ w.0 f)
    ∙ along g n.0 last (t ++ (k ∷ [])) d.0 n.2 w.1

from_begun : {a b : Signs} {s : List Kind} → Goes a s b → (last : State) → steps begun s ≡ Some last → Within s → run begun a ≡ run last b
from_begun g last e w = along g begun last [] come_none e w

no_end : (st : State) (n : ℕ) → Unstopped st → refused (faults.Misfit n) ≡ at_end st n
no_end begun n u = refl
no_end (name_due ns) n u = refl
no_end (name_read ns) n u = refl
no_end (rule_due ns) n u = refl
no_end (in_rule ns p) n u = refl
no_end (stopped ns f) n u = absurd (u ns f refl)

no_step : (o : Option State) (f : ℕ) (g : State → Outcome) → ((next : State) → o ≡ Some next → ⊥) → refused (faults.Misfit f) ≡ choose o (refused (faults.Misfit f)) g
no_step None f g none = refl
no_step (Some next) f g none = absurd (none next refl)

-- the state before the last sign
before_last : (s : List Kind) (k : Kind) (last : State) → steps begun (s ++ (k ∷ [])) ≡ Some last → (st : State) × (steps begun s ≡ Some st) × (step st k ≡ Some last)
before_last s k last e =
    let n = some_step (steps begun s) (λ next. steps next (k ∷ [])) last (sym (steps_then begun s (k ∷ [])) ∙ e) in
    let m = some_step (step n.0 k) (λ next. steps next []) last n.2 in
    let same : m.0 ≡ last = cc in
    (n.0, n.1, m.1 ∙ ap Some same)

come_along : (ks s : List Kind) (st last : State) → Come st s → steps st ks ≡ Some last → Come last (s ++ ks)
come_along [] s st last c e = let same : st ≡ last = cc in subst (λ v. Come last v) (sym (append-nil s)) (subst (λ x. Come x s) same c)
come_along (k ∷ ks) s st last c e =
    let n = some_step (step st k) (λ next. steps next ks) last e in
    subst (λ v. Come last v) (append_assoc s (k ∷ []) ks) (come_along ks (s ++ (k ∷ [])) n.0 last (come_next k c n.1).0 n.2)

come_to : (s : List Kind) (st : State) → steps begun s ≡ Some st → Come st s
come_to s st e = come_along s [] begun st come_none e

right_only : (a : Signs) (o : Outcome) → Right a o → o ≡ run begun a
right_only a o (is_policy_read {s} {n} {names} {f} g p w) = sym (from_begun g (stopped names f) (policy_complete p) w)
right_only a o (no_sign_reads {s} g b w) = let l = begun_leads s b in sym (from_begun g l.0 l.1 w)
right_only a o (end_misfits {s} {n} g b w none) =
    let l = begun_leads s b in
    no_end l.0 n (λ ns f e. none ns f (policy_sound s ns f (l.1 ∙ ap Some e))) ∙ sym (from_begun g l.0 l.1 w)
right_only a o (sign_misfits {s} {k} {f} {b} g h w none) =
    let l = begun_leads s h in
    no_step (step l.0 k) f (λ next. choose (limit l.0 k f) (run next b) refused) (λ next e. none (begins_next s l.0 next k l.1 e)) ∙ sym (from_begun g l.0 l.1 w)
right_only a o (limit_breaks {s} {k} {f} {b} {e} g h w is) =
    let l = begun_leads (s ++ (k ∷ [])) h in
    let n = before_last s k l.0 l.1 in
    let d = come_next k (come_to s n.0 n.1) n.2 in
    sym (from_begun g n.0 n.1 w
    ∙ ap (λ x. choose x (refused (faults.Misfit f)) (λ next. choose (limit n.0 k f) (run next b) refused)) n.2
    ∙ ap (λ x. choose x (run l.0 b) refused) (d.1 f ∙ is))

pub reads_only_right : ReadsOnlyRight
reads_only_right text o (too_long l) = sym (cond-true _ _ _ (lt-ltb _ _ l))
reads_only_right text o (by_signs l r) = right_only (signs_of text) o r ∙ sym (cond-false _ _ _ (le-ltb _ _ l))

pub one_reading : OneReading
one_reading s names others f g p q = one_policy p q
