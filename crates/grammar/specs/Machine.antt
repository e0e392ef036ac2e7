-- The reading of a policy sign by sign: a state for what has been read, and where each sign leads.
-- The laws above it are in Laws.antt; they say of it what the grammar says. Assumes nothing.
use Rattle.std.specs.Prelude.{ℕ, suc, Bool, true, false, cond, List, [], ◌∷◌, ◌++◌, length, Some, None, Option, nat_lt}
use Rattle.lines.specs.declared.line.Prefix.{Prefix}
use Rattle.lines.specs.declared.line.Prefix.TheVariants as single
use Rattle.lines.specs.declared.line.Infix.{Infix}
use Rattle.lines.specs.declared.line.Infix.TheVariants as pair
use Rattle.lines.specs.Forms.{Form, atom, no, yes, prefixed, joined}
use Rattle.signs.specs.declared.sign.Mark.{Mark}
use Rattle.signs.specs.declared.sign.Mark.TheVariants.{Open, Close, Not, And, Or, Arrow, Comma, Semicolon, Stop, YL, SL, OL, HL, YG, SG, OG, HG, Atoms, Rule, True, False}
use Rattle.signs.specs.declared.sign.SignFault.TheVariants.{TooLong}
use Rattle.signs.specs.Marks.{same_mark}
use Rattle.signs.specs.Signs.{Kind, mark, name, end}
use Rattle.signs.specs.Walk.{Signs, ends, wrong, sign, signs_of}
use Rattle.grammar.specs.declared.fault.GrammarFault.{GrammarFault}
use Rattle.grammar.specs.declared.fault.GrammarFault.TheVariants as faults
use Rattle.grammar.specs.Grammar.{number}

abbrev pub is_mark : Mark → Kind → Bool
is_mark m (mark n) = same_mark m n
is_mark m (name w) = false
is_mark m end = false

-- the prefix that a sign is
abbrev pub prefix_of : Kind → Option Prefix
prefix_of k =
    cond (is_mark Not k) (Some single.Not)
    (cond (is_mark YL k) (Some single.YL)
    (cond (is_mark OL k) (Some single.OL)
    (cond (is_mark HL k) (Some single.HL)
    (cond (is_mark YG k) (Some single.YG)
    (cond (is_mark OG k) (Some single.OG)
    (cond (is_mark HG k) (Some single.HG) None))))))

-- the since that a sign is
abbrev pub since_of : Kind → Option Infix
since_of k = cond (is_mark SL k) (Some pair.SL) (cond (is_mark SG k) (Some pair.SG) None)

-- the form of prefixes, the last of which comes first here, before a unit
abbrev pub wrapped : List Prefix → Form → Form
wrapped [] f = f
wrapped (o ∷ os) f = wrapped os (prefixed o f)

-- a form behind the left side of an infix, if there is one
abbrev pub join : Infix → Option Form → Form → Form
join o None f = f
join o (Some g) f = joined o g f

-- The left sides that wait for their right ones inside one pair of brackets: of a since, of `&`, of `|`
-- and of `->`.
pub record Lefts : Type 0 where
  pub since : Option (Infix × Form)
  pub conj : Option Form
  pub disj : Option Form
  pub implied : Option Form

-- An open bracket: the prefixes before it and the left sides that wait there.
abbrev pub Bracket : Type 0
Bracket = List Prefix × Lefts

-- Where the reading of the rule stands: a unit is due, behind prefixes; or a unit, a link, a conj, a disj
-- or a form has been read, and what belongs to a smaller part may not come any more.
pub data Point : Type 0 where
  due : List Prefix → Lefts → List Bracket → Point
  unit_read : Form → Lefts → List Bracket → Point
  link_read : Form → Option Form → Option Form → Option Form → List Bracket → Point
  conj_read : Form → Option Form → Option Form → List Bracket → Point
  disj_read : Form → Option Form → List Bracket → Point
  form_read : Form → List Bracket → Point

-- What has been read of the policy.
pub data State : Type 0 where
  begun : State
  name_due : List (List ℕ) → State
  name_read : List (List ℕ) → State
  rule_due : List (List ℕ) → State
  in_rule : List (List ℕ) → Point → State
  stopped : List (List ℕ) → Form → State

abbrev pub lefts : Option (Infix × Form) → Option Form → Option Form → Option Form → Lefts
lefts s c d i = record { since = s; conj = c; disj = d; implied = i }

abbrev pub no_lefts : Lefts
no_lefts = lefts None None None None

abbrev pub choose : {A B : Type 0} → Option A → B → (A → B) → B
choose None b f = b
choose (Some a) b f = f a

-- A closing bracket makes a unit of a form; a full stop ends the policy.
abbrev pub closed : List (List ℕ) → Form → List Bracket → Option State
closed ns f [] = None
closed ns f (b ∷ bs) = Some (in_rule ns (unit_read (wrapped b.0 f) b.1 bs))

abbrev pub ended : List (List ℕ) → Form → List Bracket → Option State
ended ns f [] = Some (stopped ns f)
ended ns f (b ∷ bs) = None

abbrev pub after_form : List (List ℕ) → Form → List Bracket → Kind → Option State
after_form ns f bs k = cond (is_mark Close k) (closed ns f bs) (cond (is_mark Stop k) (ended ns f bs) None)

-- `->` does not chain
abbrev pub after_disj : List (List ℕ) → Form → Option Form → List Bracket → Kind → Option State
after_disj ns f None bs k = cond (is_mark Arrow k) (Some (in_rule ns (due [] (lefts None None None (Some f)) bs))) (after_form ns f bs k)
after_disj ns f (Some g) bs k = after_form ns (joined pair.Implies g f) bs k

abbrev pub after_conj : List (List ℕ) → Form → Option Form → Option Form → List Bracket → Kind → Option State
after_conj ns f d i bs k = cond (is_mark Or k) (Some (in_rule ns (due [] (lefts None None (Some (join pair.Or d f)) i) bs))) (after_disj ns (join pair.Or d f) i bs k)

abbrev pub after_link : List (List ℕ) → Form → Option Form → Option Form → Option Form → List Bracket → Kind → Option State
after_link ns f c d i bs k = cond (is_mark And k) (Some (in_rule ns (due [] (lefts None (Some (join pair.And c f)) d i) bs))) (after_conj ns (join pair.And c f) d i bs k)

-- nor does since
abbrev pub after_unit : List (List ℕ) → Form → Option (Infix × Form) → Option Form → Option Form → Option Form → List Bracket → Kind → Option State
after_unit ns f None c d i bs k = choose (since_of k) (after_link ns f c d i bs k) (λ o. Some (in_rule ns (due [] (lefts (Some (o, f)) c d i) bs)))
after_unit ns f (Some l) c d i bs k = after_link ns (joined l.0 l.1 f) c d i bs k

-- where a unit is due
abbrev pub unit_sign : List (List ℕ) → List Prefix → Lefts → List Bracket → Kind → Option State
unit_sign ns os l bs (name w) = Some (in_rule ns (unit_read (wrapped os (atom (number ns w))) l bs))
unit_sign ns os l bs end = None
unit_sign ns os l bs (mark m) =
    choose (prefix_of (mark m))
    (cond (is_mark Open (mark m)) (Some (in_rule ns (due [] no_lefts ((os, l) ∷ bs))))
    (cond (is_mark True (mark m)) (Some (in_rule ns (unit_read (wrapped os yes) l bs)))
    (cond (is_mark False (mark m)) (Some (in_rule ns (unit_read (wrapped os no) l bs))) None)))
    (λ o. Some (in_rule ns (due (o ∷ os) l bs)))

abbrev pub rule_sign : List (List ℕ) → Point → Kind → Option State
rule_sign ns (due os l bs) k = unit_sign ns os l bs k
rule_sign ns (unit_read f l bs) k = after_unit ns f l.since l.conj l.disj l.implied bs k
rule_sign ns (link_read f c d i bs) k = after_link ns f c d i bs k
rule_sign ns (conj_read f d i bs) k = after_conj ns f d i bs k
rule_sign ns (disj_read f i bs) k = after_disj ns f i bs k
rule_sign ns (form_read f bs) k = after_form ns f bs k

abbrev pub name_sign : List (List ℕ) → Kind → Option State
name_sign ns (name w) = Some (name_read (ns ++ (w ∷ [])))
name_sign ns (mark m) = None
name_sign ns end = None

-- where a sign leads; nowhere, if it does not fit
abbrev pub step : State → Kind → Option State
step begun k = cond (is_mark Atoms k) (Some (name_due [])) None
step (name_due ns) k = name_sign ns k
step (name_read ns) k = cond (is_mark Comma k) (Some (name_due ns)) (cond (is_mark Semicolon k) (Some (rule_due ns)) None)
step (rule_due ns) k = cond (is_mark Rule k) (Some (in_rule ns (due [] no_lefts []))) None
step (in_rule ns p) k = rule_sign ns p k
step (stopped ns f) k = None

-- where signs lead, one after the other
abbrev pub steps : State → List Kind → Option State
steps st [] = Some st
steps st (k ∷ ks) = choose (step st k) None (λ next. steps next ks)

abbrev pub is_declared : List (List ℕ) → List ℕ → Bool
is_declared ns w = nat_lt (number ns w) (length ns)

-- how many brackets and prefixes are open where a unit is due
abbrev pub with_prefixes : List Prefix → ℕ → ℕ
with_prefixes [] n = n
with_prefixes (o ∷ os) n = suc (with_prefixes os n)

abbrev pub open_brackets : List Bracket → ℕ
open_brackets [] = 0
open_brackets (b ∷ bs) = suc (with_prefixes b.0 (open_brackets bs))

-- the limit that a sign which fits breaks, if it does; f is its place
abbrev pub name_limit : List (List ℕ) → List ℕ → ℕ → Option GrammarFault
name_limit ns w f = cond (is_declared ns w) (Some (faults.Repeated f)) (cond (nat_lt (length ns) 32) None (Some (faults.ManyAtoms f)))

abbrev pub depth_limit : List Prefix → List Bracket → ℕ → Option GrammarFault
depth_limit os bs f = cond (nat_lt (with_prefixes os (open_brackets bs)) 32) None (Some (faults.TooDeep f))

abbrev pub opens : Kind → Bool
opens k = choose (prefix_of k) (is_mark Open k) (λ _. true)

abbrev pub unit_limit : List (List ℕ) → List Prefix → List Bracket → Kind → ℕ → Option GrammarFault
unit_limit ns os bs (name w) f = cond (is_declared ns w) None (Some (faults.Undeclared f))
unit_limit ns os bs (mark m) f = cond (opens (mark m)) (depth_limit os bs f) None
unit_limit ns os bs end f = None

abbrev pub point_limit : List (List ℕ) → Point → Kind → ℕ → Option GrammarFault
point_limit ns (due os l bs) k f = unit_limit ns os bs k f
point_limit ns (unit_read g l bs) k f = None
point_limit ns (link_read g c d i bs) k f = None
point_limit ns (conj_read g d i bs) k f = None
point_limit ns (disj_read g i bs) k f = None
point_limit ns (form_read g bs) k f = None

abbrev pub declare_limit : List (List ℕ) → Kind → ℕ → Option GrammarFault
declare_limit ns (name w) f = name_limit ns w f
declare_limit ns (mark m) f = None
declare_limit ns end f = None

abbrev pub limit : State → Kind → ℕ → Option GrammarFault
limit begun k f = None
limit (name_due ns) k f = declare_limit ns k f
limit (name_read ns) k f = None
limit (rule_due ns) k f = None
limit (in_rule ns p) k f = point_limit ns p k f
limit (stopped ns g) k f = None

-- What reading a text comes to.
pub data Outcome : Type 0 where
  accepted : List (List ℕ) → Form → Outcome
  refused : GrammarFault → Outcome

abbrev pub at_end : State → ℕ → Outcome
at_end begun n = refused (faults.Misfit n)
at_end (name_due ns) n = refused (faults.Misfit n)
at_end (name_read ns) n = refused (faults.Misfit n)
at_end (rule_due ns) n = refused (faults.Misfit n)
at_end (in_rule ns p) n = refused (faults.Misfit n)
at_end (stopped ns f) n = accepted ns f

abbrev pub run : State → Signs → Outcome
run st (wrong e) = refused (faults.Sign e)
run st (ends n) = at_end st n
run st (sign k f rest) = choose (step st k) (refused (faults.Misfit f)) (λ next. choose (limit st k f) (run next rest) refused)

-- a text of over 8,192 bytes is refused before all else
abbrev pub outcome : List ℕ → Outcome
outcome text = cond (nat_lt 8192 (length text)) (refused (faults.Sign TooLong)) (run begun (signs_of text))
