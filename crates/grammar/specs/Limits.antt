-- The limits of a policy text, by the signs before the one that breaks them. Assumes nothing.
use Rattle.std.specs.Prelude.{◌≡◌, ℕ, Bool, false, cond, ◌||◌, List, [], ◌∷◌, ◌++◌, length, Some, None, Option, nat_lt}
use Rattle.signs.specs.declared.sign.Mark.TheVariants.{Open, Close, Rule, True, False}
use Rattle.signs.specs.Signs.{Kind, mark, name, end}
use Rattle.grammar.specs.declared.fault.GrammarFault.{GrammarFault}
use Rattle.grammar.specs.declared.fault.GrammarFault.TheVariants as faults
use Rattle.grammar.specs.Machine.{is_mark, prefix_of, choose, is_declared, name_limit, opens}

-- the sign `rule` has come
abbrev pub rule_begun : List Kind → Bool
rule_begun [] = false
rule_begun (k ∷ ks) = is_mark Rule k || rule_begun ks

-- the names before it: the declared ones
abbrev pub names_in : List Kind → List (List ℕ)
names_in [] = []
names_in (name w ∷ ks) = w ∷ names_in ks
names_in (mark m ∷ ks) = cond (is_mark Rule (mark m)) [] (names_in ks)
names_in (end ∷ ks) = names_in ks

-- What is open: a bracket up to its partner, a prefix up to the end of its unit.
pub data Opening : Type 0 where
  prefix : Opening
  bracket : Opening

-- the end of a unit closes the prefixes before it
abbrev pub unit_ends : List Opening → List Opening
unit_ends [] = []
unit_ends (prefix ∷ os) = unit_ends os
unit_ends (bracket ∷ os) = bracket ∷ os

-- a closing bracket closes its partner, and ends a unit
abbrev pub bracket_ends : List Opening → List Opening
bracket_ends [] = []
bracket_ends (prefix ∷ os) = bracket_ends os
bracket_ends (bracket ∷ os) = unit_ends os

abbrev pub mark_opens : List Opening → Kind → List Opening
mark_opens os k =
    choose (prefix_of k)
    (cond (is_mark Open k) (bracket ∷ os)
    (cond (is_mark Close k) (bracket_ends os)
    (cond (is_mark True k || is_mark False k) (unit_ends os) os)))
    (λ _. prefix ∷ os)

-- what is open behind a sign, the newest first
abbrev pub opened : List Opening → Kind → List Opening
opened os (name w) = unit_ends os
opened os (mark m) = mark_opens os (mark m)
opened os end = os

abbrev pub open_after : List Opening → List Kind → List Opening
open_after os [] = os
open_after os (k ∷ ks) = open_after (opened os k) ks

-- the limit that the sign k, at the place f, breaks behind the signs s: an atom declared before or the 33rd,
-- a name in the rule that is not declared, the 33rd bracket or prefix that is open at once
abbrev pub limit_at : List Kind → Kind → ℕ → Option GrammarFault
limit_at s (name w) f =
    cond (rule_begun s)
    (cond (is_declared (names_in s) w) None (Some (faults.Undeclared f)))
    (name_limit (names_in s) w f)
limit_at s (mark m) f =
    cond (opens (mark m))
    (cond (nat_lt (length (open_after [] s)) 32) None (Some (faults.TooDeep f)))
    None
limit_at s end f = None

-- no sign of s breaks a limit behind `before` and the signs of s before it
abbrev pub WithinBehind : List Kind → List Kind → Type 0
WithinBehind before [] = Unit {0}
WithinBehind before (k ∷ s) = ((f : ℕ) → limit_at before k f ≡ None) × WithinBehind (before ++ (k ∷ [])) s

abbrev pub Within : List Kind → Type 0
Within s = WithinBehind [] s
