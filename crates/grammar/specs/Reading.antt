-- What reading a text must come to: the law above the machine, in the words of the grammar.
use Rattle.std.specs.Prelude.{◌≡◌, ℕ, ◌<◌, ◌≤◌, List, [], ◌∷◌, ◌++◌, length, Some}
use Rattle.lines.specs.Forms.{Form}
use Rattle.signs.specs.declared.sign.SignFault.{SignFault}
use Rattle.signs.specs.declared.sign.SignFault.TheVariants.{TooLong}
use Rattle.signs.specs.Signs.{Kind}
use Rattle.signs.specs.Walk.{Signs, ends, wrong, sign, signs_of}
use Rattle.grammar.specs.declared.fault.GrammarFault.{GrammarFault}
use Rattle.grammar.specs.declared.fault.GrammarFault.TheVariants as faults
use Rattle.grammar.specs.Grammar.{IsPolicy, Begins}
use Rattle.grammar.specs.Limits.{limit_at, Within}
use Rattle.grammar.specs.Machine.{Outcome, accepted, refused, outcome}

-- `Goes a s b`: a has the signs s, and then b
pub data Goes : Signs → List Kind → Signs → Type 0 where
  here : {a : Signs} → Goes a [] a
  there : {k : Kind} {f : ℕ} {a b : Signs} {s : List Kind} → Goes a s b → Goes (sign k f a) (k ∷ s) b

-- Signs are accepted as a policy that the grammar derives and that keeps the limits. They are refused at the
-- first thing that is wrong: all signs before it fit and keep the limits, and there a sign cannot be read, or
-- the sign (or the end) does not fit, or it fits and breaks a limit. To fit is to begin a policy.
pub data Right (a : Signs) : Outcome → Type 0 where
  is_policy_read : {s : List Kind} {n : ℕ} {names : List (List ℕ)} {f : Form} → Goes a s (ends n) → IsPolicy s names f → Within s → Right a (accepted names f)
  no_sign_reads : {s : List Kind} {e : SignFault} → Goes a s (wrong e) → Begins s → Within s → Right a (refused (faults.Sign e))
  end_misfits : {s : List Kind} {n : ℕ} → Goes a s (ends n) → Begins s → Within s → ((names : List (List ℕ)) (f : Form) → IsPolicy s names f → ⊥) → Right a (refused (faults.Misfit n))
  sign_misfits : {s : List Kind} {k : Kind} {f : ℕ} {b : Signs} → Goes a s (sign k f b) → Begins s → Within s → (Begins (s ++ (k ∷ [])) → ⊥) → Right a (refused (faults.Misfit f))
  limit_breaks : {s : List Kind} {k : Kind} {f : ℕ} {b : Signs} {e : GrammarFault} → Goes a s (sign k f b) → Begins (s ++ (k ∷ [])) → Within s → limit_at s k f ≡ Some e → Right a (refused e)

-- A text of over 8,192 bytes is refused before all else.
pub data Reading (text : List ℕ) : Outcome → Type 0 where
  too_long : 8192 < length text → Reading text (refused (faults.Sign TooLong))
  by_signs : {o : Outcome} → length text ≤ 8192 → Right (signs_of text) o → Reading text o

-- every text comes to what the machine says, and to nothing else
abbrev pub ReadsRight : Type 0
ReadsRight = (text : List ℕ) → Reading text (outcome text)

abbrev pub ReadsOnlyRight : Type 0
ReadsOnlyRight = (text : List ℕ) (o : Outcome) → Reading text o → o ≡ outcome text

-- a list of signs has one reading
abbrev pub OneReading : Type 0
OneReading = (s : List Kind) (names others : List (List ℕ)) (f g : Form) → IsPolicy s names f → IsPolicy s others g → (names ≡ others) × (f ≡ g)
