-- What a text is read into, or refused with: the text layer as a whole. Assumes nothing.
use Rattle.std.specs.Prelude.{◌≡◌, ℕ, ◌<◌, ◌≤◌, cond, List, length, Ok, Err, Result, nat_lt}
use Rattle.refusals.specs.declared.refusal.Refusal.{Refusal}
use Rattle.refusals.specs.declared.refusal.Layer.TheVariants as layer
use Rattle.lines.specs.declared.fault.LineFault.TheVariants.{ManyLines}
use Rattle.lines.specs.declared.line.Line.{Line}
use Rattle.lines.specs.Forms.{Form}
use Rattle.lines.specs.Policies.{lines_of, refusal_of as lines_refusal}
use Rattle.lines.specs.Tables.{table}
use Rattle.signs.specs.Signs.{refusal_of as sign_refusal}
use Rattle.grammar.specs.declared.fault.GrammarFault.{GrammarFault}
use Rattle.grammar.specs.declared.fault.GrammarFault.TheVariants as faults
use Rattle.grammar.specs.Machine.{Outcome, accepted, refused, outcome}
use Rattle.grammar.specs.Reading.{Reading as Comes_to}
use Rattle.names.specs.Names.{names_of}
use Rattle.text.specs.declared.fault.TextFault.{TextFault}
use Rattle.text.specs.declared.fault.TextFault.TheVariants.{Grammar, Lines}
use Rattle.text.specs.declared.reading.Reading.{Reading}

-- a policy with the names of its atoms and its lines, or why there is none
pub data Text : Type 0 where
  policy : List (List ℕ) → List Line → Text
  no_policy : TextFault → Text

-- a form of over 128 lines makes no policy
abbrev pub with_lines : ℕ → Outcome → Text
with_lines n (accepted ns f) = cond (nat_lt 128 (length (table f))) (no_policy (Lines (ManyLines n))) (policy ns (table f))
with_lines n (refused e) = no_policy (Grammar e)

-- what a text is
abbrev pub meant : List ℕ → Text
meant text = with_lines (length text) (outcome text)

-- what the code's answer says
abbrev pub told : List ℕ → Result Reading TextFault → Text
told text (Ok r) = policy (names_of text r.names) (lines_of r.policy)
told text (Err e) = no_policy e

-- The law: a text is accepted as what its signs derive within the limits, by the table of that form, and refused at
-- the first thing that is wrong; over 128 lines count only in a text with nothing else wrong.
abbrev pub Right : List ℕ → Result Reading TextFault → Type 0
Right text (Ok r) = (f : Form) × Comes_to text (accepted (names_of text r.names) f) × (lines_of r.policy ≡ table f) × (r.policy.atoms ≡ length (names_of text r.names)) × (length (table f) ≤ 128)
Right text (Err (Grammar e)) = Comes_to text (refused e)
Right text (Err (Lines e)) = (ns : List (List ℕ)) × (f : Form) × Comes_to text (accepted ns f) × (128 < length (table f)) × (e ≡ ManyLines (length text))

-- number, layer and place of a fault
abbrev pub grammar_refusal : GrammarFault → Refusal
grammar_refusal (faults.Sign e) = sign_refusal e
grammar_refusal (faults.Misfit f) = record { number = 3; layer = layer.Grammar; place = f }
grammar_refusal (faults.Repeated f) = record { number = 5; layer = layer.Grammar; place = f }
grammar_refusal (faults.ManyAtoms f) = record { number = 7; layer = layer.Grammar; place = f }
grammar_refusal (faults.Undeclared f) = record { number = 6; layer = layer.Grammar; place = f }
grammar_refusal (faults.TooDeep f) = record { number = 8; layer = layer.Grammar; place = f }

abbrev pub refusal_of : TextFault → Refusal
refusal_of (Grammar e) = grammar_refusal e
refusal_of (Lines e) = lines_refusal e

-- the refusal's number, or 0 for a policy
abbrev pub number_of : Text → ℕ
number_of (policy ns ls) = 0
number_of (no_policy e) = (refusal_of e).number
