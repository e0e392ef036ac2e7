-- What the program answers to an input. Read this first. Assumes nothing.
use Rattle.std.specs.Prelude.{◌≡◌, ℕ, ◌<◌, ◌≤◌, List, [], ◌∷◌, length, Ok, Err, Result}
use Rattle.scales.specs.Algebra.{Algebra}
use Rattle.scales.specs.Scales.{plain}
use Rattle.lines.specs.declared.fault.LineFault.TheVariants.{ManyLines}
use Rattle.lines.specs.declared.line.Line.{Line}
use Rattle.lines.specs.Forms.{Form}
use Rattle.lines.specs.Policies.{refusal_of as lines_refusal}
use Rattle.lines.specs.Tables.{table}
use Rattle.grammar.specs.declared.fault.GrammarFault.{GrammarFault}
use Rattle.grammar.specs.Machine.{accepted, refused}
use Rattle.grammar.specs.Reading.{Reading as Comes_to}
use Rattle.text.specs.Texts.{grammar_refusal}
use Rattle.logic.specs.History.{History}
use Rattle.meaning.specs.declared.fault.BookFault.{BookFault}
use Rattle.meaning.specs.Refusals as book
use Rattle.meaning.specs.Calls.{Asked, ask_start, ask_report, ask_preview, ask_close, ask_verdict, started, reported, previewed, closed, verdict_given, next}
use Rattle.calls.specs.declared.fault.ProgramFault.TheVariants.{NoPolicy, NoCall}
use Rattle.calls.specs.Faults as program
use Rattle.calls.specs.Input.{Cut, Uncut}
use Rattle.calls.specs.Lines.{lines_of, numbered}
use Rattle.calls.specs.Spelling.{Said, start, report, preview, close, verdict, Spells}
use Rattle.answers.specs.declared.answer.Answer.{Answer}
use Rattle.answers.specs.declared.answer.Answer.TheVariants.{Policy, Run, Changed, Would, Closed, Verdict, Refused}

-- a call that a line spells, as a call of the book
abbrev pub asked_of : Said → Asked
asked_of (start q) = ask_start q
asked_of (report run q) = ask_report run q
asked_of (preview run q) = ask_preview run q
asked_of (close run) = ask_close run
asked_of verdict = ask_verdict

-- the result of a call as an answer: a refusal is its row of the table
abbrev pub said_by : {A : Type 0} → (A → Answer) → Result A BookFault → Answer
said_by f (Ok x) = f x
said_by f (Err fault) = Refused (book.refusal_of fault)

-- The book has a policy of these lines over so many atoms, this scale, and a store of this limit.
module _ (S : Algebra) (ls : List Line) (atoms limit : ℕ) where
  -- what a call is answered after the history h; a close names its run
  abbrev pub reply : History → Said → Answer
  reply h (start q) = said_by Run (started S ls atoms limit h q)
  reply h (report run q) = said_by (λ p. Changed p.0 p.1) (reported S ls atoms limit h run q)
  reply h (preview run q) = said_by Would (previewed S ls atoms limit h run q)
  reply h (close run) = said_by (Closed run) (closed S ls atoms limit h run)
  reply h verdict = said_by Verdict (verdict_given S ls atoms limit h)

-- A line with its number is answered so after the history h, and the history is k then.
pub data Answered (S : Algebra) (ls : List Line) (atoms limit : ℕ) (h : History) : ℕ → List ℕ → Answer → History → Type 0 where
  call : {n : ℕ} {line : List ℕ} (s : Said) → Spells s line → Answered S ls atoms limit h n line (reply S ls atoms limit h s) (next S ls atoms limit h (asked_of s))
  no_call : {n : ℕ} {line : List ℕ} → ((s : Said) → Spells s line → ⊥) → Answered S ls atoms limit h n line (Refused (program.refusal_of (NoCall n))) h

-- Numbered lines are answered so from the history h on, each building on those before it.
pub data AllAnswered (S : Algebra) (ls : List Line) (atoms limit : ℕ) : History → List (ℕ × List ℕ) → List Answer → Type 0 where
  none : {h : History} → AllAnswered S ls atoms limit h [] []
  more : {h k : History} {n : ℕ} {line : List ℕ} {a : Answer} {lines : List (ℕ × List ℕ)} {answers : List Answer} → Answered S ls atoms limit h n line a k → AllAnswered S ls atoms limit k lines answers → AllAnswered S ls atoms limit h ((n, line) ∷ lines) (a ∷ answers)

-- An input is answered so: by a refusal alone, or by the sizes of its policy and then line by line. The policy is the
-- one that the grammar and the limits make of the text: names, and a form with its table of lines.
pub data Printed (input : List ℕ) : List Answer → Type 0 where
  no_text : Uncut input → Printed input (Refused (program.refusal_of NoPolicy) ∷ [])
  no_policy : {text rest : List ℕ} {e : GrammarFault} → Cut input text rest → Comes_to text (refused e) → Printed input (Refused (grammar_refusal e) ∷ [])
  many_lines : {text rest : List ℕ} {names : List (List ℕ)} {f : Form} → Cut input text rest → Comes_to text (accepted names f) → 128 < length (table f) → Printed input (Refused (lines_refusal (ManyLines (length text))) ∷ [])
  with_policy : {text rest : List ℕ} {names : List (List ℕ)} {f : Form} {answers : List Answer} → Cut input text rest → Comes_to text (accepted names f) → length (table f) ≤ 128 → AllAnswered plain (table f) (length names) 64 [] (numbered 1 (lines_of rest)) answers → Printed input (Policy (length names) (length (table f)) ∷ answers)

-- an input has at most one list of answers
abbrev pub OneOutput : Type 0
OneOutput = (input : List ℕ) (answers others : List Answer) → Printed input answers → Printed input others → answers ≡ others
