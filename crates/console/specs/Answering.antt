-- What a book answers to lines, for its policy and the meaning of its store. Assumes nothing.
use Rattle.std.specs.Prelude.{◌≡◌, ℕ, ◌≤◌, List, [], ◌∷◌, ◌++◌, length, vec_items, vec_len, vec_capacity, Ok, Err, Result}
use Rattle.refusals.specs.declared.refusal.Refusal.{Refusal}
use Rattle.scales.specs.Algebra.{Algebra}
use Rattle.scales.specs.Scales.{plain}
use Rattle.lines.specs.declared.policy.Policy.{Policy}
use Rattle.lines.specs.Policies.{lines_of}
use Rattle.text.specs.declared.reading.Reading.{Reading}
use Rattle.text.specs.Texts.{Right}
use Rattle.logic.specs.History.{History}
use Rattle.stores.specs.Meaning.{Meaning}
use Rattle.row_table.specs.declared.table.RowTable.{RowTable}
use Rattle.row_table.specs.Table.{means}
use Rattle.meaning.specs.Kept.{meaning}
use Rattle.book.specs.Books.{Every, Keeps, then}
use Rattle.calls.specs.Input.{Cut}
use Rattle.calls.specs.Lines.{numbered, lines_of as input_lines}
use Rattle.calls.specs.Spelling.{Said}
use Rattle.answers.specs.declared.answer.Answer.{Answer}
use Rattle.answers.specs.declared.answer.Answer.TheVariants.{Policy as Sizes, Refused}
use Rattle.console.specs.declared.room.Room.{Room}
use Rattle.console.specs.Output.{asked_of, reply, Answered, AllAnswered}

-- a call that a line spells is answered a, and the store has the meaning m₂ then
abbrev pub CallDone : Algebra → Policy → Meaning → Said → Answer → Meaning → Type 0
CallDone S p m s a m₂ = Every S p m (λ h. (a ≡ reply S (lines_of p) p.atoms m.limit h s) × (m₂ ≡ then S p m h (asked_of s)))

-- a refusal is an answer too
abbrev pub or_refused : Result Answer Refusal → Answer
or_refused (Ok a) = a
or_refused (Err refusal) = Refused refusal

-- so with a line and its number
abbrev pub LineDone : Algebra → Policy → Meaning → ℕ → List ℕ → Answer → Meaning → Type 0
LineDone S p m n line a m₂ = Every S p m (λ h. (k : History) × Answered S (lines_of p) p.atoms m.limit h n line a k × (m₂ ≡ meaning S (lines_of p) p.atoms m.limit k))

-- so with numbered lines, whose answers go behind those that are there
abbrev pub LinesDone : Algebra → Policy → Meaning → List (ℕ × List ℕ) → List Answer → List Answer → Type 0
LinesDone S p m lines before behind = Every S p m (λ h. (answers : List Answer) × AllAnswered S (lines_of p) p.atoms m.limit h lines answers × (behind ≡ before ++ answers))

-- room for 64 of the widest records, and for an answer to a policy and to each byte of the longest input
abbrev pub Ready : Room → Type 0
Ready r = (vec_len r.memory ≡ 18496) × (vec_items r.answers ≡ []) × (65537 ≤ vec_capacity r.answers)

-- a book of the policy q on the store t is one of the policy p, on the plain scale, whose store has the limit 64 and
-- represents no events
abbrev pub Opened : Policy → Policy → RowTable → Type 0
Opened p q t = (q ≡ p) × ((means t).limit ≡ 64) × Keeps plain p (means t) []

-- the text of an input is read into the policy p, and rest stands behind the text
abbrev pub PolicyRead : List ℕ → Policy → List ℕ → Type 0
PolicyRead input p rest = (text : List ℕ) × (reading : Reading) × Cut input text rest × Right text (Ok reading) × (p ≡ reading.policy)

-- how many atoms and lines a policy has
abbrev pub sizes_of : Policy → Answer
sizes_of p = Sizes p.atoms (length (lines_of p))

-- the program's answers to lines behind the text of a policy
abbrev pub PolicyPrinted : Policy → List ℕ → List Answer → Type 0
PolicyPrinted p rest answers = (others : List Answer) × (answers ≡ sizes_of p ∷ others) × AllAnswered plain (lines_of p) p.atoms 64 [] (numbered 1 (input_lines rest)) others
