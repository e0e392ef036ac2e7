-- What a book's calls promise, for a policy and the meaning of its store. The definitions are those of `meaning`; here they
-- take a policy in the place of its lines and atoms. Assumes nothing.
use Rattle.std.specs.Prelude.{ℕ, List, Option, Result}
use Rattle.scales.specs.Algebra.{Algebra}
use Rattle.lines.specs.declared.policy.Policy.{Policy}
use Rattle.lines.specs.Policies.{lines_of}
use Rattle.logic.specs.History.{History}
use Rattle.stores.specs.Meaning.{Meaning}
use Rattle.meaning.specs.declared.answer.Answer.{Answer}
use Rattle.meaning.specs.declared.fault.BookFault.{BookFault}
use Rattle.meaning.specs.Kept.{Represents, meaning}
use Rattle.meaning.specs.Refusals as refusal
use Rattle.meaning.specs.Calls as call
use Rattle.meaning.specs.Calls.{Asked, asked}

-- the store of a book represents the history h
abbrev pub Keeps : Algebra → Policy → Meaning → History → Type 0
Keeps S p m h = Represents S (lines_of p) p.atoms m h

-- why a book cannot be opened on a store of this meaning
abbrev pub opening_refusal : Policy → Meaning → Option BookFault
opening_refusal p m = refusal.opening_refusal (lines_of p) p.atoms m

-- the results of the calls, for a store of this meaning that represents h
module _ (S : Algebra) (p : Policy) (m : Meaning) (h : History) where
  abbrev pub started : List ℕ → Result ℕ BookFault
  started q = call.started S (lines_of p) p.atoms m.limit h q

  abbrev pub reported : ℕ → List ℕ → Result (ℕ × ℕ) BookFault
  reported run q = call.reported S (lines_of p) p.atoms m.limit h run q

  abbrev pub previewed : ℕ → List ℕ → Result ℕ BookFault
  previewed run q = call.previewed S (lines_of p) p.atoms m.limit h run q

  abbrev pub closed : ℕ → Result ℕ BookFault
  closed run = call.closed S (lines_of p) p.atoms m.limit h run

  abbrev pub verdict_given : Result ℕ BookFault
  verdict_given = call.verdict_given S (lines_of p) p.atoms m.limit h

  abbrev pub truth_given : ℕ → ℕ → Result ℕ BookFault
  truth_given run line = call.truth_given S (lines_of p) p.atoms m.limit h run line

  -- the answer to any call, and the store's meaning after it
  abbrev pub answer : Asked → Result Answer BookFault
  answer c = call.answer S (lines_of p) p.atoms m.limit h c

  abbrev pub then : Asked → Meaning
  then c = meaning S (lines_of p) p.atoms m.limit (call.next S (lines_of p) p.atoms m.limit h c)

  -- the answers to a list of calls, and the store's meaning after them
  abbrev pub answers : List Asked → List (Result Answer BookFault)
  answers cs = call.answers S (lines_of p) p.atoms m.limit h cs

  abbrev pub after : List Asked → Meaning
  after cs = meaning S (lines_of p) p.atoms m.limit (call.after S (lines_of p) p.atoms m.limit h cs)

-- Each result of a book of policy p is told for every history that its store represents.
abbrev pub Every : Algebra → Policy → Meaning → (History → Type 0) → Type 0
Every S p m P = (h : History) → Keeps S p m h → P h
