-- What a line is answered, and one line more of those that are. Assumes nothing.
use Rattle.std.proofs.Common.{◌≡◌, ℕ, List, [], ◌∷◌, ◌++◌, Option, Some, None, Err, MatchOption, sym, ap, ◌∙◌, subst, append_assoc, append-nil}
use Rattle.std.specs.Option.{ok_or}
use Rattle.refusals.specs.declared.refusal.Refusal.{Refusal}
use Rattle.scales.specs.Algebra.{Algebra}
use Rattle.lines.specs.declared.policy.Policy.{Policy}
use Rattle.lines.specs.Policies.{lines_of}
use Rattle.logic.specs.History.{History}
use Rattle.stores.specs.Meaning.{Meaning}
use Rattle.meaning.specs.Kept.{meaning}
use Rattle.meaning.specs.Calls.{next}
use Rattle.book.specs.Books.{Keeps}
use Rattle.calls.specs.declared.call.Call.{Call}
use Rattle.calls.specs.declared.fault.ProgramFault.{ProgramFault}
use Rattle.calls.specs.declared.fault.ProgramFault.TheVariants.{NoCall}
use Rattle.calls.specs.Faults.{refusal_of}
use Rattle.calls.specs.Spelling.{Said, said, Spells}
use Rattle.answers.specs.declared.answer.Answer.{Answer}
use Rattle.answers.specs.declared.answer.Answer.TheVariants.{Refused}
use Rattle.console.specs.Output.{asked_of, Answered, call, no_call, AllAnswered, none, more}
use Rattle.console.specs.Answering.{CallDone, LineDone}

module _ (S : Algebra) (p : Policy) (m : Meaning) (n : ℕ) (line : List ℕ) where
  pub spelled : (s : Said) (a : Answer) (m₂ : Meaning) → Spells s line → CallDone S p m s a m₂ → LineDone S p m n line a m₂
  spelled s a m₂ sp done h keeps =
      let d = done h keeps in
      let k = next S (lines_of p) p.atoms m.limit h (asked_of s) in
      (k, subst (λ x. Answered S (lines_of p) p.atoms m.limit h n line x k) (sym d.0) (call s sp), d.1)

  pub unspelled : (o : Option Call) (e : ProgramFault) (r : Refusal) → MatchOption o ((s : Said) → Spells s line → ⊥) (λ c. Spells (said c) line) → Err e ≡ ok_or o (NoCall n) → r ≡ refusal_of e → LineDone S p m n line (Refused r) m
  unspelled (Some c) e r spells is same = absurd cc
  unspelled None e r nothing is same = let no : r ≡ refusal_of (NoCall n) = cc in λ h keeps. (h, rw no (no_call nothing), keeps)

-- Of these lines those up to `left` are answered: the list of answers has grown from `before` to `behind`, and the store
-- has the meaning m.
pub record SoFar (S : Algebra) (p : Policy) (limit : ℕ) (h : History) (lines left : List (ℕ × List ℕ)) (before behind : List Answer) (m : Meaning) : Type 0 where
  pub history : History
  pub answers : List Answer
  pub means : m ≡ meaning S (lines_of p) p.atoms limit history
  pub items : behind ≡ before ++ answers
  pub goes_on : (rest : List Answer) → AllAnswered S (lines_of p) p.atoms limit history left rest → AllAnswered S (lines_of p) p.atoms limit h lines (answers ++ rest)

module _ (S : Algebra) (p : Policy) (limit : ℕ) (h : History) (lines : List (ℕ × List ℕ)) (before : List Answer) where
  pub one_more : (p' : Policy) (left left₂ : List (ℕ × List ℕ)) (n : ℕ) (line : List ℕ) (a : Answer) (behind behind₂ : List Answer) (m m₂ : Meaning) →
      p' ≡ p → left ≡ (n, line) ∷ left₂ → behind₂ ≡ behind ++ a ∷ [] → LineDone S p' m n line a m₂ → SoFar S p limit h lines left before behind m → SoFar S p limit h lines left₂ before behind₂ m₂
  one_more p' left left₂ n line a behind behind₂ m m₂ same is pushed done f =
      let k = f.history in
      let lim : m.limit ≡ limit = ap (λ (y : Meaning). y.limit) f.means in
      let keeps : Keeps S p m k = f.means ∙ ap (λ l. meaning S (lines_of p) p.atoms l k) (sym lim) in
      let d = subst (λ q. LineDone S q m n line a m₂) same done k keeps in
      let here = subst (λ l. Answered S (lines_of p) p.atoms l k n line a d.0) lim d.1 in
      record {
        history = d.0;
        answers = f.answers ++ a ∷ [];
        means = d.2 ∙ ap (λ l. meaning S (lines_of p) p.atoms l d.0) lim;
        items = pushed ∙ ap (λ l. l ++ a ∷ []) f.items ∙ append_assoc before f.answers (a ∷ []);
        goes_on = λ rest all. subst (AllAnswered S (lines_of p) p.atoms limit h lines) (sym (append_assoc f.answers (a ∷ []) rest)) (f.goes_on (a ∷ rest) (subst (λ l. AllAnswered S (lines_of p) p.atoms limit k l (a ∷ rest)) (sym is) (more here all)));
      }

  pub ended : (left : List (ℕ × List ℕ)) (behind : List Answer) (m : Meaning) → left ≡ [] → SoFar S p limit h lines left before behind m → (answers : List Answer) × AllAnswered S (lines_of p) p.atoms limit h lines answers × (behind ≡ before ++ answers)
  ended left behind m is f =
      let rest = subst (λ l. AllAnswered S (lines_of p) p.atoms limit f.history l []) (sym is) none in
      (f.answers, subst (AllAnswered S (lines_of p) p.atoms limit h lines) (append-nil f.answers) (f.goes_on [] rest), f.items)
