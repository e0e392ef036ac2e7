-- One call more of a list of calls. Assumes nothing.
use Rattle.std.proofs.Common.{◌≡◌, ℕ, ◌+◌, ◌<◌, List, [], ◌∷◌, ◌++◌, map, length, get_or, drop, Result, sym, ap, ◌∙◌, append_assoc}
use Rattle.std.proofs.lemmas.List.{drop_more}
use Rattle.scales.specs.Algebra.{Algebra}
use Rattle.lines.specs.declared.policy.Policy.{Policy}
use Rattle.lines.specs.Policies.{lines_of}
use Rattle.logic.specs.History.{History}
use Rattle.stores.specs.Meaning.{Meaning}
use Rattle.meaning.specs.declared.answer.Answer.{Answer}
use Rattle.meaning.specs.declared.call.Call.{Call}
use Rattle.meaning.specs.declared.fault.BookFault.{BookFault}
use Rattle.meaning.specs.Kept.{meaning}
use Rattle.meaning.specs.Calls.{Asked, asked, answer, next, answers, after}
use Rattle.book.specs.Books as book
use Rattle.book.specs.Books.{Every, Keeps}

module _ (S : Algebra) (p : Policy) (limit : ℕ) where
  -- what a call gives, of a book whose policy and limit have other names
  pub performed : (p' : Policy) (m m₂ : Meaning) (k : History) (x : Asked) (a : Result Answer BookFault) → p' ≡ p → m ≡ meaning S (lines_of p) p.atoms limit k →
      Every S p' m (λ h. a ≡ book.answer S p' m h x) → Every S p' m (λ h. m₂ ≡ book.then S p' m h x) →
      (a ≡ answer S (lines_of p) p.atoms limit k x) × (m₂ ≡ meaning S (lines_of p) p.atoms limit (next S (lines_of p) p.atoms limit k x))
  performed p' m m₂ k x a d q f g =
      let lim : m.limit ≡ limit = ap (λ (y : Meaning). y.limit) q in
      let keeps : Keeps S p' m k = q ∙ (λ i. meaning S (lines_of (sym d i)) (sym d i).atoms (sym lim i) k) in (
        f k keeps ∙ (λ i. answer S (lines_of (d i)) (d i).atoms (lim i) k x),
        g k keeps ∙ (λ i. meaning S (lines_of (d i)) (d i).atoms (lim i) (next S (lines_of (d i)) (d i).atoms (lim i) k x)),
      )

  -- the answers so far with those to come are those of the whole list
  pub answered_more : (calls : List Call) (i : ℕ) (d : Call) (items items₂ whole : List (Result Answer BookFault)) (a : Result Answer BookFault) (k last : History) → i < length calls →
      a ≡ answer S (lines_of p) p.atoms limit k (asked (get_or calls i d)) → items₂ ≡ items ++ a ∷ [] →
      items ++ answers S (lines_of p) p.atoms limit k (map asked (drop i calls)) ≡ whole →
      after S (lines_of p) p.atoms limit k (map asked (drop i calls)) ≡ last →
      (items₂ ++ answers S (lines_of p) p.atoms limit (next S (lines_of p) p.atoms limit k (asked (get_or calls i d))) (map asked (drop (i + 1) calls)) ≡ whole)
      × (after S (lines_of p) p.atoms limit (next S (lines_of p) p.atoms limit k (asked (get_or calls i d))) (map asked (drop (i + 1) calls)) ≡ last)
  answered_more calls i d items items₂ whole a k last lt is pushed e f =
      let x = asked (get_or calls i d) in
      let more : map asked (drop i calls) ≡ x ∷ map asked (drop (i + 1) calls) = ap (map asked) (drop_more calls i d lt) in
      let rest = answers S (lines_of p) p.atoms limit (next S (lines_of p) p.atoms limit k x) (map asked (drop (i + 1) calls)) in (
        ap (λ t. t ++ rest) (pushed ∙ ap (λ y. items ++ y ∷ []) is)
            ∙ append_assoc items (answer S (lines_of p) p.atoms limit k x ∷ []) rest
            ∙ sym (ap (λ t. items ++ answers S (lines_of p) p.atoms limit k t) more) ∙ e,
        sym (ap (after S (lines_of p) p.atoms limit k) more) ∙ f,
      )

-- a book opened on an empty store
pub from_opening : (S : Algebra) (p p' : Policy) (m m' : Meaning) → p' ≡ p → m' ≡ m → Keeps S p m [] → Keeps S p' m' []
from_opening S p p' m m' d e keeps = e ∙ keeps ∙ (λ i. meaning S (lines_of (sym d i)) (sym d i).atoms (sym e i).limit [])
