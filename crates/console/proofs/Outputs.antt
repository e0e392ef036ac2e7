-- The answers to an input, by what was found of its parts. Assumes nothing.
use Rattle.std.proofs.Common.{◌≡◌, ℕ, ◌≤◌, List, [], ◌∷◌, ◌++◌, length, Ok, Err, sym, ap, ◌∙◌, subst, arith, length-append}
use Rattle.refusals.specs.declared.refusal.Refusal.{Refusal}
use Rattle.scales.specs.Scales.{plain}
use Rattle.lines.specs.declared.policy.Policy.{Policy}
use Rattle.lines.specs.Policies.{lines_of, refusal_of as lines_refusal}
use Rattle.stores.specs.Meaning.{Meaning}
use Rattle.names.specs.Names.{names_of}
use Rattle.text.specs.declared.fault.TextFault.{TextFault}
use Rattle.text.specs.declared.fault.TextFault.TheVariants.{Grammar, Lines}
use Rattle.text.specs.declared.reading.Reading.{Reading}
use Rattle.text.specs.Texts.{Right, refusal_of}
use Rattle.book.specs.Books.{Keeps}
use Rattle.calls.specs.declared.fault.ProgramFault.{ProgramFault}
use Rattle.calls.specs.declared.fault.ProgramFault.TheVariants.{NoPolicy}
use Rattle.calls.specs.Faults as program
use Rattle.calls.specs.Input.{Cut, Uncut}
use Rattle.calls.specs.Lines.{numbered, lines_of as input_lines}
use Rattle.answers.specs.declared.answer.Answer.{Answer}
use Rattle.answers.specs.declared.answer.Answer.TheVariants.{Refused, Policy as Sizes}
use Rattle.console.specs.Output.{AllAnswered, Printed, no_text, no_policy, many_lines, with_policy}
use Rattle.console.specs.Answering.{LinesDone, sizes_of, PolicyRead, PolicyPrinted}

pub rest_short : (input rest : List ℕ) (p : Policy) → PolicyRead input p rest → length rest ≤ 65536
rest_short input rest p r = omega (arith, r.2.short, ap length r.2.whole ∙ length-append r.0 rest)

pub without_text : (input : List ℕ) (r : Refusal) (e : ProgramFault) → (e ≡ NoPolicy) × Uncut input → r ≡ program.refusal_of e → Printed input (Refused r ∷ [])
without_text input r e un is = rw (is ∙ ap program.refusal_of un.0) (no_text un.1)

pub without_policy : (input words rest : List ℕ) (r : Refusal) (e : TextFault) → Cut input words rest → Right words (Err e) → r ≡ refusal_of e → Printed input (Refused r ∷ [])
without_policy input words rest r (Grammar e) cut right is = rw is (no_policy cut right)
without_policy input words rest r (Lines e) cut right is = rw (is ∙ ap lines_refusal right.4) (many_lines cut right.2 right.3)

-- a policy has as many atoms as names, and the table of its form
from_reading : (input words rest : List ℕ) (read : Reading) (items : List Answer) → Cut input words rest → Right words (Ok read) → PolicyPrinted read.policy rest items → Printed input items
from_reading input words rest read items cut right done =
    let p = read.policy in
    let ls = right.2 in
    let atoms = right.3 in
    let a = subst (λ n. AllAnswered plain (lines_of p) n 64 [] (numbered 1 (input_lines rest)) done.0) atoms done.2 in
    let b = subst (λ l. AllAnswered plain l (length (names_of words read.names)) 64 [] (numbered 1 (input_lines rest)) done.0) ls a in
    subst (Printed input) (sym (done.1 ∙ (λ i. Sizes (atoms i) (length (ls i)) ∷ done.0))) (with_policy cut right.1 right.4 b)

pub of_policy : (input rest : List ℕ) (p : Policy) (items : List Answer) → PolicyRead input p rest → PolicyPrinted p rest items → Printed input items
of_policy input rest p items r done = from_reading input r.0 rest r.1 items r.2 r.3 (subst (λ q. PolicyPrinted q rest items) r.4 done)

-- the lines, answered by a book with no events
pub from_opening : (p p' : Policy) (m : Meaning) (rest : List ℕ) (lines : List (ℕ × List ℕ)) (before items : List Answer) → p' ≡ p → m.limit ≡ 64 → Keeps plain p m [] → lines ≡ numbered 1 (input_lines rest) →
    before ≡ sizes_of p ∷ [] → LinesDone plain p' m lines before items → PolicyPrinted p rest items
from_opening p p' m rest lines before items same limit keeps are first done =
    let d = subst (λ q. LinesDone plain q m lines before items) same done [] keeps in
    let all = subst (λ n. AllAnswered plain (lines_of p) p.atoms n [] lines d.0) limit d.1 in
    (d.0, d.2 ∙ ap (λ l. l ++ d.0) first, subst (λ l. AllAnswered plain (lines_of p) p.atoms 64 [] l d.0) are all)
