-- An input has at most one list of answers. Assumes nothing.
use Rattle.std.proofs.Common.{◌≡◌, ℕ, ◌<◌, ◌≤◌, List, [], ◌∷◌, ◌++◌, length, get_or, sym, refl, ap, ◌∙◌, subst, ⊎_elim, append_assoc, arith, length-append}
use Rattle.std.proofs.lemmas.List.{get_or_at}
use Rattle.scales.specs.Algebra.{Algebra}
use Rattle.scales.specs.Scales.{plain}
use Rattle.lines.specs.declared.fault.LineFault.TheVariants.{ManyLines}
use Rattle.lines.specs.declared.line.Line.{Line}
use Rattle.lines.specs.Forms.{Form}
use Rattle.lines.specs.Policies.{refusal_of}
use Rattle.lines.specs.Tables.{table}
use Rattle.logic.specs.History.{History}
use Rattle.grammar.specs.declared.fault.GrammarFault.{GrammarFault}
use Rattle.grammar.specs.Machine.{Outcome, accepted, refused, outcome}
use Rattle.grammar.specs.Reading.{Reading as Comes_to}
use Rattle.grammar.proofs.Right.{reads_only_right}
use Rattle.text.specs.Texts.{grammar_refusal}
use Rattle.meaning.specs.Calls.{next}
use Rattle.calls.specs.Input.{Cut, Uncut}
use Rattle.calls.specs.Lines.{lines_of, numbered}
use Rattle.calls.proofs.Spellings.{one_call, same_cut}
use Rattle.answers.specs.declared.answer.Answer.{Answer}
use Rattle.answers.specs.declared.answer.Answer.TheVariants.{Refused, Policy}
use Rattle.console.specs.Output.{asked_of, reply, Answered, call, no_call, AllAnswered, none, more, no_text, no_policy, many_lines, with_policy, OneOutput}

module _ (S : Algebra) (ls : List Line) (atoms limit : ℕ) where
  same_answer : {h k l : History} {n : ℕ} {line : List ℕ} {a b : Answer} → Answered S ls atoms limit h n line a k → Answered S ls atoms limit h n line b l → (a ≡ b) × (k ≡ l)
  same_answer {h = h} {line = line} (call s sp) (call t sq) = let e = one_call line s t sp sq in (ap (reply S ls atoms limit h) e, ap (λ x. next S ls atoms limit h (asked_of x)) e)
  same_answer (call s sp) (no_call nothing) = absurd (nothing s sp)
  same_answer (no_call nothing) (call t sq) = absurd (nothing t sq)
  same_answer (no_call nothing) (no_call others) = (refl, refl)

  same_answers : {h : History} {lines : List (ℕ × List ℕ)} {xs ys : List Answer} → AllAnswered S ls atoms limit h lines xs → AllAnswered S ls atoms limit h lines ys → xs ≡ ys
  same_answers none none = refl
  same_answers (more {lines = lines} {answers = xs} d all) (more {answers = ys} e others) =
      let same = same_answer d e in
      let head = same.0 in
      let tail : xs ≡ ys = same_answers all (subst (λ k. AllAnswered S ls atoms limit k lines ys) (sym same.1) others) in
      cc

-- an input that is cut, at its first full stop
whole : (input words rest : List ℕ) (cut : Cut input words rest) → input ≡ cut.words ++ (46 ∷ rest)
whole input words rest cut = cut.whole ∙ ap (λ t. t ++ rest) cut.stop ∙ append_assoc cut.words (46 ∷ []) rest

same_parts : (input v r w s : List ℕ) → Cut input v r → Cut input w s → (v ≡ w) × (r ≡ s)
same_parts input v r w s a b =
    let e = same_cut 46 a.words r b.words s a.first b.first (sym (whole input v r a) ∙ whole input w s b) in
    (a.stop ∙ ap (λ t. t ++ (46 ∷ [])) e.0 ∙ sym b.stop, e.1)

not_both : (input words rest : List ℕ) → Cut input words rest → Uncut input → ⊥
not_both input words rest cut un =
    let n = length cut.words in
    let all = whole input words rest cut in
    let long = ap length all ∙ length-append cut.words (46 ∷ rest) in
    let within : n < length input = omega (arith, long) in
    ⊎_elim (λ over. omega (arith, over, cut.short)) (λ lacks. lacks n within (ap (λ l. get_or l n 0) all ∙ get_or_at cut.words 46 rest 0 n refl)) un

same_policy : (names names' : List (List ℕ)) (f g : Form) (r s : List ℕ) (xs ys : List Answer) → (names ≡ names') × (f ≡ g) → r ≡ s →
    AllAnswered plain (table f) (length names) 64 [] (numbered 1 (lines_of r)) xs → AllAnswered plain (table g) (length names') 64 [] (numbered 1 (lines_of s)) ys → Policy (length names) (length (table f)) ∷ xs ≡ Policy (length names') (length (table g)) ∷ ys
same_policy names names' f g r s xs ys e same a b =
    let b₁ = subst (λ l. AllAnswered plain (table g) (length names') 64 [] (numbered 1 (lines_of l)) ys) (sym same) b in
    let b₂ = subst (λ t. AllAnswered plain (table t) (length names') 64 [] (numbered 1 (lines_of r)) ys) (sym e.1) b₁ in
    let b₃ = subst (λ l. AllAnswered plain (table f) (length l) 64 [] (numbered 1 (lines_of r)) ys) (sym e.0) b₂ in
    let t = same_answers plain (table f) (length names) 64 a b₃ in
    (λ i. Policy (length (e.0 i)) (length (table (e.1 i))) ∷ t i)

-- a text comes to one outcome
same_outcome : (v w : List ℕ) (o p : Outcome) → v ≡ w → Comes_to v o → Comes_to w p → o ≡ p
same_outcome v w o p same a b = reads_only_right v o a ∙ ap outcome same ∙ sym (reads_only_right w p b)

not_accepted : (e : GrammarFault) (names : List (List ℕ)) (f : Form) → refused e ≡ accepted names f → ⊥
not_accepted e names f is = let z : ◌≡◌ {A = ℕ} 0 1 = cc in omega arith

one_fault : (e f : GrammarFault) → refused e ≡ refused f → e ≡ f
one_fault e f is = cc

one_policy : (names names' : List (List ℕ)) (f g : Form) → accepted names f ≡ accepted names' g → (names ≡ names') × (f ≡ g)
one_policy names names' f g is = (cc, cc)

fits_or_not : (f g : Form) → f ≡ g → 128 < length (table f) → length (table g) ≤ 128 → ⊥
fits_or_not f g is over fits = omega (arith, ap (λ t. length (table t)) is)

module _ (input : List ℕ) where
  both : {v r w s : List ℕ} {o p : Outcome} → Cut input v r → Cut input w s → Comes_to v o → Comes_to w p → o ≡ p
  both {v} {r} {w} {s} {o} {p} c d a b = same_outcome v w o p (same_parts input v r w s c d).0 a b

  uncut : {v r : List ℕ} → Cut input v r → Uncut input → ⊥
  uncut {v} {r} c u = not_both input v r c u

pub one_output : OneOutput
one_output input xs ys (no_text u) (no_text u') = refl
one_output input xs ys (no_text u) (no_policy c p) = absurd (uncut input c u)
one_output input xs ys (no_text u) (many_lines c p n) = absurd (uncut input c u)
one_output input xs ys (no_text u) (with_policy c p n a) = absurd (uncut input c u)
one_output input xs ys (no_policy c p) (no_text u) = absurd (uncut input c u)
one_output input xs ys (no_policy c p) (no_policy d q) = ap (λ e. Refused (grammar_refusal e) ∷ []) (one_fault _ _ (both input c d p q))
one_output input xs ys (no_policy c p) (many_lines d q n) = absurd (not_accepted _ _ _ (both input c d p q))
one_output input xs ys (no_policy c p) (with_policy d q n a) = absurd (not_accepted _ _ _ (both input c d p q))
one_output input xs ys (many_lines c p n) (no_text u) = absurd (uncut input c u)
one_output input xs ys (many_lines c p n) (no_policy d q) = absurd (not_accepted _ _ _ (both input d c q p))
one_output input xs ys (many_lines c p n) (many_lines d q m) = ap (λ t. Refused (refusal_of (ManyLines (length t))) ∷ []) (same_parts input _ _ _ _ c d).0
one_output input xs ys (many_lines c p n) (with_policy d q m a) = absurd (fits_or_not _ _ (one_policy _ _ _ _ (both input c d p q)).1 n m)
one_output input xs ys (with_policy c p n a) (no_text u) = absurd (uncut input c u)
one_output input xs ys (with_policy c p n a) (no_policy d q) = absurd (not_accepted _ _ _ (both input d c q p))
one_output input xs ys (with_policy c p n a) (many_lines d q m) = absurd (fits_or_not _ _ (one_policy _ _ _ _ (both input d c q p)).1 m n)
one_output input xs ys (with_policy c p n a) (with_policy d q m b) = same_policy _ _ _ _ _ _ _ _ (one_policy _ _ _ _ (both input c d p q)) (same_parts input _ _ _ _ c d).1 a b
