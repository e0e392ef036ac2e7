-- Calls with clearer codes get clearer answers. Assumes nothing.
use Rattle.std.proofs.Common.{◌≡◌, ℕ, ◌-◌, true, List, [], ◌∷◌, get_or, Some, None, Option, Ok, refl, subst, ap₂}
use mathlib.Core.List.Forall₂
use Rattle.scales.specs.Algebra.{Algebra, Laws}
use Rattle.scales.proofs.Ands.{clear_stays_yes, clear_stays_no}
use Rattle.lines.specs.declared.line.Line.{Line}
use Rattle.lines.specs.Forms.{no}
use Rattle.lines.specs.Stands.{forms}
use Rattle.logic.specs.History.{Event, History, start, report, close}
use Rattle.logic.specs.Rows.{verdict}
use Rattle.logic.specs.Clear.{Clearer, alike_none, alike_start, alike_report, alike_close}
use Rattle.logic.proofs.Clear.{clear_truth, clear_verdict}
use Rattle.meaning.specs.declared.answer.Answer.{Answer}
use Rattle.meaning.specs.declared.answer.Answer.TheVariants.{Started, Changed, Would, Closed, Verdict, Truth}
use Rattle.meaning.specs.declared.fault.BookFault.{BookFault}
use Rattle.meaning.specs.Refusals.{open_refusal, report_refusal, start_refusal, verdict_refusal, truth_refusal}
use Rattle.meaning.specs.Calls.{Asked, unless, added, answer_by, answer, next, answers, after}
use Rattle.clearness.specs.Clearness.{ClearerCall, both_start, both_report, both_preview, both_close, both_verdict, both_truth, ClearerCalls, ClearerTruth, ClearerAnswer, same_refusal, same_start, same_close, clearer_report, clearer_preview, clearer_verdict, clearer_line, ClearerAnswers, ClearerAnswered, ClearerOnward}
use Rattle.clearness.proofs.Refused as refused

module _ (S : Algebra) where
  -- one refusal in both, or an accepted call in both
  either : {A : Type 0} (f : A → Answer) (o p : Option BookFault) (x y : A) → o ≡ p → (o ≡ None → ClearerAnswer S (Ok (f x)) (Ok (f y))) →
      ClearerAnswer S (answer_by f (unless o x)) (answer_by f (unless p y))
  either {A} f o p x y e k = subst (λ r. ClearerAnswer S (answer_by f (unless o x)) (answer_by f (unless r y))) e (by o k)
    where
      by : (r : Option BookFault) → (r ≡ None → ClearerAnswer S (Ok (f x)) (Ok (f y))) → ClearerAnswer S (answer_by f (unless r x)) (answer_by f (unless r y))
      by None a = a refl
      by (Some fault) a = same_refusal

  -- its event in both, or in none
  both_added : (o p : Option BookFault) (a b : Event) {g h : History} → o ≡ p → Clearer S h g → (o ≡ None → Clearer S (b ∷ h) (a ∷ g)) → Clearer S (added p b h) (added o a g)
  both_added o p a b {g} {h} e c k = subst (λ r. Clearer S (added r b h) (added o a g)) e (by o k)
    where
      by : (r : Option BookFault) → (r ≡ None → Clearer S (b ∷ h) (a ∷ g)) → Clearer S (added r b h) (added r a g)
      by None t = t refl
      by (Some fault) t = c

  one_start : (m n : ℕ) → m ≡ n → ClearerAnswer S (Ok (Started m)) (Ok (Started n))
  one_start m n e = subst (λ k. ClearerAnswer S (Ok (Started m)) (Ok (Started k))) e same_start

  one_close : (m n : ℕ) → m ≡ n → ClearerAnswer S (Ok (Closed m)) (Ok (Closed n))
  one_close m n e = subst (λ k. ClearerAnswer S (Ok (Closed m)) (Ok (Closed k))) e same_close

  module _ (L : Laws S) where
    clearer : (a b : ℕ) → S.clear b a ≡ true → ClearerTruth S a b
    clearer a b k = record { as_clear = k; yes_stays = clear_stays_yes S L b a k; no_stays = clear_stays_no S L b a k }

    module _ (ls : List Line) where
      verdicts : (g h : History) → Clearer S h g → ClearerTruth S (verdict S ls g) (verdict S ls h)
      verdicts g h c = clearer (verdict S ls g) (verdict S ls h) (clear_verdict S L ls h g c)

      module _ (atoms limit : ℕ) where
        -- one call
        answer_clearer : (g h : History) → Clearer S h g → {a b : Asked} → ClearerCall S a b → ClearerAnswer S (answer S ls atoms limit g a) (answer S ls atoms limit h b)
        answer_clearer g h c (both_start {p = p} {q = q} k) =
            either Started (start_refusal S atoms limit g p) (start_refusal S atoms limit h q) _ _ (refused.same_start S c L atoms k limit) (λ _. one_start _ _ (refused.next_run S c))
        answer_clearer g h c (both_report {run = run} {p = p} {q = q} k) =
            either (λ r. Changed r.0 r.1) (report_refusal S atoms g run p) (report_refusal S atoms h run q) _ _ (refused.same_report S c L atoms k run)
            (λ e. clearer_report (verdicts (report run p ∷ g) (report run q ∷ h) (alike_report (refused.report_codes S L atoms k g run e) c)))
        answer_clearer g h c (both_preview {run = run} {p = p} {q = q} k) =
            either Would (report_refusal S atoms g run p) (report_refusal S atoms h run q) _ _ (refused.same_report S c L atoms k run)
            (λ e. clearer_preview (verdicts (report run p ∷ g) (report run q ∷ h) (alike_report (refused.report_codes S L atoms k g run e) c)))
        answer_clearer g h c (both_close {run = run}) =
            either Closed (open_refusal g run) (open_refusal h run) _ _ (refused.same_open S c run)
            (λ _. one_close _ _ (ap₂ (λ m n. m - n) (refused.low_is S {g = close run ∷ g} {h = close run ∷ h} (alike_close c)) (refused.low_is S c)))
        answer_clearer g h c both_verdict =
            either Verdict (verdict_refusal g) (verdict_refusal h) _ _ (refused.same_verdict S c) (λ _. clearer_verdict (verdicts g h c))
        answer_clearer g h c (both_truth {run = run} {line = line}) =
            either Truth (truth_refusal ls g run line) (truth_refusal ls h run line) _ _ (refused.same_truth S c ls run line)
            (λ _. clearer_line (clearer _ _ (clear_truth S L (get_or (forms ls) line no) h g c run)))

        next_clearer : (g h : History) → Clearer S h g → {a b : Asked} → ClearerCall S a b → Clearer S (next S ls atoms limit h b) (next S ls atoms limit g a)
        next_clearer g h c (both_start {p = p} {q = q} k) =
            both_added (start_refusal S atoms limit g p) (start_refusal S atoms limit h q) (start p) (start q) (refused.same_start S c L atoms k limit) c
            (λ e. alike_start (refused.start_codes S L atoms k g limit e) c)
        next_clearer g h c (both_report {run = run} {p = p} {q = q} k) =
            both_added (report_refusal S atoms g run p) (report_refusal S atoms h run q) (report run p) (report run q) (refused.same_report S c L atoms k run) c
            (λ e. alike_report (refused.report_codes S L atoms k g run e) c)
        next_clearer g h c (both_preview k) = c
        next_clearer g h c (both_close {run = run}) =
            both_added (open_refusal g run) (open_refusal h run) (close run) (close run) (refused.same_open S c run) c (λ _. alike_close c)
        next_clearer g h c both_verdict = c
        next_clearer g h c both_truth = c

        -- a list of calls
        answers_clearer : (g h : History) → Clearer S h g → {cs ds : List Asked} → ClearerCalls S cs ds → ClearerAnswers S (answers S ls atoms limit g cs) (answers S ls atoms limit h ds)
        answers_clearer g h c Forall₂.nil = Forall₂.nil
        answers_clearer g h c (Forall₂.cons {a = a} {b = b} k t) =
            Forall₂.cons (answer_clearer g h c k) (answers_clearer (next S ls atoms limit g a) (next S ls atoms limit h b) (next_clearer g h c k) t)

        after_clearer : (g h : History) → Clearer S h g → {cs ds : List Asked} → ClearerCalls S cs ds → Clearer S (after S ls atoms limit h ds) (after S ls atoms limit g cs)
        after_clearer g h c Forall₂.nil = c
        after_clearer g h c (Forall₂.cons {a = a} {b = b} k t) = after_clearer (next S ls atoms limit g a) (next S ls atoms limit h b) (next_clearer g h c k) t

pub clearer_onward : ClearerOnward
clearer_onward S L ls atoms limit g h c cs ds k = (answers_clearer S L ls atoms limit g h c k, after_clearer S L ls atoms limit g h c k)

pub clearer_answered : ClearerAnswered
clearer_answered S L ls atoms limit cs ds k = answers_clearer S L ls atoms limit [] [] alike_none k
