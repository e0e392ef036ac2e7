-- Lists of calls to a book, and what each is answered: a refusal by the table, or the result by the logic over the
-- whole history of accepted events. Over lists of numbers, so that worked cases compute. Assumes nothing.
use Rattle.std.specs.Prelude.{ℕ, ◌+◌, ◌-◌, List, [], ◌∷◌, Some, None, Ok, Err, Option, Result, slice_index_or}
use Rattle.std.specs.Result.{result_map_both}
use Rattle.scales.specs.Algebra.{Algebra}
use Rattle.lines.specs.declared.line.Line.{Line}
use Rattle.lines.specs.Forms.{no}
use Rattle.lines.specs.Stands.{forms}
use Rattle.logic.specs.History.{Event, History, start, report, close, high}
use Rattle.logic.specs.Truth.{truth}
use Rattle.logic.specs.Rows.{verdict, reach}
use Rattle.meaning.specs.declared.answer.Answer.{Answer}
use Rattle.meaning.specs.declared.answer.Answer.TheVariants.{Started, Changed, Would, Closed, Verdict, Truth}
use Rattle.meaning.specs.declared.call.Call.{Call}
use Rattle.meaning.specs.declared.call.Call.TheVariants as call
use Rattle.meaning.specs.declared.fault.BookFault.{BookFault}
use Rattle.meaning.specs.Kept.{low}
use Rattle.meaning.specs.Refusals.{open_refusal, report_refusal, start_refusal, verdict_refusal, truth_refusal}

-- a call, with the codes that it hands over
pub data Asked : Type 0 where
  ask_start : List ℕ → Asked
  ask_report : ℕ → List ℕ → Asked
  ask_preview : ℕ → List ℕ → Asked
  ask_close : ℕ → Asked
  ask_verdict : Asked
  ask_truth : ℕ → ℕ → Asked

abbrev pub asked : Call → Asked
asked (call.Start q) = ask_start q.now
asked (call.Report run q) = ask_report run q.now
asked (call.Preview run q) = ask_preview run q.now
asked (call.Close run) = ask_close run
asked call.Verdict = ask_verdict
asked (call.Truth run line) = ask_truth run line

-- the result of a call, unless it is refused
abbrev pub unless : {A : Type 0} → Option BookFault → A → Result A BookFault
unless None x = Ok x
unless (Some f) x = Err f

-- the history with the event of a call, unless it is refused
abbrev pub added : Option BookFault → Event → History → History
added None e h = e ∷ h
added (Some f) e h = h

-- a result as an answer; a refusal stays
abbrev pub answer_by : {A : Type 0} → (A → Answer) → Result A BookFault → Result Answer BookFault
answer_by f r = result_map_both f (λ fault. fault) r

-- the truth of a line of the table, by its number
abbrev pub line_truth : Algebra → List Line → History → ℕ → ℕ → ℕ
line_truth S ls h run line = truth S (slice_index_or (forms ls) line no) h run

-- The policy has the lines ls over so many atoms; the store has this limit.
module _ (S : Algebra) (ls : List Line) (atoms limit : ℕ) where
  -- the result of each call after the history h
  abbrev pub started : History → List ℕ → Result ℕ BookFault
  started h q = unless (start_refusal S atoms limit h q) (high h + 1)

  abbrev pub reported : History → ℕ → List ℕ → Result (ℕ × ℕ) BookFault
  reported h run q = unless (report_refusal S atoms h run q) (reach S ls run q h, verdict S ls (report run q ∷ h))

  abbrev pub previewed : History → ℕ → List ℕ → Result ℕ BookFault
  previewed h run q = unless (report_refusal S atoms h run q) (verdict S ls (report run q ∷ h))

  abbrev pub closed : History → ℕ → Result ℕ BookFault
  closed h run = unless (open_refusal h run) (low (close run ∷ h) - low h)

  abbrev pub verdict_given : History → Result ℕ BookFault
  verdict_given h = unless (verdict_refusal h) (verdict S ls h)

  abbrev pub truth_given : History → ℕ → ℕ → Result ℕ BookFault
  truth_given h run line = unless (truth_refusal ls h run line) (line_truth S ls h run line)

  -- what a call is answered after the history h
  abbrev pub answer : History → Asked → Result Answer BookFault
  answer h (ask_start q) = answer_by Started (started h q)
  answer h (ask_report run q) = answer_by (λ p. Changed p.0 p.1) (reported h run q)
  answer h (ask_preview run q) = answer_by Would (previewed h run q)
  answer h (ask_close run) = answer_by Closed (closed h run)
  answer h ask_verdict = answer_by Verdict (verdict_given h)
  answer h (ask_truth run line) = answer_by Truth (truth_given h run line)

  -- the history after it: with the event of an accepted start, report or close, and no other
  abbrev pub next : History → Asked → History
  next h (ask_start q) = added (start_refusal S atoms limit h q) (start q) h
  next h (ask_report run q) = added (report_refusal S atoms h run q) (report run q) h
  next h (ask_preview run q) = h
  next h (ask_close run) = added (open_refusal h run) (close run) h
  next h ask_verdict = h
  next h (ask_truth run line) = h

  -- what a list of calls is answered, each building on the last
  abbrev pub answers : History → List Asked → List (Result Answer BookFault)
  answers h [] = []
  answers h (c ∷ cs) = answer h c ∷ answers (next h c) cs

  -- the history after a list of calls
  abbrev pub after : History → List Asked → History
  after h [] = h
  after h (c ∷ cs) = after (next h c) cs
