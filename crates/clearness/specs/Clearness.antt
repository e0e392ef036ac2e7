-- Two lists of calls that differ in codes alone, and how their answers compare: in every relation here the second is as
-- clear as the first. Laws of the definitions.
use Rattle.std.specs.Prelude.{◌≡◌, ℕ, true, ◌⊎◌, List, [], Ok, Err, Result}
use mathlib.Core.List.{Forall₂}
use Rattle.scales.specs.Algebra.{Algebra, Laws}
use Rattle.lines.specs.declared.line.Line.{Line}
use Rattle.logic.specs.History.{History}
use Rattle.logic.specs.Clear.{Clearer}
use Rattle.meaning.specs.declared.answer.Answer.{Answer}
use Rattle.meaning.specs.declared.answer.Answer.TheVariants.{Started, Changed, Would, Closed, Verdict, Truth}
use Rattle.meaning.specs.declared.fault.BookFault.{BookFault}
use Rattle.meaning.specs.Calls.{Asked, ask_start, ask_report, ask_preview, ask_close, ask_verdict, ask_truth, answers, after}

-- a byte in the place of another: the same, or for a code one that is as clear; of other bytes `clear` never holds
abbrev pub ClearerByte : Algebra → ℕ → ℕ → Type 0
ClearerByte S first second = (second ≡ first) ⊎ (S.clear second first ≡ true)

-- as many bytes, one by one
abbrev pub ClearerBytes : Algebra → List ℕ → List ℕ → Type 0
ClearerBytes S = Forall₂ (ClearerByte S)

-- the same call of the same run and line, with clearer codes
pub data ClearerCall (S : Algebra) : Asked → Asked → Type 0 where
  both_start : {p q : List ℕ} → ClearerBytes S p q → ClearerCall S (ask_start p) (ask_start q)
  both_report : {run : ℕ} {p q : List ℕ} → ClearerBytes S p q → ClearerCall S (ask_report run p) (ask_report run q)
  both_preview : {run : ℕ} {p q : List ℕ} → ClearerBytes S p q → ClearerCall S (ask_preview run p) (ask_preview run q)
  both_close : {run : ℕ} → ClearerCall S (ask_close run) (ask_close run)
  both_verdict : ClearerCall S ask_verdict ask_verdict
  both_truth : {run line : ℕ} → ClearerCall S (ask_truth run line) (ask_truth run line)

-- the same calls, one by one
abbrev pub ClearerCalls : Algebra → List Asked → List Asked → Type 0
ClearerCalls S = Forall₂ (ClearerCall S)

-- a truth that is as clear; a yes or no stays
pub record ClearerTruth (S : Algebra) (first second : ℕ) : Type 0 where
  pub as_clear : S.clear second first ≡ true
  pub yes_stays : first ≡ S.yes → second ≡ S.yes
  pub no_stays : first ≡ S.no → second ≡ S.no

-- The same refusal, or both accepted: the same run started, as many runs gone, a truth or verdict that is as clear. The
-- count of a report may be another.
pub data ClearerAnswer (S : Algebra) : Result Answer BookFault → Result Answer BookFault → Type 0 where
  same_refusal : {fault : BookFault} → ClearerAnswer S (Err fault) (Err fault)
  same_start : {run : ℕ} → ClearerAnswer S (Ok (Started run)) (Ok (Started run))
  same_close : {gone : ℕ} → ClearerAnswer S (Ok (Closed gone)) (Ok (Closed gone))
  clearer_report : {count other v w : ℕ} → ClearerTruth S v w → ClearerAnswer S (Ok (Changed count v)) (Ok (Changed other w))
  clearer_preview : {v w : ℕ} → ClearerTruth S v w → ClearerAnswer S (Ok (Would v)) (Ok (Would w))
  clearer_verdict : {v w : ℕ} → ClearerTruth S v w → ClearerAnswer S (Ok (Verdict v)) (Ok (Verdict w))
  clearer_line : {v w : ℕ} → ClearerTruth S v w → ClearerAnswer S (Ok (Truth v)) (Ok (Truth w))

-- as many answers, one by one
abbrev pub ClearerAnswers : Algebra → List (Result Answer BookFault) → List (Result Answer BookFault) → Type 0
ClearerAnswers S = Forall₂ (ClearerAnswer S)

-- Calls with clearer codes get clearer answers: from the opening, whatever the policy and the limit.
abbrev pub ClearerAnswered : Type 0
ClearerAnswered = (S : Algebra) → Laws S → (ls : List Line) (atoms limit : ℕ) (cs ds : List Asked) → ClearerCalls S cs ds →
    ClearerAnswers S (answers S ls atoms limit [] cs) (answers S ls atoms limit [] ds)

-- So they do after two histories of the same events, g and with clearer codes h; and such are the histories after them.
abbrev pub ClearerOnward : Type 0
ClearerOnward = (S : Algebra) → Laws S → (ls : List Line) (atoms limit : ℕ) (g h : History) → Clearer S h g → (cs ds : List Asked) → ClearerCalls S cs ds →
    ClearerAnswers S (answers S ls atoms limit g cs) (answers S ls atoms limit h ds)
    × Clearer S (after S ls atoms limit h ds) (after S ls atoms limit g cs)
