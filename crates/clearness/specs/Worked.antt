-- A worked list of calls on the open scale, and the same with unknown codes filled in: what the definitions answer,
-- computed. Assumes nothing.
use Rattle.std.specs.Prelude.{◌≡◌, List, [], ◌∷◌, Ok, Err, Result}
use Rattle.scales.specs.Scales.{with_unknown}
use Rattle.logic.specs.Worked.{policy_a}
use Rattle.meaning.specs.declared.answer.Answer.{Answer}
use Rattle.meaning.specs.declared.answer.Answer.TheVariants.{Started, Changed, Would, Closed, Verdict, Truth}
use Rattle.meaning.specs.declared.fault.BookFault.{BookFault}
use Rattle.meaning.specs.declared.fault.BookFault.TheVariants.{Code, NoRun}
use Rattle.meaning.specs.Calls.{Asked, ask_start, ask_report, ask_preview, ask_close, ask_verdict, ask_truth, answers}
use Rattle.clearness.specs.Clearness.{ClearerCalls}

-- 2 is unknown; 7 is no code
abbrev pub calls_first : List Asked
calls_first =
    ask_start (2 ∷ 0 ∷ []) ∷ ask_verdict ∷ ask_start (1 ∷ 2 ∷ []) ∷ ask_verdict ∷ ask_truth 2 6 ∷ ask_start (2 ∷ 7 ∷ []) ∷ ask_preview 1 (1 ∷ 2 ∷ [])
    ∷ ask_report 1 (2 ∷ 2 ∷ []) ∷ ask_report 1 (1 ∷ 0 ∷ []) ∷ ask_report 3 (2 ∷ 2 ∷ []) ∷ ask_close 1 ∷ ask_verdict ∷ []

abbrev pub calls_second : List Asked
calls_second =
    ask_start (1 ∷ 0 ∷ []) ∷ ask_verdict ∷ ask_start (1 ∷ 0 ∷ []) ∷ ask_verdict ∷ ask_truth 2 6 ∷ ask_start (0 ∷ 7 ∷ []) ∷ ask_preview 1 (1 ∷ 1 ∷ [])
    ∷ ask_report 1 (2 ∷ 1 ∷ []) ∷ ask_report 1 (1 ∷ 0 ∷ []) ∷ ask_report 3 (0 ∷ 2 ∷ []) ∷ ask_close 1 ∷ ask_verdict ∷ []

abbrev pub answers_first : List (Result Answer BookFault)
answers_first =
    Ok (Started 1) ∷ Ok (Verdict 1) ∷ Ok (Started 2) ∷ Ok (Verdict 2) ∷ Ok (Truth 2) ∷ Err (Code 1) ∷ Ok (Would 2)
    ∷ Ok (Changed 1 2) ∷ Ok (Changed 1 2) ∷ Err (NoRun 3) ∷ Ok (Closed 0) ∷ Ok (Verdict 2) ∷ []

abbrev pub answers_second : List (Result Answer BookFault)
answers_second =
    Ok (Started 1) ∷ Ok (Verdict 1) ∷ Ok (Started 2) ∷ Ok (Verdict 1) ∷ Ok (Truth 1) ∷ Err (Code 1) ∷ Ok (Would 0)
    ∷ Ok (Changed 2 2) ∷ Ok (Changed 2 0) ∷ Err (NoRun 3) ∷ Ok (Closed 0) ∷ Ok (Verdict 0) ∷ []

abbrev pub WorkedClearer : Type 0
WorkedClearer =
    ClearerCalls with_unknown calls_first calls_second
    × (answers with_unknown policy_a 2 64 [] calls_first ≡ answers_first)
    × (answers with_unknown policy_a 2 64 [] calls_second ≡ answers_second)
