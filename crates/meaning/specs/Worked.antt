-- Worked cases of whole lists of calls: what the definitions answer, computed. Assumes nothing.
use Rattle.std.specs.Prelude.{◌≡◌, List, [], ◌∷◌, Ok, Err, Result}
use Rattle.scales.specs.Scales.{plain}
use Rattle.stores.specs.declared.fault.StoreFault.TheVariants.{Full}
use Rattle.logic.specs.Worked.{policy_a, policy_b}
use Rattle.meaning.specs.declared.answer.Answer.{Answer}
use Rattle.meaning.specs.declared.answer.Answer.TheVariants.{Started, Changed, Would, Closed, Verdict, Truth}
use Rattle.meaning.specs.declared.fault.BookFault.{BookFault}
use Rattle.meaning.specs.declared.fault.BookFault.TheVariants.{Count, Code, NoRun, Gone, NoLine, NoRuns, Store}
use Rattle.meaning.specs.declared.fault.BookFault.TheVariants as fault
use Rattle.meaning.specs.Calls.{Asked, ask_start, ask_report, ask_preview, ask_close, ask_verdict, ask_truth, answers}

-- policy A: a late report of the first run moves the second, a preview moves nothing
abbrev calls_a : List Asked
calls_a =
    ask_verdict ∷ ask_start (0 ∷ 0 ∷ []) ∷ ask_start (1 ∷ 0 ∷ []) ∷ ask_report 1 (0 ∷ 1 ∷ []) ∷ ask_report 1 (1 ∷ 0 ∷ []) ∷ ask_preview 1 (0 ∷ 0 ∷ [])
    ∷ ask_report 3 (0 ∷ 0 ∷ []) ∷ ask_report 1 (0 ∷ 0 ∷ []) ∷ ask_close 1 ∷ ask_verdict ∷ ask_start (0 ∷ []) ∷ ask_start (0 ∷ 7 ∷ []) ∷ ask_report 1 (0 ∷ []) ∷ []

abbrev answers_a : List (Result Answer BookFault)
answers_a =
    Err NoRuns ∷ Ok (Started 1) ∷ Ok (Started 2) ∷ Ok (Changed 1 1) ∷ Ok (Changed 2 0) ∷ Ok (Would 1)
    ∷ Err (NoRun 3) ∷ Ok (Changed 2 1) ∷ Ok (Closed 0) ∷ Ok (Verdict 1) ∷ Err (Count 1) ∷ Err (Code 1) ∷ Err (fault.Closed 1) ∷ []

-- policy B: a run's earlier row has what other runs' reports had moved by then
abbrev calls_b : List Asked
calls_b = ask_start (0 ∷ []) ∷ ask_start (0 ∷ []) ∷ ask_report 1 (1 ∷ []) ∷ ask_report 2 (0 ∷ []) ∷ ask_report 1 (0 ∷ []) ∷ ask_truth 2 1 ∷ ask_truth 2 3 ∷ []

abbrev answers_b : List (Result Answer BookFault)
answers_b = Ok (Started 1) ∷ Ok (Started 2) ∷ Ok (Changed 2 0) ∷ Ok (Changed 1 1) ∷ Ok (Changed 2 1) ∷ Ok (Truth 0) ∷ Err (NoLine 3) ∷ []

-- a store of limit 2: a close makes room once the runs below are gone
abbrev calls_full : List Asked
calls_full =
    ask_start (0 ∷ []) ∷ ask_start (0 ∷ []) ∷ ask_start (0 ∷ []) ∷ ask_close 1 ∷ ask_start (0 ∷ []) ∷ ask_close 2 ∷ ask_start (0 ∷ []) ∷ ask_truth 1 0 ∷ ask_truth 0 0 ∷ []

abbrev answers_full : List (Result Answer BookFault)
answers_full =
    Ok (Started 1) ∷ Ok (Started 2) ∷ Err (Store (Full 2)) ∷ Ok (Closed 0) ∷ Err (Store (Full 2)) ∷ Ok (Closed 1) ∷ Ok (Started 3) ∷ Err (Gone 1) ∷ Err (NoRun 0) ∷ []

abbrev pub WorkedCalls : Type 0
WorkedCalls =
    (answers plain policy_a 2 64 [] calls_a ≡ answers_a)
    × (answers plain policy_b 1 64 [] calls_b ≡ answers_b)
    × (answers plain policy_b 1 2 [] calls_full ≡ answers_full)
