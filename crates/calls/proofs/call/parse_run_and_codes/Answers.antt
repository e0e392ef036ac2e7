-- There is one cut at the blank, so what fails on one side fails for the whole.
use Rattle.calls.proofs.Spellings.{no_blank, one_cut}
use Rattle.calls.proofs.call.parse_run_and_codes.Goals as goal

pub returns-in_err-number : goal.returns-in_err-number
returns-in_err-number c = rw c.from_residual.ensures (no_blank _ c.in_err-number.ensures)

pub returns-in_err-run : goal.returns-in_err-run
returns-in_err-run c =
    rw c.from_residual-in_err-run.ensures
    (λ n cs h. c.in_err-run.ensures n (one_cut _ _ _ c.in_ok-number.ensures n cs h).0)

pub returns-in_err-codes : goal.returns-in_err-codes
returns-in_err-codes c =
    rw c.from_residual-in_err-codes.ensures
    (λ n cs h. c.in_err-codes.ensures cs (one_cut _ _ _ c.in_ok-number.ensures n cs h).1)
