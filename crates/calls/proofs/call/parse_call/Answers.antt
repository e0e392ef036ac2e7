-- What follows a report's or a preview's letter and blank is no run with codes, so the line spells no call.
use Rattle.std.proofs.Common.{arith, ltb-false, lit≤, lit<}
use Rattle.calls.proofs.Spellings.{opened, no_run_call}
use Rattle.calls.proofs.call.parse_call.Goals as goal

pub returns-in_err-run-in-85 : goal.returns-in_err-run-in-85
returns-in_err-run-in-85 c =
    rw c.from_residual-in_err-run-in-85.ensures
    (no_run_call _ _ 85 (lit≤ tt) (lit< tt) (opened c.args.line.now 85 32 (omega (arith, ltb-false)) (omega arith) (omega arith)) c.in_err-run-in-85.ensures)

pub returns-in_err-run-in-80 : goal.returns-in_err-run-in-80
returns-in_err-run-in-80 c =
    rw c.from_residual-in_err-run-in-80.ensures
    (no_run_call _ _ 80 (lit≤ tt) (lit< tt) (opened c.args.line.now 80 32 (omega (arith, ltb-false)) (omega arith) (omega arith)) c.in_err-run-in-80.ensures)
