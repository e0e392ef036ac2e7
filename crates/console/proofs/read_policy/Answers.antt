-- An input without a text, and a text that is no policy, are answered by their refusal alone.
use Rattle.std.proofs.Common.{refl}
use Rattle.std.proofs.lemmas.Result.{err_from_is_err_and}
use Rattle.console.proofs.Outputs.{without_text, without_policy}
use Rattle.console.proofs.read_policy.Goals as goal

pub returns-in_err-text : goal.returns-in_err-text
returns-in_err-text c =
    let p = err_from_is_err_and c.from_residual.result c.from_residual.ensures.1 in
    rw (p.1) (without_text c.args.input.now _ c.in_err-text.field-0.0 c.in_err-text.ensures p.2)

pub returns-in_err-reading : goal.returns-in_err-reading
returns-in_err-reading c =
    let p = err_from_is_err_and c.from_residual-in_err-reading.result c.from_residual-in_err-reading.ensures.1 in
    rw (p.1) (without_policy c.args.input.now c.in_ok-text.text.now c.in_ok-text.rest.now _ c.in_err-reading.field-0.0 c.in_ok-text.ensures c.in_err-reading.ensures.right p.2)

pub returns : goal.returns
returns c = (c.in_ok-text.text.now, c.in_ok-reading.reading, c.in_ok-text.ensures, c.in_ok-reading.ensures.right, refl)
