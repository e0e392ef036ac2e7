use Rattle.std.proofs.Common.{sym}
use Rattle.std.proofs.lemmas.Result.{err_from_is_err_and}
use Rattle.text.specs.Heads.{unread, other}
use Rattle.text.proofs.expect.Goals as goal

pub returns-in_err-placed : goal.returns-in_err-placed
returns-in_err-placed g c = λ test tells.
    let y = err_from_is_err_and c.from_residual.result c.from_residual.ensures.1 in
    rw (y.1, y.2) (unread (sym c.in_err-placed.ensures.value))

pub returns : goal.returns
returns g c = λ test tells. other (sym c.in_ok-placed.ensures.value) (sym (tells _ _ c.if-fits.ensures))
