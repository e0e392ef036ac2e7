use Rattle.std.proofs.Common.{◌≡◌, ◌+◌, arith}
use Rattle.lines.proofs.Writing.{both}
use Rattle.lines.proofs.table.Table.add_negated.Goals as goal

pub returns-clause-lines : goal.returns-clause-lines
returns-clause-lines g c =
    let not : c.args.last + 1 ≡ c.add-not.result = omega (arith, c.add-not.ensures.value) in
    let joined : c.args.last + 2 ≡ c.add-joined.result = omega (arith, c.add-not.ensures.count, c.add-joined.ensures.value) in
    rw (not, joined) (c.line.result, c.line.ensures, both (both c.add-not.ensures.lines c.add-joined.ensures.lines) c.add.ensures.lines)
