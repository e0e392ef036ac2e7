use Rattle.std.proofs.Common.{◌∙◌, length-take, arith}
use Rattle.judge.proofs.Turns.{row_of_lent, ended}
use Rattle.judge.proofs.judge_row.Goals as goal

pub returns-clause-row : goal.returns-clause-row
returns-clause-row g c n h s lent =
    let table = c.args.table.now in
    let long = length-take c.min-room.result table in
    ended _ _ _ _ _ _ _ _ (omega arith) c.loop-i.invariant ∙ row_of_lent _ g.met.K.Scale.holds _ _ _ _ _ n h s lent
