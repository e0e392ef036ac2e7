use Rattle.judge.proofs.Turns.{Written}
use Rattle.judge.proofs.judge_row.Given as goal

abbrev pub invariant-loop-i : goal.invariant-loop-i
invariant-loop-i g l = Written g.K.Scale.algebra l.table l.state l.past l.previous l.initial.out l.out l.i
