use Rattle.std.proofs.Common.{◌≡◌, drop}
use Rattle.meaning.specs.Refusals.{first_bad}
use Rattle.monitor.proofs.checks.check_each.Given as goal

abbrev pub invariant-loop-i : goal.invariant-loop-i
invariant-loop-i g l = first_bad g.K.Scale.algebra (drop l.i l.codes) l.i ≡ first_bad g.K.Scale.algebra l.codes 0
