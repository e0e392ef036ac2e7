-- The lines that the walk passes are empty, so what is left stays the same.
use Rattle.std.proofs.Common.{◌≡◌, ◌+◌, length}
use Rattle.calls.specs.Lines.{lines_of, numbered}
use Rattle.calls.proofs.walk.LinesIterator.next.Given as goal

abbrev pub invariant-loop-line : goal.invariant-loop-line
invariant-loop-line l = numbered (l.initial.self.passed + 1) (lines_of l.initial.self.rest.now) ≡ numbered (l.self.passed + 1) (lines_of l.self.rest.now)

abbrev pub decreases-loop-line : goal.decreases-loop-line
decreases-loop-line l = length l.self.rest.now
