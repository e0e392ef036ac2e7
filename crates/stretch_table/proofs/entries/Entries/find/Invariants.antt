use Rattle.std.proofs.Common.{◌-◌, ◌<◌, ◌≤◌}
use Rattle.stretch_table.specs.Held.{entry_at}
use Rattle.stretch_table.proofs.entries.Entries.find.Given as goal

abbrev pub invariant-loop-from : goal.invariant-loop-from
invariant-loop-from l =
    (l.from < l.to) × (l.to ≤ l.self.used)
    × ((entry_at l.self l.from).first ≤ l.run)
    × (l.to < l.self.used → l.run < (entry_at l.self l.to).first)

abbrev pub decreases-loop-from : goal.decreases-loop-from
decreases-loop-from l = l.to - l.from
