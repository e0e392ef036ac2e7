use Rattle.std.proofs.Common.{◌≡◌, ◌-◌, ◌≤◌, length}
use Rattle.stores.specs.Meaning.{record_at}
use Rattle.meaning.specs.Kept.{lowest}
use Rattle.meaning.specs.Walking.{is_open}
use Rattle.monitor.proofs.closing.lowest_open.Given as goal

abbrev pub invariant-loop-run : goal.invariant-loop-run
invariant-loop-run g l =
    let m = g.S.Store.meaning l.store in
    (m.low ≤ l.run)
    × (length l.rec ≡ m.width →
    lowest (λ j. is_open (record_at m j)) l.run (l.run-end - l.run) ≡ lowest (λ j. is_open (record_at m j)) m.low (l.run-end - m.low))
