use Rattle.std.proofs.Common.{◌+◌, ◌-◌, ◌<◌, ◌≤◌, sym, ap, ◌∙◌, arith}
use Rattle.stores.specs.Meaning.{high_of, record_at}
use Rattle.meaning.specs.Kept.{lowest}
use Rattle.meaning.specs.Walking.{is_open}
use Rattle.meaning.proofs.Closes.{search_stops, search_goes}
use Rattle.monitor.proofs.closing.lowest_open.Goals as goal

pub loop-run-preserved : goal.loop-run-preserved
loop-run-preserved g c =
    let m = g.S.Store.meaning c.args.store.now in
    let inv = c.loop-run.invariant in
    let lo = inv.0 in
    let hi = c.high-run-end.ensures.value in
    let lt : c.loop-run.run < c.high-run-end.result + 1 = c.loop-run-test.true in (
      omega arith,
      λ long.
          let was = sym c.fetch.auto.rec ∙ long in
          search_goes m c.loop-run.run (c.high-run-end.result + 1) c.fetch.new.rec lt (c.fetch.ensures (record { long = was; above = lo; inside = omega arith }))
          (sym c.is_open.ensures.value ∙ c.if-is_open.false) ∙ inv.1 was,
    )

pub returns-then-is_open : goal.returns-then-is_open
returns-then-is_open g c =
    let m = g.S.Store.meaning c.args.store.now in
    let inv = c.loop-run.invariant in
    let lo = inv.0 in
    let hi = c.high-run-end.ensures.value in
    let lt : c.loop-run.run < c.high-run-end.result + 1 = c.loop-run-test.true in
    let inside : c.loop-run.run ≤ high_of m = omega arith in
    record {
      value = λ long.
          let was = c.loop-run.auto.rec ∙ long in
          sym (search_stops m c.loop-run.run (c.high-run-end.result + 1) c.fetch.new.rec lt (c.fetch.ensures (record { long = was; above = lo; inside = inside })) (sym c.is_open.ensures.value ∙ c.if-is_open.true))
          ∙ inv.1 was ∙ ap (λ n. lowest (λ j. is_open (record_at m j)) m.low (n + 1 - m.low)) hi;
    }
