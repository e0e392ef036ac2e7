use Rattle.std.proofs.Common.{◌≡◌, ◌<◌, ◌≤◌, length, Some, None, sym, ap, ◌∙◌, subst}
use Rattle.stores.specs.Meaning.{high_of}
use Rattle.meaning.specs.Refusals.{run_refusal, open_refusal}
use Rattle.meaning.specs.Calls.{unless}
use Rattle.meaning.proofs.Refusals.{none_from_unless, some_from_unless, passed_on, open_by_run, open_below, open_down, open_up, read_record}
use Rattle.monitor.proofs.checks.read_open.Goals as goal

pub returns-in_err-check_run-clause-value : goal.returns-in_err-check_run-clause-value
returns-in_err-check_run-clause-value g c =
    let m = g.S.Store.meaning c.args.store.now in
    let run = c.args.run in
    let f = c.in_err-check_run.field-0.0 in
    let bad : run_refusal (high_of m) run ≡ Some f = some_from_unless _ tt f (c.in_err-check_run.ensures.value ∙ ap (λ n. unless (run_refusal n run) tt) c.high.ensures.value) in
    λ K ls atoms h rep long.
    passed_on c.from_residual.result (open_refusal h run) tt f c.from_residual.ensures.1 (open_by_run K ls atoms h m rep (g.met.S.Store.sound c.args.store.now) run f bad)

pub returns-then-run-low-clause-value : goal.returns-then-run-low-clause-value
returns-then-run-low-clause-value g c =
    let m = g.S.Store.meaning c.args.store.now in
    let run = c.args.run in
    let there : run_refusal (high_of m) run ≡ None = none_from_unless _ tt tt (c.in_ok-check_run.ensures.value ∙ ap (λ n. unless (run_refusal n run) tt) c.high.ensures.value) in
    let lt : run < m.low = subst (λ n. run < n) c.low.ensures.value c.if-run-low.true in
    λ K ls atoms h rep long. sym (ap (λ o. unless o tt) (open_below K ls atoms h m rep (g.met.S.Store.sound c.args.store.now) run there lt))

pub returns-then-not-is_open-clause-value : goal.returns-then-not-is_open-clause-value
returns-then-not-is_open-clause-value g c =
    let m = g.S.Store.meaning c.args.store.now in
    let run = c.args.run in
    let there : run_refusal (high_of m) run ≡ None = none_from_unless _ tt tt (c.in_ok-check_run.ensures.value ∙ ap (λ n. unless (run_refusal n run) tt) c.high.ensures.value) in
    let kept : m.low ≤ run = subst (λ n. n ≤ run) c.low.ensures.value c.if-run-low.false in
    λ K ls atoms h rep long.
    sym (ap (λ o. unless o tt) (open_down K ls atoms h m rep (g.met.S.Store.sound c.args.store.now) run there (length c.args.rec.now) c.fetch.new.rec kept long c.fetch.ensures
    (sym c.is_open.ensures.value ∙ c.if-not-is_open.true)))

pub returns : goal.returns
returns g c =
    let m = g.S.Store.meaning c.args.store.now in
    let run = c.args.run in
    let there : run_refusal (high_of m) run ≡ None = none_from_unless _ tt tt (c.in_ok-check_run.ensures.value ∙ ap (λ n. unless (run_refusal n run) tt) c.high.ensures.value) in
    let kept : m.low ≤ run = subst (λ n. n ≤ run) c.low.ensures.value c.if-run-low.false in
    record {
      value = λ K ls atoms h rep long.
          sym (ap (λ o. unless o tt) (open_up K ls atoms h m rep (g.met.S.Store.sound c.args.store.now) run there (length c.args.rec.now) c.fetch.new.rec kept long c.fetch.ensures
          (sym c.is_open.ensures.value ∙ c.if-not-is_open.false)));
      after = λ K ls atoms h rep long.
          read_record K ls atoms h m rep (g.met.S.Store.sound c.args.store.now) run there (length c.args.rec.now) c.fetch.new.rec kept long c.fetch.ensures;
    }
