use Rattle.std.proofs.Common.{◌≡◌, ◌+◌, ◌*◌, ◌<◌, ◌≤◌, cond, length, get_or, Some, None, Ok, sym, ap, ◌∙◌, subst, arith}
use Rattle.std.proofs.lemmas.Bool.{lt-ltb, le-ltb}
use Rattle.stores.specs.Meaning.{high_of}
use Rattle.logic.specs.History.{high}
use Rattle.meaning.specs.declared.fault.BookFault.TheVariants.{NoLine}
use Rattle.meaning.specs.Records.{record_of, truths_of}
use Rattle.meaning.specs.Kept.{low}
use Rattle.meaning.specs.Refusals.{run_refusal, truth_refusal}
use Rattle.meaning.specs.Calls.{unless, line_truth}
use Rattle.meaning.proofs.Owns.{kept_truths, line_is}
use Rattle.meaning.proofs.Refusals.{none_from_unless, some_from_unless, passed_on, run_by, run_there, read_record, truth_by_run, truth_held}
use Rattle.meaning.proofs.Walks.{lows}
use Rattle.monitor.proofs.asking.truth.Goals as goal

pub returns-in_err-check_run : goal.returns-in_err-check_run
returns-in_err-check_run g c =
    let m = g.S.Store.meaning c.args.store.now in
    let run = c.args.run in
    let f = c.in_err-check_run.field-0.0 in
    let bad : run_refusal (high_of m) run ≡ Some f = some_from_unless _ tt f (c.in_err-check_run.ensures.value ∙ ap (λ n. unless (run_refusal n run) tt) c.high.ensures.value) in
    record {
      value = λ K ls h rep long.
          passed_on c.from_residual.result (truth_refusal ls h run c.args.line) (line_truth K ls h run c.args.line) f c.from_residual.ensures.1
          (truth_by_run K ls c.args.atoms h m rep (g.met.S.Store.sound c.args.store.now) run c.args.line f bad);
    }

pub returns-then-line-lines : goal.returns-then-line-lines
returns-then-line-lines g c =
    let m = g.S.Store.meaning c.args.store.now in
    let run = c.args.run in
    let line = c.args.line in
    let there : run_refusal (high_of m) run ≡ None = none_from_unless _ tt tt (c.in_ok-check_run.ensures.value ∙ ap (λ n. unless (run_refusal n run) tt) c.high.ensures.value) in
    let kept : m.low ≤ run = subst (λ n. n ≤ run) c.low.ensures.value c.if-run-low.false in
    record {
      value = λ K ls h rep long.
          let over : length ls ≤ line = subst (λ n. n ≤ line) (sym long) c.if-line-lines.true in
          sym (ap (λ o. unless o (line_truth K ls h run line))
          (truth_held K ls c.args.atoms h m rep (g.met.S.Store.sound c.args.store.now) run there line kept ∙ ap (λ b. cond b None (Some (NoLine line))) (le-ltb line (length ls) over)));
    }

pub returns : goal.returns
returns g c =
    let m = g.S.Store.meaning c.args.store.now in
    let run = c.args.run in
    let line = c.args.line in
    let a = c.args.atoms in
    let sound = g.met.S.Store.sound c.args.store.now in
    let there : run_refusal (high_of m) run ≡ None = none_from_unless _ tt tt (c.in_ok-check_run.ensures.value ∙ ap (λ n. unless (run_refusal n run) tt) c.high.ensures.value) in
    let kept : m.low ≤ run = subst (λ n. n ≤ run) c.low.ensures.value c.if-run-low.false in
    let rec = c.fetch.new.rec in
    record {
      value = λ K ls h rep long.
          let below : line < length ls = subst (λ n. line < n) (sym long) c.if-line-lines.false in
          let l = lows K ls a m.limit h m (record_of K ls h) rep sound in
          let lo : low h ≤ run = omega arith in
          let in-h = run_there (high h) run (run_by K ls a h m rep sound run None there) in
          ap Ok (c.truth_at.ensures.value ∙ ap (λ n. get_or (truths_of a n rec) line 0) (sym long)
          ∙ line_is K ls a h run line rec below (kept_truths K ls a h m rep sound run lo in-h.1)
          (read_record K ls a h m rep sound run there (length c.args.rec.now) rec kept (c.requires ∙ ap (λ n. 1 + a + 2 * n) (sym long)) c.fetch.ensures))
          ∙ sym (ap (λ o. unless o (line_truth K ls h run line)) (truth_held K ls a h m rep sound run there line kept ∙ ap (λ b. cond b None (Some (NoLine line))) (lt-ltb line (length ls) below)));
    }
