use Rattle.std.proofs.Common.{◌-◌, ◌∷◌, length, set, Ok, sym, refl, ap, ◌∙◌, arith}
use Rattle.logic.specs.History.{close}
use Rattle.meaning.specs.Kept.{low, meaning}
use Rattle.meaning.specs.Refusals.{open_refusal}
use Rattle.meaning.specs.Calls.{unless, added}
use Rattle.meaning.proofs.Lows.{low_open}
use Rattle.meaning.proofs.Closes.{closes}
use Rattle.meaning.proofs.Refusals.{none_from_unless, some_from_unless, passed_on, open_since}
use Rattle.monitor.proofs.closing.close.Goals as goal

pub returns-in_err-read_open : goal.returns-in_err-read_open
returns-in_err-read_open g c =
    let m = g.S.Store.meaning c.args.store.now in
    let run = c.args.run in
    let f = c.in_err-read_open.field-0.0 in
    record {
      value = λ K ls atoms h rep long.
          passed_on c.from_residual.result (open_refusal h run) (low (close run ∷ h) - low h) f c.from_residual.ensures.1 (some_from_unless (open_refusal h run) tt f (c.in_err-read_open.ensures.value K ls atoms h rep long));
      after = λ K ls atoms h rep long.
          rep ∙ sym (ap (λ o. meaning K ls atoms m.limit (added o (close run) h)) (some_from_unless (open_refusal h run) tt f (c.in_err-read_open.ensures.value K ls atoms h rep long)));
      same = refl;
    }

pub returns : goal.returns
returns g c =
    let m = g.S.Store.meaning c.args.store.now in
    let sound = g.met.S.Store.sound c.args.store.now in
    let run = c.args.run in
    record {
      value = λ K ls atoms h rep long.
          let free = none_from_unless (open_refusal h run) tt tt (c.in_ok-read_open.ensures.value K ls atoms h rep long) in
          let since = open_since h run free in
          let some = since.0 in
          let most = since.1 in
          let wide = c.close_record.auto.rec ∙ c.read_open.auto.rec ∙ long in
          let closed = closes K ls atoms h run m (g.S.Store.meaning c.keep.new.store) c.close_record.new.rec (length c.close_record.new.rec) rep sound wide (low_open h run some most since.2).0 most
          (c.close_record.ensures.after ∙ ap (λ x. set x 0 0) (c.in_ok-read_open.ensures.after K ls atoms h rep long)) c.keep.ensures.after in
          ap Ok (c.forget_old-gone.ensures.value K ls atoms m.limit h run closed (omega arith) wide) ∙ sym (ap (λ o. unless o (low (close run ∷ h) - low h)) free);
      after = λ K ls atoms h rep long.
          let free = none_from_unless (open_refusal h run) tt tt (c.in_ok-read_open.ensures.value K ls atoms h rep long) in
          let since = open_since h run free in
          let some = since.0 in
          let most = since.1 in
          let wide = c.close_record.auto.rec ∙ c.read_open.auto.rec ∙ long in
          let closed = closes K ls atoms h run m (g.S.Store.meaning c.keep.new.store) c.close_record.new.rec (length c.close_record.new.rec) rep sound wide (low_open h run some most since.2).0 most
          (c.close_record.ensures.after ∙ ap (λ x. set x 0 0) (c.in_ok-read_open.ensures.after K ls atoms h rep long)) c.keep.ensures.after in
          c.forget_old-gone.ensures.after K ls atoms m.limit h run closed (omega arith) wide ∙ sym (ap (λ o. meaning K ls atoms m.limit (added o (close run) h)) free);
      same = c.forget_old-gone.ensures.same ∙ c.keep.ensures.same;
    }
