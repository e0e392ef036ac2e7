use Rattle.std.proofs.Common.{◌≡◌, ◌+◌, length, Some, None, Ok, sym, ap, ◌∙◌}
use Rattle.stores.specs.Meaning.{Meaning, appended}
use Rattle.stores.specs.Refusals.{append_fault}
use Rattle.logic.specs.History.{start, high}
use Rattle.meaning.specs.declared.fault.BookFault.TheVariants.{Store}
use Rattle.meaning.specs.Records.{record_of}
use Rattle.meaning.specs.Kept.{meaning}
use Rattle.meaning.specs.Refusals.{codes_refusal, start_refusal}
use Rattle.meaning.specs.Calls.{unless, added}
use Rattle.meaning.proofs.Refusals.{none_from_unless, passed_on, none_from_answer, some_from_answer, turned, room_is, start_by_room}
use Rattle.meaning.proofs.Starts.{meaning_start}
use Rattle.meaning.proofs.Walks.{highs}
use Rattle.monitor.proofs.Desks.{wide_by}
use Rattle.monitor.proofs.starting.start.Goals as goal

pub returns-in_err-append : goal.returns-in_err-append
returns-in_err-append g c =
    let S = g.K.Scale.algebra in
    let d = c.args.rules in
    let ls = d.table.now in
    let a = d.atoms in
    let q = c.args.codes.now in
    let m = g.S.Store.meaning c.args.store.now in
    let sound = g.met.S.Store.sound c.args.store.now in
    let r = c.from_residual-in_err-append in
    let f = c.in_err-append.field-0.0 in
    let good = none_from_unless (codes_refusal S a q) tt tt c.in_ok-check_codes.ensures.value in
    let b = c.in_err-append.ensures in
    let j = c.fresh_record.new.self in
    let len = length j.rec.now in
    let long = wide_by d j c.fresh_record.ensures.rules in
    let full = some_from_answer (append_fault m len) f b.value in
    record {
      value = λ h rep.
          passed_on r.result (start_refusal S a m.limit h q) (high h + 1) (Store f) r.ensures.1 (start_by_room S a m.limit h q (Some (Store f)) good (sym (room_is S ls a h m rep sound len long) ∙ ap turned full));
      after = λ h rep. b.after ∙ rep ∙ sym (ap (λ o. meaning S ls a m.limit (added o (start q) h)) (start_by_room S a m.limit h q (Some (Store f)) good (sym (room_is S ls a h m rep sound len long) ∙ ap turned full)));
      same = b.same;
    }

pub returns : goal.returns
returns g c =
    let S = g.K.Scale.algebra in
    let d = c.args.rules in
    let ls = d.table.now in
    let a = d.atoms in
    let q = c.args.codes.now in
    let m = g.S.Store.meaning c.args.store.now in
    let sound = g.met.S.Store.sound c.args.store.now in
    let good = none_from_unless (codes_refusal S a q) tt tt c.in_ok-check_codes.ensures.value in
    let b = c.in_ok-append.ensures in
    let j = c.fresh_record.new.self in
    let len = length j.rec.now in
    let long = wide_by d j c.fresh_record.ensures.rules in
    let room = none_from_answer (append_fault m len) b.value in
    record {
      value = λ h rep.
          let run : c.high-run.result + 1 ≡ high h + 1 = ap (λ n. n + 1) (c.high-run.ensures.value ∙ highs S ls a m.limit h m (record_of S ls h) rep sound) in
          ap Ok run ∙ sym (ap (λ o. unless o (high h + 1)) (start_by_room S a m.limit h q None good (sym (room_is S ls a h m rep sound len long) ∙ ap turned room)));
      after = λ h rep.
          let run : c.high-run.result + 1 ≡ high h + 1 = ap (λ n. n + 1) (c.high-run.ensures.value ∙ highs S ls a m.limit h m (record_of S ls h) rep sound) in
          b.after ∙ ap (λ (x : Meaning). appended x j.rec.now) rep ∙ ap (appended (meaning S ls a m.limit h)) (c.fresh_record.ensures.fresh h rep run) ∙ meaning_start S ls a m.limit h q
          ∙ sym (ap (λ o. meaning S ls a m.limit (added o (start q) h)) (start_by_room S a m.limit h q None good (sym (room_is S ls a h m rep sound len long) ∙ ap turned room)));
      same = b.same;
    }
