use Rattle.std.proofs.Common.{◌≡◌, ◌+◌, ◌-◌, ◌≤◌, ◌∷◌, length, get_or, Ok, sym, ap, ◌∙◌, subst, arith}
use Rattle.logic.specs.History.{History, report, high}
use Rattle.logic.specs.Rows.{reach, verdict}
use Rattle.meaning.specs.Records.{record_of, truths_of}
use Rattle.meaning.specs.Kept.{Represents, meaning}
use Rattle.meaning.specs.Reaching.{Reach}
use Rattle.meaning.specs.Refusals.{report_refusal}
use Rattle.meaning.specs.Calls.{unless, added}
use Rattle.meaning.specs.Walking.{Begun, Done, Newest}
use Rattle.meaning.proofs.Owns.{begun}
use Rattle.meaning.proofs.Refusals.{none_from_unless, report_since}
use Rattle.meaning.proofs.Reports.{reports_reach, store_reach}
use Rattle.meaning.proofs.Verdicts.{verdict_after, newest_done}
use Rattle.monitor.proofs.Desks.{by_rules, wide_by}
use Rattle.monitor.proofs.reporting.report.Goals as goal

pub returns : goal.returns
returns g c =
    let S = g.K.Scale.algebra in
    let d = c.args.rules in
    let ls = d.table.now in
    let a = d.atoms in
    let run = c.args.run in
    let q = c.args.codes.now in
    let m = g.S.Store.meaning c.args.store.now in
    let m' = g.S.Store.meaning c.walk-last.new.store in
    let sound = g.met.S.Store.sound c.args.store.now in
    let last = c.walk-last.result in
    let bound = c.walk-last.ensures.bound in
    let up = bound.0 in
    let e = c.renewed_record.new.self in
    let w = c.walk-last.new.self in
    let kept = c.renewed_record.ensures.rules in
    let same = c.walk-last.ensures.rules ∙ kept in
    let walked : (h : History) → Represents S ls a m h → Done S ls a m' w.rec.now run last m.limit h q =
    λ h rep.
    by_rules d e kept (λ t n. Begun S t n (g.S.Store.meaning c.keep.new.store) e.rec.now e.previous.now run m.limit h q → Done S t n m' w.rec.now run last m.limit h q) (c.walk-last.ensures.done m.limit h q)
    (begun S ls a m (g.S.Store.meaning c.keep.new.store) e.rec.now e.previous.now run h q (length e.rec.now) sound (wide_by d e kept) (c.in_ok-renewed_record.ensures.after h rep) c.keep.ensures.after) in
    record {
      value = λ h rep.
          let free = none_from_unless (report_refusal S a h run q) tt tt (c.in_ok-renewed_record.ensures.value h rep) in
          let b = c.in_ok-renewed_record.ensures.after h rep in
          let done = walked h rep in
          let size = done.last_is in
          let count : last - run + 1 ≡ reach S ls run q h = omega arith in
          let some = b.reported.some in
          let most = b.reported.most in
          let one : 1 ≤ high h = omega arith in
          let codes = (report_since S a h run q free).1 in
          let x = record_of S ls (report run q ∷ h) (high h) in
          let truth =
          by_rules d w same (λ t n. Newest m' (length w.rec.now) last w.rec.now x → c.rule_truth-truth.result ≡ get_or (truths_of n (length t) x) (length t - 1) 0) (c.rule_truth-truth.ensures.value x)
          (newest_done S ls a h m rep sound one run q codes last (length w.rec.now) w.rec.now (wide_by d w same) m' (g.met.S.Store.sound c.walk-last.new.store) done)
          ∙ verdict_after S ls a h m rep sound one run q codes c.requires.some in
          (λ i. Ok (count i, truth i)) ∙ sym (ap (λ o. unless o (reach S ls run q h, verdict S ls (report run q ∷ h))) free);
      after = λ h rep.
          let free = none_from_unless (report_refusal S a h run q) tt tt (c.in_ok-renewed_record.ensures.value h rep) in
          (walked h rep).model_is ∙ sym (ap (λ o. meaning S ls a m.limit (added o (report run q) h)) free);
      reach = λ h rep.
          let done = walked h rep in
          let size = done.last_is in
          let count : last - run + 1 ≡ reach S ls run q h = omega arith in
          let reached : Reach S ls h run q (last - run + 1) =
          subst (Reach S ls h run q) (sym count) (reports_reach S g.met.K.Scale.holds a ls d.formed h run q (c.in_ok-renewed_record.ensures.after h rep).reported.most) in
          (reached, store_reach S ls a m.limit h run q m m' (last - run + 1) rep done.model_is reached);
      same = c.walk-last.ensures.same ∙ c.keep.ensures.same;
    }
