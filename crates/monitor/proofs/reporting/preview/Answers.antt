use Rattle.std.proofs.Common.{◌≡◌, ◌-◌, ◌≤◌, ◌∷◌, length, get_or, Ok, sym, ap, ◌∙◌, arith}
use Rattle.logic.specs.History.{report, high}
use Rattle.logic.specs.Rows.{verdict}
use Rattle.meaning.specs.Records.{record_of, truths_of}
use Rattle.meaning.specs.Refusals.{report_refusal}
use Rattle.meaning.specs.Calls.{unless}
use Rattle.meaning.specs.Walking.{Looking, Looked, Newest}
use Rattle.meaning.proofs.Refusals.{none_from_unless, report_since}
use Rattle.meaning.proofs.Verdicts.{verdict_after, newest_looked}
use Rattle.monitor.proofs.Desks.{by_rules, wide_by}
use Rattle.monitor.proofs.reporting.preview.Goals as goal

pub returns : goal.returns
returns g c = record {
  value = λ h rep.
      let S = g.K.Scale.algebra in
      let d = c.args.rules in
      let ls = d.table.now in
      let run = c.args.run in
      let q = c.args.codes.now in
      let m = g.S.Store.meaning c.args.store.now in
      let sound = g.met.S.Store.sound c.args.store.now in
      let last = c.look-last.result in
      let e = c.renewed_record.new.self in
      let w = c.look-last.new.self in
      let same = c.look-last.ensures.rules ∙ c.renewed_record.ensures.rules in
      let free = none_from_unless (report_refusal S d.atoms h run q) tt tt (c.in_ok-renewed_record.ensures.value h rep) in
      let b = c.in_ok-renewed_record.ensures.after h rep in
      let some = b.reported.some in
      let most = b.reported.most in
      let one : 1 ≤ high h = omega arith in
      let codes = (report_since S d.atoms h run q free).1 in
      let x = record_of S ls (report run q ∷ h) (high h) in
      let looked = by_rules d e c.renewed_record.ensures.rules (λ t a. Looking S t a m e.rec.now e.previous.now run h q → Looked S t w.rec.now run last h q) (c.look-last.ensures.looked h q) b in
      ap Ok (by_rules d w same (λ t a. Newest m (length w.rec.now) last w.rec.now x → c.rule_truth-truth.result ≡ get_or (truths_of a (length t) x) (length t - 1) 0) (c.rule_truth-truth.ensures.value x)
      (newest_looked S ls d.atoms h m rep sound one run q codes last (length w.rec.now) w.rec.now (wide_by d w same) looked)
      ∙ verdict_after S ls d.atoms h m rep sound one run q codes c.requires.some)
      ∙ sym (ap (λ o. unless o (verdict S ls (report run q ∷ h))) free);
}
