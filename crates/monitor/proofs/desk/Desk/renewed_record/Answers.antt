use Rattle.std.proofs.Common.{◌≡◌, ◌-◌, ◌≤◌, length, Some, None, Ok, Err, sym, ap, ◌∙◌, subst, arith}
use Rattle.logic.specs.History.{high}
use Rattle.meaning.specs.Records.{renewed}
use Rattle.meaning.specs.Refusals.{codes_refusal, open_refusal, report_refusal}
use Rattle.meaning.specs.Calls.{unless}
use Rattle.meaning.specs.Walking.{Judged, Looking}
use Rattle.meaning.proofs.Lows.{low_open}
use Rattle.meaning.proofs.Owns.{reported, looking}
use Rattle.meaning.proofs.Refusals.{none_from_unless, some_from_unless, passed_on, open_since, long_since, report_by_run, report_by_codes}
use Rattle.monitor.proofs.Desks.{by_rules, wide_by}
use Rattle.monitor.proofs.desk.Desk.renewed_record.Goals as goal

pub returns-in_err-read_open-clause-value : goal.returns-in_err-read_open-clause-value
returns-in_err-read_open-clause-value g c = λ h rep.
    let S = g.K.Scale.algebra in
    let d = c.args.self.now.rules in
    let run = c.args.run in
    let f = c.in_err-read_open.field-0.0 in
    let long = wide_by d c.row_before.new.self c.row_before.ensures.rules in
    passed_on c.from_residual.result (report_refusal S d.atoms h run c.args.codes.now) tt f c.from_residual.ensures.1
    (report_by_run S d.atoms h run c.args.codes.now f (some_from_unless (open_refusal h run) tt f (c.in_err-read_open.ensures.value S d.table.now d.atoms h rep long)))

pub returns-in_err-check_codes-clause-value : goal.returns-in_err-check_codes-clause-value
returns-in_err-check_codes-clause-value g c = λ h rep.
    let S = g.K.Scale.algebra in
    let d = c.args.self.now.rules in
    let run = c.args.run in
    let q = c.args.codes.now in
    let r = c.from_residual-in_err-check_codes in
    let f = c.in_err-check_codes.field-0.0 in
    let e = c.row_before.new.self in
    let same = c.row_before.ensures.rules in
    passed_on r.result (report_refusal S d.atoms h run q) tt f r.ensures.1
    (report_by_codes S d.atoms h run q (Some f)
    (none_from_unless (open_refusal h run) tt tt (c.in_ok-read_open.ensures.value S d.table.now d.atoms h rep (wide_by d e same)))
    (some_from_unless (codes_refusal S d.atoms q) tt f (by_rules d e same (λ _ a. Err f ≡ unless (codes_refusal S a q) tt) c.in_err-check_codes.ensures.value)))

pub returns-clause-value : goal.returns-clause-value
returns-clause-value g c = λ h rep.
    let S = g.K.Scale.algebra in
    let d = c.args.self.now.rules in
    let run = c.args.run in
    let q = c.args.codes.now in
    let e = c.row_before.new.self in
    let same = c.row_before.ensures.rules in
    let good = none_from_unless (codes_refusal S d.atoms q) tt tt (by_rules d e same (λ _ a. Ok tt ≡ unless (codes_refusal S a q) tt) c.in_ok-check_codes.ensures.value) in
    sym (ap (λ o. unless o tt)
    (report_by_codes S d.atoms h run q None (none_from_unless (open_refusal h run) tt tt (c.in_ok-read_open.ensures.value S d.table.now d.atoms h rep (wide_by d e same))) good))

pub returns-clause-after : goal.returns-clause-after
returns-clause-after g c = λ h rep.
    let S = g.K.Scale.algebra in
    let d = c.args.self.now.rules in
    let ls = d.table.now in
    let run = c.args.run in
    let q = c.args.codes.now in
    let e = c.row_before.new.self in
    let same = c.row_before.ensures.rules in
    let long = wide_by d e same in
    let good = none_from_unless (codes_refusal S d.atoms q) tt tt (by_rules d e same (λ _ a. Ok tt ≡ unless (codes_refusal S a q) tt) c.in_ok-check_codes.ensures.value) in
    let since = open_since h run (none_from_unless (open_refusal h run) tt tt (c.in_ok-read_open.ensures.value S ls d.atoms h rep long)) in
    let most = since.1 in
    let inside : run - 1 ≤ high h = omega arith in
    let ok = reported S ls d.atoms run h (record { laws = g.met.K.Scale.holds; formed = d.formed }) since.0 since.1 since.2 in
    let out = c.judge.new.self.row.now in
    let rec = c.judge.new.self.rec.now in
    subst (λ x. Looking S ls d.atoms (g.S.Store.meaning c.args.store.now) x c.pass_on.new.self.previous.now run h q) (sym c.pass_on.ensures.rec)
    (looking S ls d.atoms h (g.S.Store.meaning c.args.store.now) rep (g.met.S.Store.sound c.args.store.now) run q ok (long_since S d.atoms q good) c.renew.new.rec e.previous.now out rec
    (by_rules d e same (λ t _. c.renew.new.rec ≡ renewed (length t) q c.read_open.new.rec) c.renew.ensures.after ∙ ap (renewed (length ls) q) (c.in_ok-read_open.ensures.after S ls d.atoms h rep long))
    (c.row_before.ensures.before h rep (low_open h run since.0 since.1 since.2).1 inside)
    (by_rules d e same (λ t a. Judged S t a c.renew.new.rec e.previous.now out rec) c.judge.ensures.turned.judged)
    c.pass_on.new.self.previous.now c.pass_on.ensures.passed)
