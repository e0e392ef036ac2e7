use Rattle.std.proofs.Common.{◌≡◌, ◌≤◌, ◌∷◌, ◌++◌, length, replicate, ap, ◌∙◌, arith}
use Rattle.logic.specs.History.{high, earlier_run}
use Rattle.logic.specs.Rows.{nos, row}
use Rattle.meaning.specs.Walking.{Judged}
use Rattle.meaning.proofs.Lows.{low_most}
use Rattle.meaning.proofs.Starts.{fresh_record}
use Rattle.monitor.proofs.Desks.{by_rules}
use Rattle.monitor.proofs.desk.Desk.fresh_record.Goals as goal

pub returns-clause-fresh : goal.returns-clause-fresh
returns-clause-fresh g c = λ h rep run.
    let S = g.K.Scale.algebra in
    let d = c.args.self.now.rules in
    let ls = d.table.now in
    let q = c.args.codes.now in
    let m = g.S.Store.meaning c.args.store.now in
    let e = c.row_before.new.self in
    let same = c.row_before.ensures.rules in
    let j = c.judge.new.self in
    let before =
    c.row_before.ensures.before h rep (λ l. let one : 1 ≤ high h = omega arith in let lo = low_most h one in omega arith) (omega arith)
    ∙ ap (earlier_run (nos S ls) (row S ls h)) run in
    let laid =
    by_rules d e same (λ t _. c.lay.new.rec ≡ 1 ∷ (q ++ (replicate (length t) c.no-no.result ++ replicate (length t) c.no-no.result))) c.lay.ensures.after
    ∙ ap (λ z. 1 ∷ (q ++ (replicate (length ls) z ++ replicate (length ls) z))) c.no-no.ensures.value in
    fresh_record S ls d.atoms m.limit h q (record { laws = g.met.K.Scale.holds; formed = d.formed }) c.requires c.lay.new.rec e.previous.now j.row.now j.rec.now laid before
    (by_rules d e same (λ t n. Judged S t n c.lay.new.rec e.previous.now j.row.now j.rec.now) c.judge.ensures.turned.judged)
