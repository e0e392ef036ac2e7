use Rattle.std.proofs.Common.{◌≡◌, ◌+◌, ◌<◌, ◌≤◌, length, sym, ◌∙◌, subst, arith}
use Rattle.meaning.specs.Walking.{Looked, Seen}
use Rattle.meaning.proofs.Walks.{look_ended, look_stays, look_moves}
use Rattle.monitor.proofs.Desks.{wide_by, turned_by}
use Rattle.monitor.proofs.desk.Desk.look.Goals as goal

pub loop-last-preserved : goal.loop-last-preserved
loop-last-preserved g c =
    let S = g.K.Scale.algebra in
    let d = c.args.self.now.rules in
    let e = c.loop-last.self in
    let m = g.S.Store.meaning c.args.store.now in
    let s = c.loop-last.last in
    let inv = c.loop-last.invariant in
    let up = inv.0 in
    let lt = c.loop-last-test.true in
    let out = c.turn.new.self.row.now in
    let rec = c.turn.new.self.rec.now in (
      omega arith,
      omega arith,
      c.pass_on.ensures.rules ∙ c.turn.ensures.rules ∙ inv.2,
      λ h q b.
          subst (λ x. Seen S d.table.now x c.pass_on.new.self.previous.now c.args.run (s + 1) h q) (sym c.pass_on.ensures.rec)
          (look_moves S d.table.now d.atoms m _ _ c.args.run h q (g.met.S.Store.sound c.args.store.now) b e.rec.now e.previous.now s up (inv.3 h q b) (length e.rec.now) out rec c.turn.result
          (wide_by d e inv.2) (subst (λ n. s < n) c.high-newest.ensures.value lt)
          (turned_by d e inv.2 S m (length e.rec.now) (s + 1) e.previous.now out rec c.turn.result c.turn.ensures.turned)
          c.pass_on.new.self.previous.now c.pass_on.ensures.passed),
    )

pub returns-then-turn-clause-looked : goal.returns-then-turn-clause-looked
returns-then-turn-clause-looked g c = λ h q b.
    let S = g.K.Scale.algebra in
    let d = c.args.self.now.rules in
    let e = c.loop-last.self in
    let m = g.S.Store.meaning c.args.store.now in
    let s = c.loop-last.last in
    let inv = c.loop-last.invariant in
    let out = c.turn.new.self.row.now in
    let rec = c.turn.new.self.rec.now in
    look_stays S d.table.now d.atoms m _ _ c.args.run h q (g.met.S.Store.sound c.args.store.now) b e.rec.now e.previous.now s inv.0 (inv.3 h q b) (length e.rec.now) out rec c.turn.result
    (wide_by d e inv.2) (subst (λ n. s < n) c.high-newest.ensures.value c.loop-last-test.true)
    (turned_by d e inv.2 S m (length e.rec.now) (s + 1) e.previous.now out rec c.turn.result c.turn.ensures.turned) c.if-turn.true

pub returns-clause-looked : goal.returns-clause-looked
returns-clause-looked g c = λ h q b.
    let S = g.K.Scale.algebra in
    let d = c.args.self.now.rules in
    let e = c.loop-last.self in
    let m = g.S.Store.meaning c.args.store.now in
    let inv = c.loop-last.invariant in
    let lo = inv.0 in
    let hi = inv.1 in
    let over = c.loop-last-test.false in
    let max = c.max.ensures in
    let at : c.loop-last.last ≡ c.max.result = omega arith in
    subst (λ s. Looked S d.table.now e.rec.now c.args.run s h q) at
    (look_ended S d.table.now d.atoms m _ _ c.args.run h q (g.met.S.Store.sound c.args.store.now) b e.rec.now e.previous.now c.loop-last.last (inv.3 h q b)
    (subst (λ n. n ≤ c.loop-last.last) c.high-newest.ensures.value (omega arith)))
