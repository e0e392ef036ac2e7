use Rattle.std.proofs.Common.{◌≡◌, ◌+◌, ◌<◌, ◌≤◌, length, sym, ◌∙◌, subst, arith}
use Rattle.stores.specs.Meaning.{high_of}
use Rattle.meaning.specs.Walking.{Writes, Sofar, Done}
use Rattle.meaning.proofs.Walks.{ended, stays, moves, same_high}
use Rattle.monitor.proofs.Desks.{wide_by, turned_by}
use Rattle.monitor.proofs.desk.Desk.walk.Goals as goal

pub loop-last-preserved : goal.loop-last-preserved
loop-last-preserved g c =
    let S = g.K.Scale.algebra in
    let d = c.args.self.now.rules in
    let e = c.loop-last.self in
    let s = c.loop-last.last in
    let lt : s < c.high-newest.result = c.loop-last-test.true in
    let inv = c.loop-last.invariant in
    let up = inv.0 in
    let m₀ = g.S.Store.meaning c.args.store.now in
    let m = g.S.Store.meaning c.loop-last.store in
    let out = c.turn.new.self.row.now in
    let rec = c.turn.new.self.rec.now in
    let len = length e.rec.now in (
      omega arith,
      omega arith,
      c.keep.ensures.same ∙ inv.2,
      c.pass_on.ensures.rules ∙ c.turn.ensures.rules ∙ inv.3,
      λ limit h q b.
          let f = inv.4 limit h q b in
          let inside : s < high_of m = subst (λ n. s < n) (c.high-newest.ensures.value ∙ same_high S d.table.now d.atoms m₀ _ _ c.args.run limit h q b m _ _ s f) lt in
          subst (λ x. Sofar S d.table.now d.atoms (g.S.Store.meaning c.keep.new.store) x c.pass_on.new.self.previous.now c.args.run (s + 1) limit h q) (sym c.pass_on.ensures.rec)
          (moves S d.table.now d.atoms m₀ _ _ c.args.run limit h q b m e.rec.now e.previous.now s (g.met.S.Store.sound c.loop-last.store) up f len out rec c.turn.result (wide_by d e inv.3) inside
          (turned_by d e inv.3 S m len (s + 1) e.previous.now out rec c.turn.result c.turn.ensures.turned)
          (g.S.Store.meaning c.keep.new.store) c.pass_on.new.self.previous.now c.if-turn.false
          (subst (λ n. Writes m (g.S.Store.meaning c.keep.new.store) n (s + 1) rec) (wide_by d c.turn.new.self (c.turn.ensures.rules ∙ inv.3) ∙ sym (wide_by d e inv.3)) c.keep.ensures.after)
          c.pass_on.ensures.passed),
    )

pub returns-then-turn-clause-done : goal.returns-then-turn-clause-done
returns-then-turn-clause-done g c = λ limit h q b.
    let S = g.K.Scale.algebra in
    let d = c.args.self.now.rules in
    let e = c.loop-last.self in
    let s = c.loop-last.last in
    let inv = c.loop-last.invariant in
    let m₀ = g.S.Store.meaning c.args.store.now in
    let m = g.S.Store.meaning c.loop-last.store in
    let out = c.turn.new.self.row.now in
    let rec = c.turn.new.self.rec.now in
    let f = inv.4 limit h q b in
    let inside : s < high_of m = subst (λ n. s < n) (c.high-newest.ensures.value ∙ same_high S d.table.now d.atoms m₀ _ _ c.args.run limit h q b m _ _ s f) c.loop-last-test.true in
    stays S d.table.now d.atoms m₀ _ _ c.args.run limit h q b m e.rec.now e.previous.now s (g.met.S.Store.sound c.loop-last.store) inv.0 f (length e.rec.now) out rec c.turn.result
    (wide_by d e inv.3) inside (turned_by d e inv.3 S m (length e.rec.now) (s + 1) e.previous.now out rec c.turn.result c.turn.ensures.turned) c.if-turn.true

pub returns-clause-done : goal.returns-clause-done
returns-clause-done g c = λ limit h q b.
    let S = g.K.Scale.algebra in
    let d = c.args.self.now.rules in
    let e = c.loop-last.self in
    let s = c.loop-last.last in
    let inv = c.loop-last.invariant in
    let lo = inv.0 in
    let hi = inv.1 in
    let over = c.loop-last-test.false in
    let max = c.max.ensures in
    let m₀ = g.S.Store.meaning c.args.store.now in
    let m = g.S.Store.meaning c.loop-last.store in
    let f = inv.4 limit h q b in
    let at : s ≡ c.max.result = omega arith in
    let above : high_of m ≤ s = subst (λ n. n ≤ s) (c.high-newest.ensures.value ∙ same_high S d.table.now d.atoms m₀ _ _ c.args.run limit h q b m _ _ s f) (omega arith) in
    subst (λ s. Done S d.table.now d.atoms m e.rec.now c.args.run s limit h q) at
    (ended S d.table.now d.atoms m₀ _ _ c.args.run limit h q b m e.rec.now e.previous.now s (g.met.S.Store.sound c.loop-last.store) inv.0 f above)
