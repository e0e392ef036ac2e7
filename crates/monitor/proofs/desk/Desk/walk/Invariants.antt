use Rattle.std.proofs.Common.{◌≡◌, ℕ, ◌≤◌, max, List}
use Rattle.logic.specs.History.{History}
use Rattle.meaning.specs.Walking.{Begun, Sofar}
use Rattle.monitor.proofs.desk.Desk.walk.Given as goal

abbrev pub invariant-loop-last : goal.invariant-loop-last
invariant-loop-last g l =
    let d = l.initial.self in
    (l.run ≤ l.last)
    × (l.last ≤ max l.run l.newest)
    × (g.S.Store.size l.store ≡ g.S.Store.size l.initial.store)
    × (l.self.rules ≡ d.rules)
    × ((limit : ℕ) (h : History) (q : List ℕ) → Begun g.K.Scale.algebra d.rules.table.now d.rules.atoms (g.S.Store.meaning l.initial.store) d.rec.now d.previous.now l.run limit h q →
    Sofar g.K.Scale.algebra d.rules.table.now d.rules.atoms (g.S.Store.meaning l.store) l.self.rec.now l.self.previous.now l.run l.last limit h q)
