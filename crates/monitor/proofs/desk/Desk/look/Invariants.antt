use Rattle.std.proofs.Common.{◌≡◌, ℕ, ◌≤◌, max, List}
use Rattle.logic.specs.History.{History}
use Rattle.meaning.specs.Walking.{Looking, Seen}
use Rattle.monitor.proofs.desk.Desk.look.Given as goal

abbrev pub invariant-loop-last : goal.invariant-loop-last
invariant-loop-last g l =
    let d = l.initial.self in
    (l.run ≤ l.last)
    × (l.last ≤ max l.run l.newest)
    × (l.self.rules ≡ d.rules)
    × ((h : History) (q : List ℕ) → Looking g.K.Scale.algebra d.rules.table.now d.rules.atoms (g.S.Store.meaning l.store) d.rec.now d.previous.now l.run h q →
    Seen g.K.Scale.algebra d.rules.table.now l.self.rec.now l.self.previous.now l.run l.last h q)
