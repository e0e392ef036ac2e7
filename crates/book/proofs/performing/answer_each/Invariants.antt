use Rattle.std.proofs.Common.{◌≡◌, ◌+◌, ◌++◌, map, drop, vec_items, vec_len, vec_capacity}
use Rattle.lines.specs.Policies.{lines_of}
use Rattle.logic.specs.History.{History}
use Rattle.meaning.specs.Kept.{meaning}
use Rattle.meaning.specs.Calls.{asked, answers, after}
use Rattle.book.specs.Books.{Keeps}
use Rattle.book.proofs.performing.answer_each.Given as goal

-- what is left, from the history so far, gives what the whole list gives; and there is room for it
abbrev pub invariant-loop-call : goal.invariant-loop-call
invariant-loop-call g l =
    let S = g.K.Scale.algebra in
    let p = l.initial.book.policy in
    let ls = lines_of p in
    let m = g.S.Store.meaning l.initial.book.store in
    (vec_len l.out ≡ vec_len l.initial.out + l.call-index)
    × (vec_capacity l.out ≡ vec_capacity l.initial.out)
    × (l.book.policy ≡ p)
    × (l.book.scale ≡ l.initial.book.scale)
    × (g.S.Store.size l.book.store ≡ g.S.Store.size l.initial.book.store)
    × ((h : History) → Keeps S p m h → (k : History)
    × (g.S.Store.meaning l.book.store ≡ meaning S ls p.atoms m.limit k)
    × (vec_items l.out ++ answers S ls p.atoms m.limit k (map asked (drop l.call-index l.calls)) ≡ vec_items l.initial.out ++ answers S ls p.atoms m.limit h (map asked l.calls))
    × (after S ls p.atoms m.limit k (map asked (drop l.call-index l.calls)) ≡ after S ls p.atoms m.limit h (map asked l.calls)))
