use Rattle.std.proofs.Common.{◌≡◌, map, take}
use Rattle.store_calls.specs.Calls.{asked, setting}
use Rattle.store_calls.proofs.Calls.{Performed}
use Rattle.store_calls.proofs.performing.agree.Given as goal

abbrev pub invariant-loop-call : goal.invariant-loop-call
invariant-loop-call g l =
    Performed (setting (g.S.Store.meaning l.initial.one) l.initial.a) (setting (g.T.Store.meaning l.initial.other) l.initial.b)
    (map asked (take l.call-index l.calls))
    (setting (g.S.Store.meaning l.one) l.a) (setting (g.T.Store.meaning l.other) l.b) l.alike
    × (g.S.Store.size l.one ≡ g.S.Store.size l.initial.one)
    × (g.T.Store.size l.other ≡ g.T.Store.size l.initial.other)
