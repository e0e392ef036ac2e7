-- There is room for what is left, and the lines before it are answered.
use Rattle.std.proofs.Common.{◌≡◌, ◌+◌, ◌≤◌, length, vec_items, vec_len, vec_capacity}
use Rattle.logic.specs.History.{History}
use Rattle.book.specs.Books.{Keeps}
use Rattle.calls.specs.Lines.{lines_left}
use Rattle.console.proofs.Replies.{SoFar}
use Rattle.console.proofs.answering.answer_lines.Given as goal

abbrev pub invariant-loop-number : goal.invariant-loop-number
invariant-loop-number g l =
    let S = g.K.Scale.algebra in
    let p = l.initial.book.policy in
    let m = g.S.Store.meaning l.initial.book.store in
    (vec_len l.out + length (lines_left l.number-iterator) ≤ vec_capacity l.out)
    × (l.book.policy ≡ p)
    × ((h : History) → Keeps S p m h → SoFar S p m.limit h (lines_left l.lines) (lines_left l.number-iterator) (vec_items l.initial.out) (vec_items l.out) (g.S.Store.meaning l.book.store))
