-- One line more at each turn, and none left at the end.
use Rattle.std.proofs.Common.{◌≡◌, [], ◌∷◌, ◌++◌, length, vec_items, ap, ◌∙◌, arith, rules}
use Rattle.calls.specs.Lines.{lines_left}
use Rattle.console.specs.Answering.{or_refused}
use Rattle.console.proofs.Replies.{one_more, ended}
use Rattle.console.proofs.answering.answer_lines.Goals as goal

pub loop-number-preserved : goal.loop-number-preserved
loop-number-preserved g c =
    let S = g.K.Scale.algebra in
    let p = c.args.book.now.policy in
    let m = g.S.Store.meaning c.args.book.now.store in
    let v = c.loop-number.invariant in
    let one = c.answer_line.ensures in
    let next = c.in-Some.ensures.steps in
    let said : c.unwrap_or_else-answer.result ≡ or_refused c.answer_line.result = search rules in
    let pushed = c.push_reserved.ensures in (
      omega (arith, v.0, ap length next, pushed.len, pushed.capacity),
      one.same ∙ v.1,
      λ h keeps. one_more S p m.limit h (lines_left c.args.lines) (vec_items c.args.out.now) c.loop-number.book.policy (lines_left c.loop-number.number-iterator) (lines_left c.next.new.self) c.in-Some.number c.in-Some.line.now (or_refused c.answer_line.result) (vec_items c.loop-number.out) (vec_items c.push_reserved.new.self) (g.S.Store.meaning c.loop-number.book.store) (g.S.Store.meaning c.answer_line.new.book.store) v.1 next (pushed.items ∙ ap (λ a. vec_items c.loop-number.out ++ a ∷ []) said) one.value (v.2 h keeps),
    )

pub returns : goal.returns
returns g c =
    let S = g.K.Scale.algebra in
    let p = c.args.book.now.policy in
    let m = g.S.Store.meaning c.args.book.now.store in
    λ h keeps. ended S p m.limit h (lines_left c.args.lines) (vec_items c.args.out.now) (lines_left c.loop-number.number-iterator) (vec_items c.loop-number.out) (g.S.Store.meaning c.loop-number.book.store) c.in-None.ensures.steps.0 (c.loop-number.invariant.2 h keeps)
