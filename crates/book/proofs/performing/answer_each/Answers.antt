use Rattle.std.proofs.Common.{[], get_or, vec_items, ◌∙◌, arith}
use Rattle.lines.specs.Policies.{lines_of}
use Rattle.meaning.specs.Calls.{asked, next}
use Rattle.book.proofs.Lists.{performed, answered_more}
use Rattle.meaning.specs.declared.call.Call.{Call}
use Rattle.meaning.specs.declared.call.Call.TheVariants.{Start}
use Rattle.book.proofs.performing.answer_each.Goals as goal

-- what a call is read as past the end of the list
abbrev none_there : Call
none_there = Start (record { ref_ptr = (0, 0); now = [] })

pub loop-call-preserved : goal.loop-call-preserved
loop-call-preserved g c =
    let S = g.K.Scale.algebra in
    let p = c.args.book.now.policy in
    let L = (g.S.Store.meaning c.args.book.now.store).limit in
    let v = c.loop-call.invariant in
    let one = c.answer-a.ensures in
    let calls = c.args.calls.now in
    let i = c.loop-call.call-index in
    let x = asked (get_or calls i none_there) in
    let pushed = c.push_reserved.ensures in
    let len = pushed.len in
    let was = v.0 in (
      omega arith,
      pushed.capacity ∙ v.1,
      one.same.0 ∙ v.2,
      one.same.1 ∙ v.3,
      one.same.2 ∙ v.4,
      λ h keeps.
          let w = v.5 h keeps in
          let q = performed S p L c.loop-call.book.policy (g.S.Store.meaning c.loop-call.book.store) (g.S.Store.meaning c.answer-a.new.self.store) w.0 x c.answer-a.result v.2 w.1 one.value one.after in
          let more = answered_more S p L calls i none_there (vec_items c.loop-call.out) (vec_items c.push_reserved.new.self) _ c.answer-a.result w.0 _ c.loop-call-test.true q.0 pushed.items w.2 w.3 in
          (next S (lines_of p) p.atoms L w.0 x, q.1, more.0, more.1),
    )
