-- The line spells the call that was performed, or none.
use Rattle.std.proofs.Common.{rules}
use Rattle.std.proofs.lemmas.Result.{err_from_is_err_and}
use Rattle.calls.specs.Spelling.{said, Spells}
use Rattle.calls.proofs.Spellings.{all_codes}
use Rattle.console.proofs.Replies.{spelled, unspelled}
use Rattle.console.proofs.answering.answer_line.Goals as goal

pub returns-in_err-call-clause-value : goal.returns-in_err-call-clause-value
returns-in_err-call-clause-value g c =
    let m = g.S.Store.meaning c.args.book.now.store in
    let p = err_from_is_err_and c.from_residual.result c.from_residual.ensures.1 in
    rw (p.1) (unspelled g.K.Scale.algebra c.args.book.now.policy m c.args.number c.args.line.now c.parse_call.result c.in_err-call.field-0.0 _ c.parse_call.ensures c.in_err-call.ensures.value p.2)

pub answer_call-requires : goal.answer_call-requires
answer_call-requires g c = let spells : Spells (said c.in_ok-call.call) c.args.line.now = search rules in all_codes _ _ spells

pub returns-in_err-answer_call-clause-value : goal.returns-in_err-answer_call-clause-value
returns-in_err-answer_call-clause-value g c =
    let S = g.K.Scale.algebra in
    let m = g.S.Store.meaning c.args.book.now.store in
    let m₂ = g.S.Store.meaning c.answer_call.new.book.store in
    let spells : Spells (said c.in_ok-call.call) c.args.line.now = search rules in
    let p = err_from_is_err_and c.from_residual-in_err-answer_call.result c.from_residual-in_err-answer_call.ensures.1 in
    rw (p.1, p.2) (spelled S c.args.book.now.policy m c.args.number c.args.line.now (said c.in_ok-call.call) _ m₂ spells c.in_err-answer_call.ensures.value)

pub returns-clause-value : goal.returns-clause-value
returns-clause-value g c =
    let spells : Spells (said c.in_ok-call.call) c.args.line.now = search rules in
    spelled g.K.Scale.algebra c.args.book.now.policy (g.S.Store.meaning c.args.book.now.store) c.args.number c.args.line.now (said c.in_ok-call.call) _ (g.S.Store.meaning c.answer_call.new.book.store) spells c.in_ok-answer_call.ensures.value
