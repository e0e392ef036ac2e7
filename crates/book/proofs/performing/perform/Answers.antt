use Rattle.std.proofs.Common.{◌≡◌, [], map, vec_items, refl, sym, subst, rules}
use Rattle.lines.specs.Policies.{lines_of}
use Rattle.meaning.specs.Calls.{asked}
use Rattle.meaning.specs.Calls as call
use Rattle.clearness.specs.Clearness.{ClearerAnswers}
use Rattle.clearness.proofs.Clearness.{clearer_answered}
use Rattle.book.specs.Books.{answers}
use Rattle.book.proofs.performing.perform.Goals as goal

pub returns-clause-elsewhere : goal.returns-clause-elsewhere
returns-clause-elsewhere g c = λ other ds same k.
    let S = g.K.Scale.algebra in
    let p = c.args.policy in
    let m = g.S.Store.meaning c.args.store in
    let cs = map asked c.args.calls.now in
    let given : vec_items c.answer_each.new.out ≡ answers S p m [] cs = search rules in
    subst (λ x. ClearerAnswers S x (answers S p other [] ds)) (sym given)
    (subst (λ n. ClearerAnswers S (answers S p m [] cs) (call.answers S (lines_of p) p.atoms n [] ds)) (sym same)
    (clearer_answered S g.met.K.Scale.holds (lines_of p) p.atoms m.limit cs ds k))

pub returns-clause-clearer : goal.returns-clause-clearer
returns-clause-clearer g c = λ ds k. returns-clause-elsewhere g c (g.S.Store.meaning c.args.store) ds refl k
