-- Each way out is one of the ways in which an input is answered.
use Rattle.std.proofs.Common.{vec_items}
use Rattle.console.proofs.Outputs.{rest_short, of_policy}
use Rattle.console.proofs.respond.Goals as goal

pub answer_all-requires : goal.answer_all-requires
answer_all-requires c = rest_short c.args.input.now c.in-Ok.rest.now c.in-Ok.policy c.in-Ok.ensures

pub returns-in-Ok : goal.returns-in-Ok
returns-in-Ok c = of_policy c.args.input.now c.in-Ok.rest.now c.in-Ok.policy (vec_items c.answer_all.result) c.in-Ok.ensures c.answer_all.ensures
