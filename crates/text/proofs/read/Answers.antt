-- The answers hand the parser's to the lemmas of Telling.
use Rattle.std.proofs.Common.{Err, sym, ap, ◌∙◌, subst, arith}
use Rattle.std.proofs.lemmas.Result.{err_from_is_err_and}
use Rattle.lines.specs.Stands.{well_formed}
use Rattle.rules.specs.Parts.{lines_in}
use Rattle.text.specs.declared.fault.TextFault.TheVariants.{Lines}
use Rattle.text.specs.Texts.{told, Right}
use Rattle.text.proofs.Telling.{formed_here, some_lines, told_policy, right_policy, told_many, right_many, told_refused, right_refused}
use Rattle.text.proofs.read.Goals as goal

pub returns-in_err-parse : goal.returns-in_err-parse
returns-in_err-parse c =
    let y = err_from_is_err_and c.from_residual.result c.from_residual.ensures.1 in
    let r = c.in_err-parse.ensures in
    rw (y.1, y.2) (record { value = told_refused c.args.text.now c.new.ensures.text r; right = right_refused c.args.text.now c.new.ensures.text r })

pub new-requires-4 : goal.new-requires-4
new-requires-4 c =
    let q = c.parse.new.parser in
    let a = c.in_ok-parse.ensures in
    record {
      named = (omega (arith, c.count.ensures, a.some), omega (arith, c.count.ensures, q.names.few));
      lined = some_lines c.args.text.now c.new.ensures.text a;
      formed = ap (λ v. well_formed v 0 (lines_in q)) c.count.ensures ∙ formed_here c.args.text.now c.new.ensures.text a;
    }

pub returns-in_err-policy : goal.returns-in_err-policy
returns-in_err-policy c =
    let y = err_from_is_err_and c.from_residual-in_err-policy.result c.from_residual-in_err-policy.ensures.1 in
    let a = c.in_ok-parse.ensures in
    let m = c.in_err-policy.ensures in
    let e = y.2 ∙ ap Lines m.1 in
    rw y.1 (record {
      value = ap (λ v. told c.args.text.now (Err v)) e ∙ told_many c.args.text.now c.new.ensures.text a m.0;
      right = subst (λ v. Right c.args.text.now (Err v)) (sym e) (right_many c.args.text.now c.new.ensures.text a m.0);
    })

pub returns : goal.returns
returns c =
    let a = c.in_ok-parse.ensures in
    let m = c.in_ok-policy.ensures in
    record {
      value = told_policy c.args.text.now c.new.ensures.text a m.0 c.in_ok-policy.policy m.2;
      right = right_policy c.args.text.now c.new.ensures.text a m.0 c.in_ok-policy.policy m.2 (m.1 ∙ c.count.ensures);
    }
