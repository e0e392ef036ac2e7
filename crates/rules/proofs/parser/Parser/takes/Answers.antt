use Rattle.std.proofs.Common.{sym, refl, ap, ◌∙◌}
use Rattle.std.proofs.lemmas.Result.{err_from_is_err_and}
use Rattle.signs.specs.Signs.{kind_of, mark, found}
use Rattle.grammar.proofs.Sound.{mark_is}
use Rattle.rules.specs.Parts.{unread}
use Rattle.rules.proofs.parser.Parser.takes.Goals as goal

pub returns-in_err-placed : goal.returns-in_err-placed
returns-in_err-placed c =
    let y = err_from_is_err_and c.from_residual.result c.from_residual.ensures.1 in
    rw (y.1, y.2) (unread (sym c.in_err-placed.ensures.value))

pub returns-then-is_mark : goal.returns-then-is_mark
returns-then-is_mark c =
    let q = c.in_ok-placed.ensures in
    let k = kind_of c.in_ok-placed.placed.sign in
    let f = c.in_ok-placed.placed.from in
    record {
      from = f;
      is = sym q.value ∙ ap (λ v. found v f c.in_ok-placed.placed.to) (mark_is c.args.mark k (sym c.if-is_mark.ensures)) ∙ ap (found (mark c.args.mark) f) (sym q.place);
      text = q.text;
      names = refl;
      table = refl;
    }

pub returns : goal.returns
returns c = record {
  sign = kind_of c.in_ok-placed.placed.sign;
  from = c.in_ok-placed.placed.from;
  behind = c.in_ok-placed.placed.to;
  is = sym c.in_ok-placed.ensures.value;
  differs = sym c.if-is_mark.ensures;
  stays = refl;
}
