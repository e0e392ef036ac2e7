-- A number of at most six digits is read digit by digit.
use Rattle.std.proofs.Common.{ap, ◌∙◌, subst, arith, rules}
use Rattle.std.specs.Str.Parse.{AllDigits, digits_value}
use Rattle.std.proofs.lemmas.List.{take_all}
use Rattle.std.proofs.lemmas.Int.Digits.{digits_more, digits_value_more}
use Rattle.std.proofs.lemmas.Str.Parse.{digit_at}
use Rattle.calls.proofs.Spellings.{room}
use Rattle.calls.proofs.call.parse_run.Goals as goal

pub returns-in_err-n : goal.returns-in_err-n
returns-in_err-n c = rw (c.from_residual.ensures) (λ n h.
    let digit = digit_at c.args.bytes.now c.loop-b.b-index h.all c.loop-b-test.true in
    omega (arith, (rw c.from.ensures at c.in_err-n.ensures.cases) digit.0 digit.1, digit.1))

pub overflow_mul-n : goal.overflow_mul-n
overflow_mul-n c = omega (arith, c.loop-b.invariant.1, room c.args.bytes.now c.loop-b.b-index c.loop-b.invariant.0 (omega arith) (omega arith))

pub overflow_add-n : goal.overflow_add-n
overflow_add-n c = omega (arith, c.in_ok-n.ensures.value, c.loop-b.invariant.1, room c.args.bytes.now c.loop-b.b-index c.loop-b.invariant.0 (omega arith) (omega arith))

pub loop-b-preserved : goal.loop-b-preserved
loop-b-preserved c =
    let xs = c.args.bytes.now in
    let i = c.loop-b.b-index in
    let digit = rw c.from.ensures at c.in_ok-n.ensures.value in (
      digits_more 10 _ _ c.loop-b-test.true c.loop-b.invariant.0 digit.0,
      omega (arith, digits_value_more 10 xs i c.loop-b-test.true, digit.1, c.loop-b.invariant.1),
    )

pub returns : goal.returns
returns c =
    let whole = take_all c.loop-b.b-index c.args.bytes.now c.loop-b-test.false in
    record {
      some = search rules;
      few = c.if-bytes-gt-MOST_RUN_DIGITS.false;
      all = subst (AllDigits 10) whole c.loop-b.invariant.0;
      writes = c.loop-b.invariant.1 ∙ ap (digits_value 10) whole;
    }
