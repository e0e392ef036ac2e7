-- The room's front fills with values, of all digits or of the first 64.
use Rattle.std.proofs.Common.{◌≡◌, ◌<◌, length, take, get_or, sym, ap, ◌∙◌, length-take, arith, rules}
use Rattle.std.proofs.lemmas.List.{get_or-take}
use Rattle.calls.proofs.Spellings.{values_more, values_kept}
use Rattle.calls.proofs.call.CodeDigits.codes.Goals as goal

pub loop-i-preserved : goal.loop-i-preserved
loop-i-preserved c =
    let xs = c.args.self.now.digits.now in
    let long = length-take c.min-count.result xs in
    let within : c.loop-i.i < length xs = omega (arith, long, c.loop-i-test.true) in
    let free : c.loop-i.i < length c.loop-i.room = search rules in
    let digit : get_or (take c.min-count.result xs) c.loop-i.i 0 ≡ get_or xs c.loop-i.i 0 = get_or-take c.min-count.result xs c.loop-i.i 0 (omega (arith, long, c.loop-i-test.true)) in
    rw (c.saturating_sub.ensures, digit) (values_more xs _ _ within free c.loop-i.invariant)

pub returns : goal.returns
returns c =
    let xs = c.args.self.now.digits.now in
    let long = length-take c.min-count.result xs in
    let all : c.loop-i.i ≡ c.min-count.result = omega (arith, long, c.loop-i-test.false, c.loop-i.auto.i-end, c.min-count.ensures) in
    ap (λ n. take n c.loop-i.room) (sym all) ∙ values_kept xs c.loop-i.room c.loop-i.i (all ∙ c.min-count.ensures) c.loop-i.invariant
