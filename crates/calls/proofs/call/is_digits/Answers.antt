-- Either all bytes pass, or one is no digit.
use Rattle.std.proofs.Common.{rules}
use borrow.Author.Tests.{tests}
use Rattle.std.specs.Int.{IsInRange, IsOutOfRange}
use Rattle.std.proofs.lemmas.Iterator.{cases_from_all, YieldsList-from_slice}
use Rattle.calls.proofs.Spellings.{digits_told}
use Rattle.calls.proofs.call.is_digits.Goals as goal

pub returns : goal.returns
returns c = digits_told _ _ (cases_from_all _ _ _ (λ x. IsInRange 48 57 x) (λ x. IsOutOfRange 48 57 x) c.all.ensures.ran (YieldsList-from_slice c.args.bytes.now cc) (λ x q k. search (rules, tests)) (λ x q k. search (rules, tests)))
