-- Whether the bytes so far are all digits.
use Rattle.std.proofs.Common.{◌≡◌, take}
use Rattle.std.specs.List.{list_all}
use Rattle.readings.specs.Digits.{is_digit, paired}
use Rattle.readings.proofs.digits.check_digits.Given as goal

abbrev pub invariant-loop-b : goal.invariant-loop-b
invariant-loop-b l = l.all ≡ list_all is_digit (take l.b-index (paired l.bytes))
