-- The front of the room holds the values of as many digits.
use Rattle.std.proofs.Common.{◌≡◌, take}
use Rattle.calls.specs.Spelling.{digit_values}
use Rattle.calls.proofs.call.CodeDigits.codes.Given as goal

abbrev pub invariant-loop-i : goal.invariant-loop-i
invariant-loop-i l = take l.i l.room ≡ digit_values (take l.i l.self.digits.now)
