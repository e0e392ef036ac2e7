-- Hexadecimal in small digits, two a byte. Assumes nothing.
use Rattle.std.specs.Prelude.{ℕ, Bool, ◌&&◌, ◌||◌, ◌-◌, ◌%◌, ◌==◌, nat_le, cond, List, length, take, codes, Result, Ok, Err}
use Rattle.std.specs.List.{list_all}
use Rattle.readings.specs.declared.digits.DigitFault.{DigitFault}
use Rattle.readings.specs.declared.digits.DigitFault.TheVariants.{NoDigit, OddCount}

-- 0 to 9 and a to f
abbrev pub is_digit : ℕ → Bool
is_digit b = (nat_le 48 b && nat_le b 57) || (nat_le 97 b && nat_le b 102)

-- the bytes that have a partner
abbrev pub paired : List ℕ → List ℕ
paired bs = take (length bs - length bs % 2) bs

abbrev pub digits_checked : List ℕ → Result (Unit {0}) DigitFault
digits_checked bs = cond (list_all is_digit (paired bs)) (cond (length bs % 2 == 0) (Ok tt) (Err OddCount)) (Err NoDigit)

abbrev pub fault_written : DigitFault → List ℕ
fault_written NoDigit = codes "no hexadecimal digit"
fault_written OddCount = codes "an odd number of digits"
