-- A scale with two unknown codes, of which or keeps the left one. Assumes nothing.
use Rattle.std.specs.Prelude.{◌-◌, cond, ◌||◌, ◌==◌, nat_le, nat_lt}
use Rattle.scales.specs.Algebra.{Algebra}
use Rattle.scales.specs.Scales.{on_codes}

-- 0 for no, 1 for yes, 2 and 3 for two unknowns; not changes one unknown into the other
abbrev pub sided : Algebra
sided = on_codes (record {
  code = λ a. nat_lt a 4;
  no = 0;
  yes = 1;
  not = λ a. cond (nat_le 2 a) (5 - a) (1 - a);
  or = λ a b. cond (a == 1 || b == 1) 1 (cond (a == 0) b a);
  clear = λ b a. nat_le 2 a || (b == a);
})
