-- The plain and the open scale. Assumes nothing.
use Rattle.std.specs.Prelude.{◌-◌, cond, ◌&&◌, ◌||◌, ◌==◌, nat_lt}
use Rattle.scales.specs.Algebra.{Algebra}

-- S on its codes alone: with anything else, not and or give no, and nothing is as clear
abbrev pub on_codes : Algebra → Algebra
on_codes S = record {
  code = S.code;
  no = S.no;
  yes = S.yes;
  not = λ a. cond (S.code a) (S.not a) S.no;
  or = λ a b. cond (S.code a && S.code b) (S.or a b) S.no;
  clear = λ b a. (S.code b && S.code a) && S.clear b a;
}

-- 0 for no and 1 for yes; a code is as clear only as itself
abbrev pub plain : Algebra
plain = on_codes (record {
  code = λ a. nat_lt a 2;
  no = 0;
  yes = 1;
  not = λ a. 1 - a;
  or = λ a b. cond (a == 1 || b == 1) 1 0;
  clear = λ b a. (b == a);
})

-- 0 for no, 1 for yes and 2 for unknown; every code is as clear as unknown and as itself
abbrev pub with_unknown : Algebra
with_unknown = on_codes (record {
  code = λ a. nat_lt a 3;
  no = 0;
  yes = 1;
  not = λ a. cond (a == 2) 2 (1 - a);
  or = λ a b. cond (a == 1 || b == 1) 1 (cond (a == 0 && b == 0) 0 2);
  clear = λ b a. (a == 2) || (b == a);
})
