-- Whether a store can be made in a piece of memory, and for how many runs. Assumes nothing.
use Rattle.std.specs.Prelude.{ℕ, ◌+◌, ◌/◌, min, cond, ◌||◌, Ok, Err, Result, nat_lt}
use Rattle.stores.specs.declared.fault.StoreFault.{StoreFault}
use Rattle.stores.specs.declared.fault.StoreFault.TheVariants.{Unfit}

-- how many records of `width` bytes, each with `head` bytes beside it, find place in `size` bytes; at most 4096
abbrev pub limit_in : ℕ → ℕ → ℕ → ℕ
limit_in width head size = min (size / (width + head)) 4096

-- the limit of a store that can be made, or why none can
abbrev pub making : ℕ → ℕ → ℕ → Result ℕ StoreFault
making width head size =
    cond (nat_lt width 4 || nat_lt 289 width) (Err Unfit)
    (cond (nat_lt (limit_in width head size) 2) (Err Unfit) (Ok (limit_in width head size)))
