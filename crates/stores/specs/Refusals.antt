-- When a store refuses a call, with which fault, and the number, layer and place of each fault. Assumes nothing.
use Rattle.std.specs.Prelude.{ℕ, cond, ◌||◌, length, Some, None, Ok, Err, Option, Result, ◌==◌, nat_lt}
use Rattle.refusals.specs.declared.refusal.Layer.TheVariants.{Store}
use Rattle.refusals.specs.declared.refusal.Refusal.{Refusal}
use Rattle.stores.specs.declared.fault.StoreFault.{StoreFault}
use Rattle.stores.specs.declared.fault.StoreFault.TheVariants.{Unfit, Length, Run, Last, Full}
use Rattle.stores.specs.Meaning.{Meaning, high_of}

-- a refusal of the store's layer
abbrev in_store : ℕ → ℕ → Refusal
in_store number place = record { number = number; layer = Store; place = place }

-- the number, layer and place of each fault
abbrev pub refusal_of : StoreFault → Refusal
refusal_of Unfit = in_store 12 0
refusal_of (Length len) = in_store 31 len
refusal_of (Run run) = in_store 30 run
refusal_of Last = in_store 25 999999
refusal_of (Full limit) = in_store 24 limit

-- what a call answers that gives nothing back
abbrev pub answer : Option StoreFault → Result (Unit {0}) StoreFault
answer None = Ok tt
answer (Some f) = Err f

-- a run is asked for that is not held: forget
abbrev pub run_fault : Meaning → ℕ → Option StoreFault
run_fault m run = cond (nat_lt run m.low || nat_lt (high_of m) run) (Some (Run run)) None

-- a run's record is asked for or replaced: read, write; `len` is the length of the room or of the record
abbrev pub record_fault : Meaning → ℕ → ℕ → Option StoreFault
record_fault m run len = cond (len == m.width) (run_fault m run) (Some (Length len))

-- one record more: append
abbrev pub append_fault : Meaning → ℕ → Option StoreFault
append_fault m len =
    cond (len == m.width)
    (cond (high_of m == 999999) (Some Last)
    (cond (length m.records == m.limit) (Some (Full m.limit)) None))
    (Some (Length len))
