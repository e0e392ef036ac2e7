-- Lists of calls to a store, what it answers and what it means then: functions of its meaning alone. Assumes nothing.
use Rattle.std.specs.Prelude.{ℕ, cond, List, [], ◌∷◌, length, is_ok, Ok, Err, Result}
use Rattle.stores.specs.declared.fault.StoreFault.{StoreFault}
use Rattle.store_calls.specs.declared.call.StoreCall.{StoreCall}
use Rattle.store_calls.specs.declared.call.StoreCall.TheVariants.{Width, Limit, Low, High, Read, Write, Append, Forget}
use Rattle.store_calls.specs.declared.call.StoreAnswer.{StoreAnswer}
use Rattle.store_calls.specs.declared.call.StoreAnswer.TheVariants.{Number, Done}
use Rattle.stores.specs.Meaning.{Meaning, high_of, record_at, written, appended, forgotten}
use Rattle.stores.specs.Refusals.{answer, run_fault, record_fault, append_fault}

-- a call, with the bytes that it hands over
pub data Asked : Type 0 where
  ask_width : Asked
  ask_limit : Asked
  ask_low : Asked
  ask_high : Asked
  ask_read : ℕ → Asked
  ask_write : ℕ → List ℕ → Asked
  ask_append : List ℕ → Asked
  ask_forget : ℕ → Asked

abbrev pub asked : StoreCall → Asked
asked Width = ask_width
asked Limit = ask_limit
asked Low = ask_low
asked High = ask_high
asked (Read run) = ask_read run
asked (Write run rec) = ask_write run rec.now
asked (Append rec) = ask_append rec.now
asked (Forget run) = ask_forget run

-- what a store means, and the room that its reads fill
pub record Setting : Type 0 where
  pub meaning : Meaning
  pub room : List ℕ

abbrev pub setting : Meaning → List ℕ → Setting
setting m room = record { meaning = m; room = room }

abbrev pub answer_of : Result (Unit {0}) StoreFault → Result StoreAnswer StoreFault
answer_of (Ok u) = Ok Done
answer_of (Err f) = Err f

-- what is answered to a call, or why it is refused
abbrev pub answered : Setting → Asked → Result StoreAnswer StoreFault
answered s ask_width = Ok (Number s.meaning.width)
answered s ask_limit = Ok (Number s.meaning.limit)
answered s ask_low = Ok (Number s.meaning.low)
answered s ask_high = Ok (Number (high_of s.meaning))
answered s (ask_read run) = answer_of (answer (record_fault s.meaning run (length s.room)))
answered s (ask_write run rec) = answer_of (answer (record_fault s.meaning run (length rec)))
answered s (ask_append rec) = answer_of (answer (append_fault s.meaning (length rec)))
answered s (ask_forget run) = answer_of (answer (run_fault s.meaning run))

-- what an accepted call makes of a store and of the room
abbrev changed : Setting → Asked → Setting
changed s ask_width = s
changed s ask_limit = s
changed s ask_low = s
changed s ask_high = s
changed s (ask_read run) = setting s.meaning (record_at s.meaning run)
changed s (ask_write run rec) = setting (written s.meaning run rec) s.room
changed s (ask_append rec) = setting (appended s.meaning rec) s.room
changed s (ask_forget run) = setting (forgotten s.meaning run) s.room

-- how they stand after a call; a refusal changes nothing
abbrev pub after_call : Setting → Asked → Setting
after_call s c = cond (is_ok (answered s c)) (changed s c) s

abbrev pub after_calls : Setting → List Asked → Setting
after_calls s [] = s
after_calls s (c ∷ cs) = after_calls (after_call s c) cs

-- each answer, and the room behind it
abbrev pub answers : Setting → List Asked → List (Result StoreAnswer StoreFault × List ℕ)
answers s [] = []
answers s (c ∷ cs) = (answered s c, (after_call s c).room) ∷ answers (after_call s c) cs
