-- When a book refuses a call after a history, with which fault, and the number, layer and place of each fault.
-- Assumes nothing.
use Rattle.std.specs.Prelude.{ℕ, ◌+◌, ◌-◌, cond, ◌||◌, List, [], ◌∷◌, length, Some, None, Option, ◌==◌, nat_lt}
use Rattle.refusals.specs.declared.refusal.Layer.TheVariants.{Book}
use Rattle.refusals.specs.declared.refusal.Refusal.{Refusal}
use Rattle.scales.specs.Algebra.{Algebra}
use Rattle.lines.specs.declared.line.Line.{Line}
use Rattle.logic.specs.History.{History, high, opened}
use Rattle.stores.specs.declared.fault.StoreFault.TheVariants.{Last, Full}
use Rattle.stores.specs.Meaning.{Meaning, high_of}
use Rattle.stores.specs.Refusals as store
use Rattle.meaning.specs.declared.fault.BookFault.{BookFault}
use Rattle.meaning.specs.declared.fault.BookFault.TheVariants.{Width, Holding, Count, Code, NoRun, Closed, NoRuns, Gone, NoLine, Store}
use Rattle.meaning.specs.Records.{width}
use Rattle.meaning.specs.Kept.{low}

-- a refusal of the book's layer
abbrev in_book : ℕ → ℕ → Refusal
in_book number place = record { number = number; layer = Book; place = place }

-- the number, layer and place of each fault; what the store found keeps its own
abbrev pub refusal_of : BookFault → Refusal
refusal_of (Width w) = in_book 10 w
refusal_of (Holding run) = in_book 11 run
refusal_of (Count n) = in_book 20 n
refusal_of (Code i) = in_book 21 i
refusal_of (NoRun run) = in_book 22 run
refusal_of (Closed run) = in_book 23 run
refusal_of NoRuns = in_book 26 0
refusal_of (Gone run) = in_book 27 run
refusal_of (NoLine line) = in_book 28 line
refusal_of (Store f) = store.refusal_of f

-- the first of two refusals that holds
abbrev pub or_else : Option BookFault → Option BookFault → Option BookFault
or_else None o = o
or_else (Some f) o = Some f

-- a book is opened on a store: 10 its width is not the policy's, 11 it is not empty
abbrev pub opening_refusal : List Line → ℕ → Meaning → Option BookFault
opening_refusal ls atoms m =
    cond (m.width == width atoms ls) (cond (high_of m == 0) None (Some (Holding (high_of m)))) (Some (Width m.width))

-- 21 the first of the codes that is none, where the first is the one at i
abbrev pub first_bad : Algebra → List ℕ → ℕ → Option BookFault
first_bad S [] i = None
first_bad S (c ∷ cs) i = cond (S.code c) (first_bad S cs (i + 1)) (Some (Code i))

-- 20 not as many as atoms, 21 not all codes
abbrev pub codes_refusal : Algebra → ℕ → List ℕ → Option BookFault
codes_refusal S atoms q = cond (length q == atoms) (first_bad S q 0) (Some (Count (length q)))

-- 22 no run of this number has started, by the newest that has
abbrev pub run_refusal : ℕ → ℕ → Option BookFault
run_refusal newest run = cond (run == 0 || nat_lt newest run) (Some (NoRun run)) None

-- 22, and 23 the run is closed, its record gone or not: close
abbrev pub open_refusal : History → ℕ → Option BookFault
open_refusal h run = or_else (run_refusal (high h) run) (cond (opened h run) None (Some (Closed run)))

-- 22, 23, 20, 21: report, preview
abbrev pub report_refusal : Algebra → ℕ → History → ℕ → List ℕ → Option BookFault
report_refusal S atoms h run q = or_else (open_refusal h run) (codes_refusal S atoms q)

-- what the store finds: 25 no number is left, 24 as many runs are kept as its limit
abbrev pub room_refusal : ℕ → History → Option BookFault
room_refusal limit h =
    cond (high h == 999999) (Some (Store Last)) (cond (high h + 1 - low h == limit) (Some (Store (Full limit))) None)

-- 20, 21, 25, 24: start
abbrev pub start_refusal : Algebra → ℕ → ℕ → History → List ℕ → Option BookFault
start_refusal S atoms limit h q = or_else (codes_refusal S atoms q) (room_refusal limit h)

-- 26 no run yet: verdict
abbrev pub verdict_refusal : History → Option BookFault
verdict_refusal h = cond (high h == 0) (Some NoRuns) None

-- 22, 27 the run's record is gone, 28 no such line: truth
abbrev pub truth_refusal : List Line → History → ℕ → ℕ → Option BookFault
truth_refusal ls h run line =
    or_else (run_refusal (high h) run) (cond (nat_lt run (low h)) (Some (Gone run)) (cond (nat_lt line (length ls)) None (Some (NoLine line))))
