-- When a call is refused, by what is known of the store and the call's numbers. Assumes nothing.
use Rattle.std.proofs.Common.{◌≡◌, ℕ, ◌+◌, ◌-◌, ◌<◌, ◌≤◌, Bool, true, false, cond, eqb, ltb, List, [], length, Some, None, Ok, Err, Option, Result, IsErrAnd, sym, refl, ap, ◌∙◌, inl, inr, arith}
use Rattle.std.proofs.lemmas.Option.{none-some}
use Rattle.std.proofs.lemmas.Result.{err_from_is_err_and}
use Rattle.std.proofs.lemmas.List.FromFn.{length-map-range_with_len}
use Rattle.std.proofs.lemmas.List.{nil_from_length}
use Rattle.std.proofs.lemmas.Bool.{cases_Bool, cases_eq, ne_eqb}
use Rattle.std.proofs.lemmas.Bool.Decides.{nat_tests}
use Rattle.scales.specs.Algebra.{Algebra}
use Rattle.stores.specs.declared.fault.StoreFault.{StoreFault}
use Rattle.stores.specs.declared.fault.StoreFault.TheVariants.{Last, Full}
use Rattle.stores.specs.Meaning.{Meaning, Sound, high_of}
use Rattle.stores.specs.Refusals as store
use Rattle.lines.specs.declared.line.Line.{Line}
use Rattle.logic.specs.History.{History, high, opened}
use Rattle.meaning.specs.declared.fault.BookFault.{BookFault}
use Rattle.meaning.specs.declared.fault.BookFault.TheVariants.{Count, Closed, Gone, NoLine, Store}
use Rattle.meaning.specs.Records.{record_of, width}
use Rattle.meaning.specs.Kept.{low, meaning, Represents}
use Rattle.meaning.specs.Refusals.{or_else, opening_refusal, first_bad, codes_refusal, run_refusal, open_refusal, report_refusal, room_refusal, start_refusal, truth_refusal}
use Rattle.meaning.specs.Calls.{unless}
use Rattle.meaning.specs.Walking.{Reads, is_open}
use Rattle.meaning.proofs.Closes.{flag_one}
use Rattle.meaning.proofs.Lows.{low_open}
use Rattle.meaning.proofs.Owns.{kept_record}
use Rattle.meaning.proofs.Walks.{highs, lows, wide}

-- what a result says of the refusal
pub none_from_unless : {A : Type 0} (o : Option BookFault) (x y : A) → ◌≡◌ {A = Result A BookFault} (Ok y) (unless o x) → o ≡ None
none_from_unless None x y e = refl
none_from_unless (Some f) x y e = let z : ◌≡◌ {A = ℕ} 0 1 = cc in absurd (omega arith)

pub some_from_unless : {A : Type 0} (o : Option BookFault) (x : A) (f : BookFault) → ◌≡◌ {A = Result A BookFault} (Err f) (unless o x) → o ≡ Some f
some_from_unless None x f e = let z : ◌≡◌ {A = ℕ} 0 1 = cc in absurd (omega arith)
some_from_unless (Some g) x f e = cc

-- a refusal that `?` passes on
pub passed_on : {A : Type 0} (r : Result A BookFault) (o : Option BookFault) (x : A) (f : BookFault) → IsErrAnd r (λ e. e ≡ f) → o ≡ Some f → r ≡ unless o x
passed_on r o x f h e = let p = err_from_is_err_and r h in p.1 ∙ ap Err p.2 ∙ sym (ap (λ q. unless q x) e)

pub none_from_answer : (o : Option StoreFault) → ◌≡◌ {A = Result (Unit {0}) StoreFault} (Ok tt) (store.answer o) → o ≡ None
none_from_answer None e = refl
none_from_answer (Some f) e = let z : ◌≡◌ {A = ℕ} 0 1 = cc in absurd (omega arith)

pub some_from_answer : (o : Option StoreFault) (f : StoreFault) → ◌≡◌ {A = Result (Unit {0}) StoreFault} (Err f) (store.answer o) → o ≡ Some f
some_from_answer None f e = let z : ◌≡◌ {A = ℕ} 0 1 = cc in absurd (omega arith)
some_from_answer (Some g) f e = cc

-- a meaning under the limit that it has
pub represents : (S : Algebra) (ls : List Line) (atoms limit : ℕ) (m : Meaning) (h : History) → m ≡ meaning S ls atoms limit h → Represents S ls atoms m h
represents S ls atoms limit m h e = e ∙ ap (λ k. meaning S ls atoms k h) (sym (ap (λ (x : Meaning). x.limit) e))

-- a run that there is
pub run_there : (newest run : ℕ) → run_refusal newest run ≡ None → (1 ≤ run) × (run ≤ newest)
run_there newest run e = (grind (arith, nat_tests), grind (arith, nat_tests))

pub run_taken : (newest run : ℕ) → 1 ≤ run → run ≤ newest → run_refusal newest run ≡ None
run_taken newest run a b = grind (arith, nat_tests)

pub or_none : (a b : Option BookFault) → or_else a b ≡ None → (a ≡ None) × (b ≡ None)
or_none None b e = (refl, e)
or_none (Some f) b e = absurd (none-some f (sym e))

-- what is known of a run that is open, and of codes that are a state
pub open_since : (h : History) (run : ℕ) → open_refusal h run ≡ None → (1 ≤ run) × (run ≤ high h) × (opened h run ≡ true)
open_since h run e =
    let parts = or_none (run_refusal (high h) run) (cond (opened h run) None (Some (Closed run))) e in
    let there = run_there (high h) run parts.0 in (
      there.0,
      there.1,
      elim (cases_Bool (opened h run)) [
        | inl up ↦ up
        | inr down ↦ absurd (none-some (Closed run) (sym (sym (ap (λ b. cond b None (Some (Closed run))) down) ∙ parts.1)))
      ],
    )

pub long_since : (S : Algebra) (atoms : ℕ) (q : List ℕ) → codes_refusal S atoms q ≡ None → length q ≡ atoms
long_since S atoms q e = elim (cases_eq (length q) atoms) [
  | inl same ↦ same
  | inr other ↦ absurd (none-some (Count (length q)) (sym (sym (ap (λ b. cond b (first_bad S q 0) (Some (Count (length q)))) (ne_eqb (length q) atoms other)) ∙ e)))
]

module _ (S : Algebra) (ls : List Line) (atoms : ℕ) (h : History) (m : Meaning) (rep : Represents S ls atoms m h) (sound : Sound m) where
  hi : high_of m ≡ high h
  hi = highs S ls atoms m.limit h m (record_of S ls h) rep sound

  lo : m.low ≡ low h
  lo = lows S ls atoms m.limit h m (record_of S ls h) rep sound

  module _ (run : ℕ) where
    pub run_by : (o : Option BookFault) → run_refusal (high_of m) run ≡ o → run_refusal (high h) run ≡ o
    run_by o e = ap (λ n. run_refusal n run) (sym hi) ∙ e

    pub open_by_run : (f : BookFault) → run_refusal (high_of m) run ≡ Some f → open_refusal h run ≡ Some f
    open_by_run f e = ap (λ o. or_else o (cond (opened h run) None (Some (Closed run)))) (run_by (Some f) e)

    module _ (there : run_refusal (high_of m) run ≡ None) where
      by_flag : (b : Bool) → opened h run ≡ b → open_refusal h run ≡ cond b None (Some (Closed run))
      by_flag b e = ap (λ o. or_else o (cond (opened h run) None (Some (Closed run)))) (run_by None there) ∙ ap (λ v. cond v None (Some (Closed run))) e

      inside : (1 ≤ run) × (run ≤ high h)
      inside = run_there (high h) run (run_by None there)

      pub open_below : run < m.low → open_refusal h run ≡ Some (Closed run)
      open_below l =
          let k = lo in
          by_flag false (elim (cases_Bool (opened h run)) [
            | inl e ↦ let z = (low_open h run inside.0 inside.1 e).0 in absurd (omega arith)
            | inr e ↦ e
          ])

      module _ (len : ℕ) (rec : List ℕ) (kept : m.low ≤ run) (long : len ≡ width atoms ls) (read : Reads m len run rec) where
        pub read_record : rec ≡ record_of S ls h run
        read_record = let k = lo in kept_record S ls atoms h m rep sound run len rec (omega arith) inside.1 long read

        flag_is : is_open rec ≡ opened h run
        flag_is = ap is_open read_record ∙ flag_one (opened h run)

        pub open_down : is_open rec ≡ false → open_refusal h run ≡ Some (Closed run)
        open_down e = by_flag false (sym flag_is ∙ e)

        pub open_up : is_open rec ≡ true → open_refusal h run ≡ None
        open_up e = by_flag true (sym flag_is ∙ e)

      -- truth
      pub truth_below : (line : ℕ) → run < m.low → truth_refusal ls h run line ≡ Some (Gone run)
      truth_below line l = let k = lo in truth_by line (cond (ltb line (length ls)) None (Some (NoLine line))) (omega arith) refl
        where
          truth_by : (line : ℕ) (o : Option BookFault) → run < low h → o ≡ cond (ltb line (length ls)) None (Some (NoLine line)) → truth_refusal ls h run line ≡ Some (Gone run)
          truth_by line o l e = ap (λ p. or_else p (cond (ltb run (low h)) (Some (Gone run)) (cond (ltb line (length ls)) None (Some (NoLine line))))) (run_by None there) ∙ grind (arith, nat_tests)

      pub truth_held : (line : ℕ) → m.low ≤ run → truth_refusal ls h run line ≡ cond (ltb line (length ls)) None (Some (NoLine line))
      truth_held line l =
          let k = lo in
          let l' : low h ≤ run = omega arith in
          ap (λ p. or_else p (cond (ltb run (low h)) (Some (Gone run)) (cond (ltb line (length ls)) None (Some (NoLine line))))) (run_by None there)
          ∙ ap (λ b. cond b (Some (Gone run)) (cond (ltb line (length ls)) None (Some (NoLine line)))) (le_false run (low h) l')
        where
          le_false : (a b : ℕ) → b ≤ a → ltb a b ≡ false
          le_false a b e = grind (arith, nat_tests)

    pub truth_by_run : (line : ℕ) (f : BookFault) → run_refusal (high_of m) run ≡ Some f → truth_refusal ls h run line ≡ Some f
    truth_by_run line f e = ap (λ o. or_else o (cond (ltb run (low h)) (Some (Gone run)) (cond (ltb line (length ls)) None (Some (NoLine line))))) (run_by (Some f) e)

-- a report
module _ (S : Algebra) (atoms : ℕ) (h : History) (run : ℕ) (q : List ℕ) where
  pub report_by_run : (f : BookFault) → open_refusal h run ≡ Some f → report_refusal S atoms h run q ≡ Some f
  report_by_run f e = ap (λ o. or_else o (codes_refusal S atoms q)) e

  pub report_since : report_refusal S atoms h run q ≡ None → (open_refusal h run ≡ None) × (length q ≡ atoms)
  report_since e = let parts = or_none (open_refusal h run) (codes_refusal S atoms q) e in (parts.0, long_since S atoms q parts.1)

  pub report_by_codes : (o : Option BookFault) → open_refusal h run ≡ None → codes_refusal S atoms q ≡ o → report_refusal S atoms h run q ≡ o
  report_by_codes o e k = ap (λ x. or_else x (codes_refusal S atoms q)) e ∙ k

-- a start: what the store finds comes up inside the book's fault
abbrev pub turned : Option StoreFault → Option BookFault
turned None = None
turned (Some f) = Some (Store f)

room_by : (m : Meaning) (high n len : ℕ) → len ≡ m.width → high_of m ≡ high → length m.records ≡ n →
    turned (store.append_fault m len) ≡ cond (eqb high 999999) (Some (Store Last)) (cond (eqb n m.limit) (Some (Store (Full m.limit))) None)
room_by m high n len a b c = grind (arith, nat_tests)

pub room_is : (S : Algebra) (ls : List Line) (atoms : ℕ) (h : History) (m : Meaning) → Represents S ls atoms m h → Sound m → (len : ℕ) → len ≡ width atoms ls →
    turned (store.append_fault m len) ≡ room_refusal m.limit h
room_is S ls atoms h m rep sound len long =
    room_by m (high h) (high h + 1 - low h) len (long ∙ sym (wide S ls atoms m.limit h m (record_of S ls h) rep sound)) (highs S ls atoms m.limit h m (record_of S ls h) rep sound)
    (ap (λ (x : Meaning). length x.records) rep ∙ length-map-range_with_len (record_of S ls h) (low h) (high h + 1 - low h))

module _ (S : Algebra) (atoms limit : ℕ) (h : History) (q : List ℕ) where
  pub start_by_codes : (f : BookFault) → codes_refusal S atoms q ≡ Some f → start_refusal S atoms limit h q ≡ Some f
  start_by_codes f e = ap (λ o. or_else o (room_refusal limit h)) e

  pub start_by_room : (o : Option BookFault) → codes_refusal S atoms q ≡ None → room_refusal limit h ≡ o → start_refusal S atoms limit h q ≡ o
  start_by_room o e k = ap (λ x. or_else x (room_refusal limit h)) e ∙ k

-- an empty store of the right width represents the history of no events
pub represents_none : (S : Algebra) (ls : List Line) (atoms : ℕ) (m : Meaning) → Sound m → opening_refusal ls atoms m ≡ None → Represents S ls atoms m []
represents_none S ls atoms m sound e =
    let w : m.width ≡ width atoms ls = grind (arith, nat_tests) in
    let none-held : high_of m ≡ 0 = grind (arith, nat_tests) in
    let one = sound.first in
    let l : m.low ≡ 1 = omega arith in
    let none : m.records ≡ [] = nil_from_length m.records (omega arith) in
    let mk : ℕ → ℕ → List (List ℕ) → Meaning = λ a b c. record { width = a; limit = m.limit; low = b; records = c } in
    ap (λ a. mk a m.low m.records) w ∙ ap (λ b. mk (width atoms ls) b m.records) l ∙ ap (mk (width atoms ls) 1) none
