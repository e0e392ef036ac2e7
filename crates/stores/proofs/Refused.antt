-- What a store answers, by what is known of the call's numbers. Assumes nothing.
use Rattle.std.proofs.Common.{◌≡◌, ℕ, ◌<◌, ◌≤◌, ◌⊎◌, length, Some, None, arith}
use Rattle.std.proofs.lemmas.Bool.Decides.{nat_tests}
use Rattle.stores.specs.declared.fault.StoreFault.TheVariants.{Length, Run, Last, Full}
use Rattle.stores.specs.Meaning.{Meaning, high_of}
use Rattle.stores.specs.Refusals.{run_fault, record_fault, append_fault}

module _ (m : Meaning) where
  pub run_held : (run : ℕ) → m.low ≤ run → run ≤ high_of m → run_fault m run ≡ None
  run_held run a b = grind (arith, nat_tests)

  pub run_missed : (run : ℕ) → (run < m.low) ⊎ (high_of m < run) → run_fault m run ≡ Some (Run run)
  run_missed run h = grind (arith, nat_tests)

  pub length_missed : (run len : ℕ) → (len ≡ m.width → ⊥) → record_fault m run len ≡ Some (Length len)
  length_missed run len h = grind (arith, nat_tests)

  module _ (len : ℕ) (long : len ≡ m.width) where
    pub record_held : (run : ℕ) → m.low ≤ run → run ≤ high_of m → record_fault m run len ≡ None
    record_held run a b = grind (arith, nat_tests)

    pub record_missed : (run : ℕ) → (run < m.low) ⊎ (high_of m < run) → record_fault m run len ≡ Some (Run run)
    record_missed run h = grind (arith, nat_tests)

    pub append_last : high_of m ≡ 999999 → append_fault m len ≡ Some Last
    append_last h = grind (arith, nat_tests)

    pub append_full : (high_of m ≡ 999999 → ⊥) → length m.records ≡ m.limit → append_fault m len ≡ Some (Full m.limit)
    append_full h k = grind (arith, nat_tests)

    pub append_held : (high_of m ≡ 999999 → ⊥) → (length m.records ≡ m.limit → ⊥) → append_fault m len ≡ None
    append_held h k = grind (arith, nat_tests)

  pub append_missed : (len : ℕ) → (len ≡ m.width → ⊥) → append_fault m len ≡ Some (Length len)
  append_missed len h = grind (arith, nat_tests)
