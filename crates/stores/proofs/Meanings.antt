-- Records dropped bit by bit. Assumes nothing.
use Rattle.std.proofs.Common.{◌≡◌, ℕ, ◌+◌, ◌-◌, ◌≤◌, List, drop, ap, ◌∙◌, arith}
use Rattle.std.proofs.lemmas.List.{drop-drop}
use Rattle.stores.specs.Meaning.{Meaning, forgotten}

abbrev with_records : Meaning → ℕ → List (List ℕ) → Meaning
with_records m low rs = record { width = m.width; limit = m.limit; low = low; records = rs }

pub forgotten_none : (m : Meaning) → forgotten m m.low ≡ m
forgotten_none m = let none : m.low - m.low ≡ 0 = omega arith in ap (λ k. with_records m m.low (drop k m.records)) none

pub forgotten_more : (m : Meaning) (a b : ℕ) → m.low ≤ a → a ≤ b → forgotten (forgotten m a) b ≡ forgotten m b
forgotten_more m a b low le =
    let sum : a - m.low + (b - a) ≡ b - m.low = omega arith in
    ap (with_records m b) (drop-drop (b - a) (a - m.low) m.records ∙ ap (λ k. drop k m.records) sum)
