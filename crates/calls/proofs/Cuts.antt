-- A cut at the first of a byte.
use Rattle.std.proofs.Common.{◌≡◌, ℕ, suc, ◌+◌, ◌≤◌, List, [], ◌∷◌, ◌++◌, length, take, sym, refl, ap, ◌∙◌, append_assoc, arith}
use Rattle.std.proofs.lemmas.List.{take_at, length_push}
use Rattle.calls.specs.Input.{Lacks, CutAt, Cut}

pub lacks_tail : (z x : ℕ) (xs : List ℕ) → Lacks z (x ∷ xs) → Lacks z xs
lacks_tail z x xs h k lt e = h (suc k) (omega arith) e

-- a cut at the full stop, with the stop in the first part
pub stop_kept : (xs words rest : List ℕ) → length xs ≤ 65536 → CutAt 46 xs words rest → Cut xs (take (length words + 1) xs) rest
stop_kept xs words rest short cut =
    let whole : xs ≡ (words ++ (46 ∷ [])) ++ rest = cut.0 ∙ sym (append_assoc words (46 ∷ []) rest) in
    let text : take (length words + 1) xs ≡ words ++ (46 ∷ []) = ap (take (length words + 1)) whole ∙ take_at (words ++ (46 ∷ [])) rest (length words + 1) (length_push words 46) in
    rw text (record { short = short; whole = whole; words = words; stop = refl; first = cut.1 })
