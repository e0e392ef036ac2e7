-- A part of a list overwritten, where the list is known by its parts. Assumes nothing.
use Rattle.std.proofs.Common.{◌≡◌, ℕ, ◌+◌, ◌-◌, ◌≤◌, List, ◌++◌, length, take, drop, replicate, sym, ap, ◌∙◌, append_assoc, arith, length-append}
use lib.Seq.{paste}
use Rattle.std.proofs.lemmas.List.Edits.{paste_all}
use Rattle.std.proofs.lemmas.List.{take_at, drop_at, take-take, replicate-append-replicate}

-- x, behind a, is overwritten by y
pub paste_part : (a x r y : List ℕ) (p n : ℕ) → length a ≡ p → length x ≡ n → length y ≡ n → paste (a ++ (x ++ r)) p y n ≡ a ++ (y ++ r)
paste_part a x r y p n la lx ly =
    let behind : drop (p + n) (a ++ (x ++ r)) ≡ r = ap (drop (p + n)) (sym (append_assoc a x r)) ∙ drop_at (a ++ x) r (p + n) (length-append a x ∙ (λ i. la i + lx i)) in
    paste_all (a ++ (x ++ r)) p y n (sym ly) ∙ (λ i. take_at a (x ++ r) p la i ++ (y ++ behind i))

-- the part x of a list, behind a
pub part_of : (a x r : List ℕ) (p n : ℕ) → length a ≡ p → length x ≡ n → take n (drop p (a ++ (x ++ r))) ≡ x
part_of a x r p n la lx = ap (take n) (drop_at a (x ++ r) p la) ∙ take_at x r n lx

pub zeros : (n k : ℕ) → k ≤ n → (z : ℕ) × (replicate n 0 ≡ replicate {A = ℕ} k 0 ++ replicate z 0)
zeros n k le = (n - k, ap (λ i. replicate i 0) (omega arith) ∙ sym (replicate-append-replicate k (n - k) 0))

-- only so much of what is laid over counts
pub paste_take : (d s : List ℕ) (at n : ℕ) → paste d at s n ≡ paste d at (take n s) n
paste_take d s at n = ap (λ l. take at d ++ l ++ drop (at + n) d) (sym (take-take n n s (omega arith)))
