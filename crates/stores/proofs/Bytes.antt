-- Lists of bytes that are cut and laid over one another stay lists of bytes. Assumes nothing.
use Rattle.std.proofs.Common.{◌≡◌, ℕ, zero, suc, ◌+◌, ◌<◌, true, List, get_or, take, drop, replicate, Decides, refl, arith, w8, Fits}
use lib.Seq.{paste}
use Rattle.std.specs.List.{AllByRecursion}
use Rattle.std.proofs.ByRecursion.{All-append, All-take, All-drop, All-from_get_or, Decides-by_and}
use Rattle.std.proofs.lemmas.Bool.Decides.{Decides-ltb}
use Rattle.stores.specs.Bytes.{are_bytes}

abbrev pub Bytes : List ℕ → Type 0
Bytes bs = AllByRecursion (λ b. b < 256) bs

are_bytes_decides : (bs : List ℕ) → Decides (are_bytes bs) (Bytes bs)
are_bytes_decides = Decides-by_and _ (λ b. b < 256) are_bytes (λ b. Decides-ltb b 256) refl (λ _ _. refl)

pub bytes_from : (bs : List ℕ) → are_bytes bs ≡ true → Bytes bs
bytes_from bs = (are_bytes_decides bs).0

pub from_bytes : (bs : List ℕ) → Bytes bs → are_bytes bs ≡ true
from_bytes bs = (are_bytes_decides bs).1

-- what is known of the elements of a slice of u8
pub bytes_read : (bs : List ℕ) → ((i : ℕ) → Fits w8 (get_or bs i 0)) → Bytes bs
bytes_read bs h = All-from_get_or (λ b. b < 256) bs 0 (λ i _. (h i).fits)

pub bytes_zeros : (n : ℕ) → Bytes (replicate n 0)
bytes_zeros zero = tt
bytes_zeros (suc n) = (omega arith, bytes_zeros n)

pub bytes_part : (n m : ℕ) (bs : List ℕ) → Bytes bs → Bytes (take n (drop m bs))
bytes_part n m bs h = All-take (λ b. b < 256) n (drop m bs) (All-drop (λ b. b < 256) m bs h)

pub bytes_paste : (xs : List ℕ) (at : ℕ) (ys : List ℕ) (n : ℕ) → Bytes xs → Bytes ys → Bytes (paste xs at ys n)
bytes_paste xs at ys n hx hy =
    let P : ℕ → Type 0 = λ b. b < 256 in
    All-append P _ _ (All-append P _ _ (All-take P at xs hx) (All-take P n ys hy)) (All-drop P (at + n) xs hx)
