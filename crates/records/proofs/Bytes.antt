-- Parts of a record that are read and written, behind its first byte. Assumes nothing.
use Rattle.std.proofs.Common.{◌≡◌, ℕ, ◌+◌, ◌-◌, ◌*◌, ◌≤◌, List, [], ◌∷◌, ◌++◌, length, take, drop, set, replicate, sym, refl, ap, ◌∙◌, arith}
use native.Mathlib.Nat.{sub-zero}
use lib.Seq.{paste}
use borrow.Rule.Slice.PartMut.{put_mid, post_of}
use Rattle.std.proofs.lemmas.List.{append-nil, drop_all, drop-append-le, drop-take, length-take-le, length-drop, drop-replicate, replicate-append-replicate, take_rest}
use Rattle.meaning.specs.Records.{truths_of, renewed}

-- what lies behind the first byte, as a pattern has it
abbrev pub rest_of : List ℕ → List ℕ
rest_of x = take (length x - 1) (drop 1 x)

pub rest_is : (x : List ℕ) → rest_of x ≡ drop 1 x
rest_is x = take_rest x 1

-- a first byte and another rest
pub behind_first : (x y : List ℕ) → put_mid 1 (length x - 1) x y ≡ take 1 x ++ y
behind_first x y =
    let l = length-drop 1 x in
    ap (λ t. take 1 x ++ (y ++ t)) (drop_all (length x - 1) (drop 1 x) (omega arith)) ∙ ap (λ t. take 1 x ++ t) (append-nil y)

pub part_is : (x : List ℕ) (a n : ℕ) → take (a + n - a) (drop a (rest_of x)) ≡ truths_of a n x
part_is x a n = let k : a + n - a ≡ n = omega arith in (λ i. take (k i) (drop a (rest_is x i)))

-- the next state laid over the old, and the truths over the earlier ones
module _ (x y q q' : List ℕ) (l : ℕ) (long : length x ≡ 1 + length q + 2 * l) (same : q' ≡ q)
    (moved : y ≡ paste (rest_of x) (length q + l) (drop (length q) (rest_of x)) (length q + l - length q)) where
  rest_long : length (drop 1 x) ≡ length q + 2 * l
  rest_long = let d = length-drop 1 x in omega arith

  whole : y ≡ take (length q + l) (drop 1 x) ++ take l (drop (length q) (drop 1 x))
  whole =
      let a = length q in
      let n : a + l - a ≡ l = omega arith in
      let d = rest_long in
      moved ∙ (λ i. paste (rest_is x i) (a + l) (drop a (rest_is x i)) (n i))
      ∙ ap (λ t. (take (a + l) (drop 1 x) ++ take l (drop a (drop 1 x))) ++ t) (drop_all (a + l + l) (drop 1 x) (omega arith)) ∙ append-nil _

  back : drop (length q) y ≡ truths_of (length q) l x ++ truths_of (length q) l x
  back =
      let a = length q in
      let d = rest_long in
      let len = length-take-le (a + l) (drop 1 x) (omega arith) in
      ap (drop a) whole ∙ drop-append-le a (take (a + l) (drop 1 x)) (take l (drop a (drop 1 x))) (omega arith)
      ∙ ap (λ t. t ++ take l (drop a (drop 1 x))) (drop-take a l (drop 1 x))

  pub renewed_by : put_mid 1 (length x - 1) x (q' ++ post_of 0 (length q - 0) y) ≡ renewed l q x
  renewed_by =
      behind_first x _
      ∙ (λ i. take 1 x ++ (same i ++ drop (sub-zero (length q) i) y))
      ∙ ap (λ t. take 1 x ++ (q ++ t)) back

first_one : (x y : List ℕ) → 1 ≤ length x → set (take 1 x ++ y) 0 1 ≡ 1 ∷ y
first_one [] y l = absurd (omega arith)
first_one (b ∷ x) y l = refl

-- the record of a new run
pub laid_by : (x y q q' f : List ℕ) (l z : ℕ) → length x ≡ 1 + length q + 2 * l → f ≡ replicate (length (rest_of x)) z → q' ≡ q →
    y ≡ put_mid 1 (length x - 1) x (q' ++ post_of 0 (length q - 0) f) → set y 0 1 ≡ 1 ∷ (q ++ (replicate l z ++ replicate l z))
laid_by x y q q' f l z long filled same is =
    let d = length-drop 1 x in
    let n : length (rest_of x) - length q ≡ l + l = let e = ap length (rest_is x) in omega arith in
    ap (λ t. set t 0 1) (is ∙ behind_first x _) ∙ first_one x _ (omega arith)
    ∙ (λ i. 1 ∷ (same i ++ drop (sub-zero (length q) i) (filled i)))
    ∙ ap (λ t. 1 ∷ (q ++ t)) (drop-replicate (length q) (length (rest_of x)) z ∙ ap (λ k. replicate k z) n ∙ sym (replicate-append-replicate l l z))
