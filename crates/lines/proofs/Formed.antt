-- The table of a form over declared atoms is well-formed.
use Rattle.std.proofs.Common.{◌≡◌, ℕ, suc, ◌+◌, ◌<◌, ◌≤◌, Bool, true, ◌&&◌, ltb, List, [], ◌∷◌, ◌++◌, length, sym, refl, ap, ◌∙◌, add-zero, arith}
use Rattle.std.proofs.lemmas.Bool.{and_from, and_parts, lt-ltb}
use Rattle.lines.specs.declared.line.Prefix.{Prefix}
use Rattle.lines.specs.declared.line.Prefix.TheVariants as single
use Rattle.lines.specs.declared.line.Infix.{Infix}
use Rattle.lines.specs.declared.line.Infix.TheVariants as pair
use Rattle.lines.specs.declared.line.Line.{Line}
use Rattle.lines.specs.Forms.{Form, atom, no, yes, prefixed, joined, declared}
use Rattle.lines.specs.Stands.{fits, well_formed}
use Rattle.lines.specs.Tables.{leading_lines, closing_lines, middle_lines, ending_lines, leading_count, middle_count, before_last, lines}
use Rattle.lines.proofs.Writing.{length_lines}

pub formed_append : (n k m : ℕ) (xs ys : List Line) → well_formed n k xs ≡ true → m ≡ k + length xs → well_formed n m ys ≡ true → well_formed n k (xs ++ ys) ≡ true
formed_append n k m [] ys p e q = ap (λ v. well_formed n v ys) (sym (e ∙ add-zero k)) ∙ q
formed_append n k m (x ∷ xs) ys p e q =
    and_from (fits n k x) (well_formed n (suc k) (xs ++ ys)) (and_parts _ _ p).0 (formed_append n (suc k) m xs ys (and_parts _ _ p).1 (omega arith) q)

formed_leading : (n k : ℕ) (o : Prefix) → well_formed n k (leading_lines o) ≡ true
formed_leading n k single.Not = refl
formed_leading n k single.YL = refl
formed_leading n k single.OL = refl
formed_leading n k single.HL = refl
formed_leading n k single.YG = refl
formed_leading n k single.OG = refl
formed_leading n k single.HG = refl

above : (i k : ℕ) (b : Bool) → i < k → b ≡ true → (ltb i k && b) ≡ true
above i k b h e = and_from (ltb i k) b (lt-ltb i k h) e

two_above : (i j k : ℕ) (b : Bool) → i < k → j < k → b ≡ true → ((ltb i k && ltb j k) && b) ≡ true
two_above i j k b h l e = and_from (ltb i k && ltb j k) b (and_from (ltb i k) (ltb j k) (lt-ltb i k h) (lt-ltb j k l)) e

-- the lines behind a part whose last line is i, where line m comes next
formed_closing : (n k i m : ℕ) (o : Prefix) → m ≡ i + 1 → k ≤ i → well_formed n m (closing_lines o k i) ≡ true
formed_closing n k i m single.Not e h = above i m true (omega arith) refl
formed_closing n k i m single.YL e h = above i m true (omega arith) refl
formed_closing n k i m single.OL e h = two_above k i m true (omega arith) (omega arith) refl
formed_closing n k i m single.HL e h = above i m _ (omega arith) (two_above k (i + 1) (suc m) _ (omega arith) (omega arith) (above (i + 2) (suc (suc m)) true (omega arith) refl))
formed_closing n k i m single.YG e h = above i m true (omega arith) refl
formed_closing n k i m single.OG e h = two_above k i m true (omega arith) (omega arith) refl
formed_closing n k i m single.HG e h = above i m _ (omega arith) (two_above k (i + 1) (suc m) _ (omega arith) (omega arith) (above (i + 2) (suc (suc m)) true (omega arith) refl))

formed_middle : (n i m : ℕ) (o : Infix) → m ≡ i + 1 → well_formed n m (middle_lines o i) ≡ true
formed_middle n i m pair.SL e = refl
formed_middle n i m pair.SG e = refl
formed_middle n i m pair.And e = above i m true (omega arith) refl
formed_middle n i m pair.Or e = refl
formed_middle n i m pair.Implies e = above i m true (omega arith) refl

formed_ending : (n i j m : ℕ) (o : Infix) → m ≡ j + 1 → i ≤ j → well_formed n m (ending_lines o i j) ≡ true
formed_ending n i j m pair.SL e h = two_above i j m true (omega arith) (omega arith) refl
formed_ending n i j m pair.SG e h = two_above i j m true (omega arith) (omega arith) refl
formed_ending n i j m pair.And e h = above j m _ (omega arith) (two_above i (j + 1) (suc m) _ (omega arith) (omega arith) (above (j + 2) (suc (suc m)) true (omega arith) refl))
formed_ending n i j m pair.Or e h = two_above i j m true (omega arith) (omega arith) refl
formed_ending n i j m pair.Implies e h = two_above i j m true (omega arith) (omega arith) refl

length_middle : (o : Infix) (i : ℕ) → length (middle_lines o i) ≡ middle_count o
length_middle pair.SL i = refl
length_middle pair.SG i = refl
length_middle pair.And i = refl
length_middle pair.Or i = refl
length_middle pair.Implies i = refl

pub formed_lines : (n k : ℕ) (f : Form) → declared n f ≡ true → well_formed n k (lines k f) ≡ true
formed_lines n k (atom i) d = and_from _ true d refl
formed_lines n k no d = refl
formed_lines n k yes d = refl
formed_lines n k (prefixed o f) d =
    let l = k + leading_count o in
    formed_append n k l (leading_lines o) _ (formed_leading n k o) refl (
    formed_append n l (l + before_last f + 1) (lines l f) _ (formed_lines n l f d) (omega (arith, length_lines l f)) (
    formed_closing n k (l + before_last f) (l + before_last f + 1) o refl (omega arith)))
formed_lines n k (joined o f g) d =
    let i = k + before_last f in
    let l = i + 1 + middle_count o in
    let j = l + before_last g in
    formed_append n k (i + 1) (lines k f) _ (formed_lines n k f (and_parts _ _ d).0) (omega (arith, length_lines k f)) (
    formed_append n (i + 1) l (middle_lines o i) _ (formed_middle n i (i + 1) o refl) (omega (arith, length_middle o i)) (
    formed_append n l (j + 1) (lines l g) _ (formed_lines n l g (and_parts _ _ d).1) (omega (arith, length_lines l g)) (
    formed_ending n (i + middle_count o) j (j + 1) o refl (omega arith))))
