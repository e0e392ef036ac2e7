-- Lines: cut one by one, and joined to the input again.
use Rattle.std.proofs.Common.{◌≡◌, ℕ, zero, suc, Bool, true, false, cond, eqb, List, [], ◌∷◌, ◌++◌, get_or, drop, Option, Some, None, MatchOption, Bor, sym, refl, ap, ◌∙◌, subst, append-nil, arith}
use Rattle.std.specs.List.{AllByRecursion}
use Rattle.std.specs.Option.{unwrap_or}
use Rattle.std.proofs.lemmas.Bool.{eqb-true, eqb-false, ne_eqb}
use Rattle.calls.specs.Input.{Lacks, CutAt}
use Rattle.calls.specs.Lines.{begin_with, lines_of, joined_lines, AreLines, LinesLaw, numbered}
use Rattle.calls.proofs.Cuts.{lacks_tail}

lacks_more : (z b : ℕ) (xs : List ℕ) → (b ≡ z → ⊥) → Lacks z xs → Lacks z (b ∷ xs)
lacks_more z b xs other h zero lt e = other e
lacks_more z b xs other h (suc k) lt e = h k (omega arith) e

-- no other byte ends a line
other_byte : (b : ℕ) (bs : List ℕ) → (b ≡ 10 → ⊥) → lines_of (b ∷ bs) ≡ begin_with b (lines_of bs)
other_byte b bs other = ap (λ t. cond t ([] ∷ lines_of bs) (begin_with b (lines_of bs))) (ne_eqb b 10 other)

one_line : (bs : List ℕ) → Lacks 10 bs → lines_of bs ≡ bs ∷ []
one_line [] h = refl
one_line (b ∷ bs) h = other_byte b bs (h 0 (omega arith)) ∙ ap (begin_with b) (one_line bs (lacks_tail 10 b bs h))

line_more : (line after : List ℕ) → Lacks 10 line → lines_of (line ++ (10 ∷ after)) ≡ line ∷ lines_of after
line_more [] after h = refl
line_more (b ∷ line) after h = other_byte b (line ++ (10 ∷ after)) (h 0 (omega arith)) ∙ ap (begin_with b) (line_more line after (lacks_tail 10 b line h))

cut_line : (bs line after : List ℕ) → CutAt 10 bs line after → (n : ℕ) → numbered n (lines_of bs) ≡ numbered n (line ∷ lines_of after)
cut_line bs line after cut n = ap (numbered n) (ap lines_of cut.0 ∙ line_more line after cut.1)

last_numbered : (n : ℕ) (line : List ℕ) → numbered n (line ∷ []) ≡ numbered n (line ∷ lines_of [])
last_numbered n [] = refl
last_numbered n (b ∷ bs) = refl

-- a line ends at byte 10, or with the input, behind which nothing stands
pub first_cut : (bs : List ℕ) (o : Option (Bor (List ℕ) × Bor (List ℕ))) (d r : Bor (List ℕ) × Bor (List ℕ)) → MatchOption o (Lacks 10 bs) (λ p. CutAt 10 bs p.0.now p.1.now) → d.0.now ≡ bs → d.1.now ≡ [] → r ≡ unwrap_or o d → (n : ℕ) → numbered n (lines_of bs) ≡ numbered n (r.0.now ∷ lines_of r.1.now)
first_cut bs (Some p) d r cut whole end is n = rw is (cut_line bs p.0.now p.1.now cut n)
first_cut bs None d r lacks whole end is n = rw (is, whole, end) (ap (numbered n) (one_line bs lacks) ∙ last_numbered n bs)

-- the lines of an input, with what holds of them
record Found (bs : List ℕ) : Type 0 where
  first : List ℕ
  others : List (List ℕ)
  found : lines_of bs ≡ first ∷ others
  are : AreLines bs first others

ended : (b : ℕ) (bs : List ℕ) → b ≡ 10 → Found bs → Found (b ∷ bs)
ended b bs is f = record {
  first = [];
  others = f.first ∷ f.others;
  found = ap (λ x. lines_of (x ∷ bs)) is ∙ ap (λ l. [] ∷ l) f.found;
  are = record {
    whole = ap (λ x. x ∷ bs) is ∙ ap (λ l. 10 ∷ l) f.are.whole;
    each = (λ k lt e. absurd (omega arith), f.are.each);
  };
}

longer : (b : ℕ) (bs : List ℕ) → (b ≡ 10 → ⊥) → Found bs → Found (b ∷ bs)
longer b bs other f = record {
  first = b ∷ f.first;
  others = f.others;
  found = other_byte b bs other ∙ ap (begin_with b) f.found;
  are = record {
    whole = ap (λ l. b ∷ l) f.are.whole;
    each = (lacks_more 10 b f.first other f.are.each.0, f.are.each.1);
  };
}

step : (b : ℕ) (bs : List ℕ) (t : Bool) → eqb b 10 ≡ t → Found bs → Found (b ∷ bs)
step b bs true e f = ended b bs (eqb-true b 10 e) f
step b bs false e f = longer b bs (eqb-false b 10 e) f

find : (bs : List ℕ) → Found bs
find [] = record { first = []; others = []; found = refl; are = record { whole = refl; each = (λ k lt e. absurd (omega arith), tt) } }
find (b ∷ bs) = step b bs (eqb b 10) refl (find bs)

again : (first : List ℕ) (others : List (List ℕ)) → AllByRecursion (Lacks 10) (first ∷ others) → lines_of (joined_lines first others) ≡ first ∷ others
again first [] each = ap lines_of (append-nil first) ∙ one_line first each.0
again first (m ∷ others) each = line_more first (joined_lines m others) each.0 ∙ ap (λ l. first ∷ l) (again m others each.1)

same_lines : (bs f g : List ℕ) (fs gs : List (List ℕ)) → f ∷ fs ≡ g ∷ gs → AreLines bs f fs → AreLines bs g gs
same_lines bs f g fs gs e a =
    let head : f ≡ g = ap (λ l. get_or l 0 []) e in
    let tail : fs ≡ gs = ap (drop 1) e in
    subst (λ l. AreLines bs l gs) head (subst (AreLines bs f) tail a)

pub lines_law : LinesLaw
lines_law bs first others = (
  λ e. same_lines bs (find bs).first first (find bs).others others (sym (find bs).found ∙ e) (find bs).are,
  λ a. ap lines_of a.whole ∙ again first others a.each,
)
