-- What it takes to write the lines of a form into a table that keeps the first 128.
use Rattle.std.proofs.Common.{◌≡◌, ℕ, zero, suc, ◌+◌, ◌<◌, ◌≤◌, ◌⊎◌, List, [], ◌∷◌, ◌++◌, length, take, set, sym, refl, ap, ◌∙◌, inl, inr, arith}
use Rattle.std.proofs.lemmas.List.{append-nil, append_assoc, take_all, take_at, take_more_set, length-append, length-take, length-take-le}
use Rattle.lines.specs.declared.line.Prefix.{Prefix}
use Rattle.lines.specs.declared.line.Prefix.TheVariants as single
use Rattle.lines.specs.declared.line.Infix.{Infix}
use Rattle.lines.specs.declared.line.Infix.TheVariants as pair
use Rattle.lines.specs.declared.line.Line.{Line}
use Rattle.lines.specs.declared.line.Line.TheVariants as line
use Rattle.lines.specs.Forms.{Form, atom, yes, no, prefixed, joined}
use Rattle.lines.specs.Tables.{leading_lines, closing_lines, middle_lines, ending_lines, leading_count, closing_count, middle_count, ending_count, before_last, lines}
use Rattle.lines.specs.Written.{Adds, Written}

pub take_on : {X : Type 0} (n : ℕ) (xs ys : List X) → take n (take n xs ++ ys) ≡ take n (xs ++ ys)
take_on zero xs ys = refl
take_on (suc n) [] ys = refl
take_on (suc n) (x ∷ xs) ys = ap (λ l. x ∷ l) (take_on n xs ys)

-- nothing is added
pub stays : (xs ls : List Line) (n : ℕ) → length xs ≡ 128 → ls ≡ [] → Adds (take n xs) ls (take n xs)
stays xs ls n all none = record { is = sym (ap (λ l. take 128 (take n xs ++ l)) none ∙ ap (take 128) (append-nil (take n xs)) ∙ take_all 128 (take n xs) (omega (arith, length-take n xs))) }

-- a line is kept, or comes too late
pub added_kept : (xs : List Line) (n : ℕ) (x : Line) → length xs ≡ 128 → n < 128 → Adds (take n xs) (x ∷ []) (take (n + 1) (set xs n x))
added_kept xs n x all h = record {
  is = take_more_set xs n x (omega arith) ∙ sym (take_all 128 (take n xs ++ x ∷ []) (omega (arith, length-append (take n xs) (x ∷ []), length-take-le n xs (omega arith))));
}

pub added_late : (xs : List Line) (n : ℕ) (x : Line) → length xs ≡ 128 → 128 ≤ n → Adds (take n xs) (x ∷ []) (take (n + 1) xs)
added_late xs n x all h = record {
  is = take_all (n + 1) xs (omega arith) ∙ sym (ap (λ l. take 128 (l ++ x ∷ [])) (take_all n xs (omega arith)) ∙ take_at xs (x ∷ []) 128 all);
}

-- one after the other
pub both : {xs us ys bs zs : List Line} → Adds xs us ys → Adds ys bs zs → Adds xs (us ++ bs) zs
both {xs} {us} {ys} {bs} {zs} e f = record { is = f.is ∙ ap (λ l. take 128 (l ++ bs)) e.is ∙ take_on 128 (xs ++ us) bs ∙ ap (take 128) (append_assoc xs us bs) }

pub as_same : {xs ys us bs : List Line} → Adds xs us ys → us ≡ bs → Adds xs bs ys
as_same {xs} {ys} {us} {bs} e f = record { is = e.is ∙ ap (λ l. take 128 (xs ++ l)) f }

-- the lines of one operation are few
pub prefix_few : (o : Prefix) → (leading_count o + closing_count o ≤ 4) × (1 ≤ closing_count o)
prefix_few single.Not = (omega arith, omega arith)
prefix_few single.YL = (omega arith, omega arith)
prefix_few single.OL = (omega arith, omega arith)
prefix_few single.HL = (omega arith, omega arith)
prefix_few single.YG = (omega arith, omega arith)
prefix_few single.OG = (omega arith, omega arith)
prefix_few single.HG = (omega arith, omega arith)

pub infix_few : (o : Infix) → middle_count o + ending_count o ≤ 4
infix_few pair.SL = omega arith
infix_few pair.SG = omega arith
infix_few pair.And = omega arith
infix_few pair.Or = omega arith
infix_few pair.Implies = omega arith

-- operations that write nothing before or between the lines of their parts
pub lead_none : (o : Prefix) → (o ≡ single.Not) ⊎ ((o ≡ single.YL) ⊎ (o ≡ single.YG)) → leading_lines o ≡ []
lead_none o (inl e) = ap leading_lines e
lead_none o (inr (inl e)) = ap leading_lines e
lead_none o (inr (inr e)) = ap leading_lines e

pub middle_none : (o : Infix) (i : ℕ) → (o ≡ pair.SL) ⊎ ((o ≡ pair.SG) ⊎ (o ≡ pair.Or)) → (middle_lines o i ≡ []) × (middle_count o ≡ 0)
middle_none o i (inl e) = (ap (λ x. middle_lines x i) e, ap middle_count e)
middle_none o i (inr (inl e)) = (ap (λ x. middle_lines x i) e, ap middle_count e)
middle_none o i (inr (inr e)) = (ap (λ x. middle_lines x i) e, ap middle_count e)

-- a tree of one line
pub written_yes : {k n r : ℕ} {xs ys : List Line} → Adds xs (line.Yes ∷ []) ys → n ≡ k + 1 → r ≡ k → Written k xs ys n yes r
written_yes e c v = record { lines_are = e; count = omega arith; last = omega arith }

pub written_no : {k n r : ℕ} {xs ys : List Line} → Adds xs (line.No ∷ []) ys → n ≡ k + 1 → r ≡ k → Written k xs ys n no r
written_no e c v = record { lines_are = e; count = omega arith; last = omega arith }

pub written_atom : {k n r i : ℕ} {xs ys : List Line} → Adds xs (line.Atom i ∷ []) ys → n ≡ k + 1 → r ≡ k → Written k xs ys n (atom i) r
written_atom e c v = record { lines_are = e; count = omega arith; last = omega arith }

-- the lines of a prefix around those of a tree
pub written_prefix : (o : Prefix) {t : Form} {k y n m n' r r' : ℕ} {xs ys zs vs : List Line} → Adds xs (leading_lines o) ys → n ≡ k + leading_count o → y ≡ k → Written n ys zs m t r → Adds zs (closing_lines o y r) vs → n' ≡ m + closing_count o → r' ≡ r + closing_count o → Written k xs vs n' (prefixed o t) r'
written_prefix o {t} {k} {y} {n} {m} {n'} {r} {r'} {xs} {ys} {zs} {vs} opened many line inner close more last = record {
  lines_are = as_same (both opened (both inner.lines_are close)) (
      ap (λ v. leading_lines o ++ (lines v t ++ closing_lines o y r)) many
      ∙ ap (λ v. leading_lines o ++ (lines (k + leading_count o) t ++ closing_lines o v r)) line
      ∙ ap (λ v. leading_lines o ++ (lines (k + leading_count o) t ++ closing_lines o k v)) (inner.last ∙ ap (λ v. v + before_last t) many));
  count = omega (arith, inner.count);
  last = omega (arith, inner.last);
}

-- the lines of a joint around those of two trees
pub written_infix : (o : Infix) {t u : Form} {k n n₁ n₂ n₃ l l₁ r r₁ : ℕ} {xs ys ys₁ zs zs₁ : List Line} → Written k xs ys n t l → Adds ys (middle_lines o l) ys₁ → n₁ ≡ n + middle_count o → l₁ ≡ l + middle_count o → Written n₁ ys₁ zs n₂ u r → Adds zs (ending_lines o l₁ r) zs₁ → n₃ ≡ n₂ + ending_count o → r₁ ≡ r + ending_count o → Written k xs zs₁ n₃ (joined o t u) r₁
written_infix o {t} {u} {k} {n} {n₁} {n₂} {n₃} {l} {l₁} {r} {r₁} {xs} {ys} {ys₁} {zs} {zs₁} first mid many left second end more last =
    let at : n₁ ≡ k + before_last t + 1 + middle_count o = omega (arith, first.count) in
    let a : l₁ ≡ k + before_last t + middle_count o = omega (arith, first.last) in
    let b : r ≡ k + before_last t + 1 + middle_count o + before_last u = omega (arith, second.last) in
    record {
      lines_are = as_same (both first.lines_are (both mid (both second.lines_are end))) (
          ap (λ v. lines k t ++ (middle_lines o v ++ (lines n₁ u ++ ending_lines o l₁ r))) first.last
          ∙ ap (λ v. lines k t ++ (middle_lines o (k + before_last t) ++ (lines v u ++ ending_lines o l₁ r))) at
          ∙ ap (λ v. lines k t ++ (middle_lines o (k + before_last t) ++ (lines (k + before_last t + 1 + middle_count o) u ++ ending_lines o v r))) a
          ∙ ap (λ v. lines k t ++ (middle_lines o (k + before_last t) ++ (lines (k + before_last t + 1 + middle_count o) u ++ ending_lines o (k + before_last t + middle_count o) v))) b);
      count = omega (arith, first.count, second.count);
      last = omega (arith, second.last);
    }

-- how many lines a tree has
length_leading_lines : (o : Prefix) → length (leading_lines o) ≡ leading_count o
length_leading_lines single.Not = refl
length_leading_lines single.YL = refl
length_leading_lines single.OL = refl
length_leading_lines single.HL = refl
length_leading_lines single.YG = refl
length_leading_lines single.OG = refl
length_leading_lines single.HG = refl

length_closing_lines : (o : Prefix) (y i : ℕ) → length (closing_lines o y i) ≡ closing_count o
length_closing_lines single.Not y i = refl
length_closing_lines single.YL y i = refl
length_closing_lines single.OL y i = refl
length_closing_lines single.HL y i = refl
length_closing_lines single.YG y i = refl
length_closing_lines single.OG y i = refl
length_closing_lines single.HG y i = refl

length_middle_lines : (o : Infix) (a : ℕ) → length (middle_lines o a) ≡ middle_count o
length_middle_lines pair.SL a = refl
length_middle_lines pair.SG a = refl
length_middle_lines pair.And a = refl
length_middle_lines pair.Or a = refl
length_middle_lines pair.Implies a = refl

length_ending_lines : (o : Infix) (a b : ℕ) → length (ending_lines o a b) ≡ ending_count o
length_ending_lines pair.SL a b = refl
length_ending_lines pair.SG a b = refl
length_ending_lines pair.And a b = refl
length_ending_lines pair.Or a b = refl
length_ending_lines pair.Implies a b = refl

pub length_lines : (k : ℕ) (t : Form) → length (lines k t) ≡ before_last t + 1
length_lines k (atom n) = refl
length_lines k yes = refl
length_lines k no = refl
length_lines k (prefixed o t) =
    let xs = lines (k + leading_count o) t in
    let ys = closing_lines o k (k + leading_count o + before_last t) in
    omega (arith, length-append (leading_lines o) (xs ++ ys), length-append xs ys, length_leading_lines o, length_closing_lines o k (k + leading_count o + before_last t), length_lines (k + leading_count o) t)
length_lines k (joined o t u) =
    let xs = lines k t in
    let ms = middle_lines o (k + before_last t) in
    let ys = lines (k + before_last t + 1 + middle_count o) u in
    let zs = ending_lines o (k + before_last t + middle_count o) (k + before_last t + 1 + middle_count o + before_last u) in
    omega (arith, length-append xs (ms ++ (ys ++ zs)), length-append ms (ys ++ zs), length-append ys zs, length_lines k t, length_lines (k + before_last t + 1 + middle_count o) u, length_middle_lines o (k + before_last t), length_ending_lines o (k + before_last t + middle_count o) (k + before_last t + 1 + middle_count o + before_last u))

-- where they fit, the table has them all
pub written_fits : {r n : ℕ} {ys : List Line} (t : Form) {k : ℕ} {xs : List Line} → Written k xs ys n t r → xs ≡ [] → k ≡ 0 → before_last t + 1 ≤ 128 → ys ≡ lines 0 t
written_fits t {k} {xs} laid none start fits =
    laid.lines_are.is ∙ ap (λ l. take 128 (l ++ lines k t)) none ∙ ap (λ v. take 128 (lines v t)) start ∙ take_all 128 (lines 0 t) (omega (arith, length_lines 0 t))
