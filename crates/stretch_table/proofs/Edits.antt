-- What a write to an entry, a shift of entries and a new one make of the memory; how entries are read. Assumes nothing.
use Rattle.std.proofs.Common.{◌≡◌, ℕ, ◌+◌, ◌-◌, ◌*◌, ◌^◌, ◌<◌, ◌≤◌, List, [], ◌∷◌, ◌++◌, map, length, get_or, take, drop, replicate, sym, refl, ap, ◌∙◌, subst, append_assoc, append-nil, add-mul, arith, length-append}
use lib.ListN.{length-replicate}
use lib.Seq.{paste}
use Rattle.std.specs.List.{range_with_len, flat_map}
use Rattle.std.proofs.lemmas.Grind.{flat_map-append}
use Rattle.std.proofs.lemmas.List.{get_or-append-add, replicate-append-replicate, length_push}
use Rattle.stretch_table.specs.Stretches.{Stretch, stretch}
use Rattle.stretch_table.specs.Image.{four, entry}
use Rattle.stretch_table.specs.Entries.{stretch_at, stretches_in, Holds}
use Rattle.stretch_table.proofs.Holding.{word, length_entry, length_entries, Parts, parts, holds_parts}
use Rattle.stretch_table.proofs.Pastes.{paste_part, part_of, zeros}

abbrev numbers : ℕ → ℕ → List ℕ
numbers first count = four first ++ four count

opened : (a x b z r : List ℕ) → a ++ ((x ++ b) ++ (z ++ r)) ≡ (a ++ x) ++ ((b ++ z) ++ r)
opened a x b z r = simp append_assoc

doubled : (a x b r : List ℕ) → (a ++ x) ++ ((x ++ b) ++ r) ≡ a ++ ((x ++ (x ++ b)) ++ r)
doubled a x b r = simp append_assoc

module _ {w : ℕ} (A B : List Stretch) (e : Stretch) {m : List ℕ} (h : Holds w (A ++ (e ∷ B)) m) where
  abbrev P : Parts w A [] (e ∷ B) m
  P = parts A [] (e ∷ B) h

  abbrev front : List ℕ
  front = flat_map entry A

  abbrev back : List ℕ
  back = flat_map entry B

  abbrev rest : List ℕ
  rest = replicate P.left 0

  length_front : length front ≡ length A * (w + 8)
  length_front = length_entries w A P.sized_front

  module _ (p : ℕ) (place : p ≡ length A * (w + 8)) where
    pub sets_numbers : (first count : ℕ) (n : List ℕ) → first < 2 ^ 32 → count < 2 ^ 32 → n ≡ paste m p (numbers first count) 8
        → Holds w (A ++ (stretch first count e.kept ∷ B)) n
    sets_numbers first count n small few is =
        holds_parts A [] (stretch first count e.kept ∷ B) record {
          sized_front = P.sized_front;
          sized_mid = tt;
          sized_back = (record { first = small; count = few; wide = P.sized_back.0.wide }, P.sized_back.1);
          left = P.left;
          is = is ∙ ap (λ l. paste l p (numbers first count) 8) P.is ∙ paste_part front (numbers e.first e.count) ((e.kept ++ back) ++ rest) (numbers first count) p 8 (length_front ∙ sym place) refl refl;
        }

    pub sets_count : (count : ℕ) (n : List ℕ) → count < 2 ^ 32 → n ≡ paste m (p + 4) (four count) 4 → Holds w (A ++ (stretch e.first count e.kept ∷ B)) n
    sets_count count n few is =
        let head = four e.first in
        let tail = (e.kept ++ back) ++ rest in
        let split : m ≡ (front ++ head) ++ (four e.count ++ tail) = P.is ∙ sym (append_assoc front head (four e.count ++ tail)) in
        holds_parts A [] (stretch e.first count e.kept ∷ B) record {
          sized_front = P.sized_front;
          sized_mid = tt;
          sized_back = (record { first = P.sized_back.0.first; count = few; wide = P.sized_back.0.wide }, P.sized_back.1);
          left = P.left;
          is =
              is ∙ ap (λ l. paste l (p + 4) (four count) 4) split
              ∙ paste_part (front ++ head) (four e.count) tail (four count) (p + 4) 4 (length-append front head ∙ ap (λ k. k + 4) (length_front ∙ sym place)) refl refl
              ∙ append_assoc front head (four count ++ tail);
        }

    pub sets_record : (rec n : List ℕ) → length rec ≡ w → n ≡ paste m (p + 8) rec w → Holds w (A ++ (stretch e.first e.count rec ∷ B)) n
    sets_record rec n long is =
        let head = numbers e.first e.count in
        let split : m ≡ (front ++ head) ++ (e.kept ++ (back ++ rest)) =
        P.is ∙ ap (λ l. front ++ (head ++ l)) (append_assoc e.kept back rest) ∙ sym (append_assoc front head (e.kept ++ (back ++ rest)))
        in
        holds_parts A [] (stretch e.first e.count rec ∷ B) record {
          sized_front = P.sized_front;
          sized_mid = tt;
          sized_back = (record { first = P.sized_back.0.first; count = P.sized_back.0.count; wide = long }, P.sized_back.1);
          left = P.left;
          is =
              is ∙ ap (λ l. paste l (p + 8) rec w) split
              ∙ paste_part (front ++ head) e.kept (back ++ rest) rec (p + 8) w (length-append front head ∙ ap (λ k. k + 8) (length_front ∙ sym place)) P.sized_back.0.wide long
              ∙ append_assoc front head (rec ++ (back ++ rest)) ∙ ap (λ l. front ++ (head ++ l)) (sym (append_assoc rec back rest));
        }

    -- the entries from this one on are moved up by one place, which leaves it twice
    pub doubles : (q : ℕ) (n : List ℕ) → q ≡ length (A ++ (e ∷ B)) * (w + 8) → q + (w + 8) ≤ length m → n ≡ paste m (p + (w + 8)) (take (q - p) (drop p m)) (q - p)
        → Holds w (A ++ (e ∷ e ∷ B)) n
    doubles q n end room is =
        let s = w + 8 in
        let x = entry e in
        let lx : length x ≡ s = length_entry w e P.sized_back.0 in
        let la : length front ≡ p = length_front ∙ sym place in
        let all : length (flat_map entry (A ++ (e ∷ B))) ≡ length front + (length x + length back) =
        ap length (flat_map-append entry A (e ∷ B)) ∙ length-append front (x ++ back) ∙ ap (λ k. length front + k) (length-append x back)
        in
        let q-is : q ≡ length front + (length x + length back) = end ∙ sym (length_entries w (A ++ (e ∷ B)) h.sized) ∙ all in
        let long : length m ≡ length front + ((length x + length back) + P.left) =
        ap length P.is ∙ length-append front ((x ++ back) ++ rest)
        ∙ ap (λ k. length front + k) (length-append (x ++ back) rest ∙ (λ i. length-append x back i + length-replicate {A = ℕ} P.left 0 i))
        in
        let gap = zeros P.left s (omega arith) in
        let moved : take (q - p) (drop p m) ≡ x ++ back =
        ap (λ l. take (q - p) (drop p l)) P.is ∙ part_of front (x ++ back) rest p (q - p) la (length-append x back ∙ omega arith)
        in
        let split : m ≡ (front ++ x) ++ ((back ++ replicate s 0) ++ replicate gap.0 0) =
        P.is ∙ ap (λ l. front ++ ((x ++ back) ++ l)) gap.1 ∙ opened front x back (replicate s 0) (replicate gap.0 0)
        in
        holds_parts A [] (e ∷ e ∷ B) record {
          sized_front = P.sized_front;
          sized_mid = tt;
          sized_back = (P.sized_back.0, P.sized_back);
          left = gap.0;
          is =
              is ∙ (λ i. paste (split i) (p + s) (moved i) (q - p))
              ∙ paste_part (front ++ x) (back ++ replicate s 0) (replicate gap.0 0) (x ++ back) (p + s) (q - p)
              (length-append front x ∙ omega arith) (length-append back (replicate s 0) ∙ omega (arith, length-replicate {A = ℕ} s 0)) (length-append x back ∙ omega arith)
              ∙ doubled front x back (replicate gap.0 0);
        }

  -- the entry is read as it was written
  pub reads : stretch_at w m (length A) ≡ e
  reads =
      let at = length A * (w + 8) in
      let head = numbers e.first e.count in
      let here : (j k : ℕ) → j ≡ at + k → get_or m j 0 ≡ get_or ((entry e ++ back) ++ rest) k 0 =
      λ j k is. (λ i. get_or (P.is i) ((is ∙ ap (λ n. n + k) (sym length_front)) i) 0) ∙ get_or-append-add front ((entry e ++ back) ++ rest) k 0
      in
      let first : (stretch_at w m (length A)).first ≡ e.first =
      omega (arith, here at 0 (omega arith), here (at + 1) 1 (omega arith), here (at + 2) 2 (omega arith), here (at + 3) 3 (omega arith), word e.first P.sized_back.0.first)
      in
      let count : (stretch_at w m (length A)).count ≡ e.count =
      omega (arith, here (at + 4) 4 (omega arith), here (at + 4 + 1) 5 (omega arith), here (at + 4 + 2) 6 (omega arith), here (at + 4 + 3) 7 (omega arith), word e.count P.sized_back.0.count)
      in
      let split : m ≡ (front ++ head) ++ (e.kept ++ (back ++ rest)) =
      P.is ∙ ap (λ l. front ++ (head ++ l)) (append_assoc e.kept back rest) ∙ sym (append_assoc front head (e.kept ++ (back ++ rest)))
      in
      let kept : (stretch_at w m (length A)).kept ≡ e.kept =
      ap (λ l. take w (drop (at + 8) l)) split
      ∙ part_of (front ++ head) e.kept (back ++ rest) (at + 8) w (length-append front head ∙ ap (λ k. k + 8) length_front) P.sized_back.0.wide
      in
      λ i. stretch (first i) (count i) (kept i)

module _ {w : ℕ} (A O B : List Stretch) {m : List ℕ} (h : Holds w (A ++ (O ++ B)) m) where
  -- the entries of O are dropped, those behind them moved up to them, and what is left behind zeroed
  pub removes : (p r q : ℕ) (n : List ℕ) → p ≡ length A * (w + 8) → r ≡ (length A + length O) * (w + 8) → q ≡ length (A ++ (O ++ B)) * (w + 8)
      → n ≡ paste m p (take (q - r) (drop r m) ++ replicate (r - p) 0) (q - p) → Holds w (A ++ B) n
  removes p r q n from to end is =
      let P = parts A O B h in
      let a = flat_map entry A in
      let o = flat_map entry O in
      let b = flat_map entry B in
      let z = replicate {A = ℕ} P.left 0 in
      let la : length a ≡ p = length_entries w A P.sized_front ∙ sym from in
      let lo : length a + length o ≡ r =
      (λ i. length_entries w A P.sized_front i + length_entries w O P.sized_mid i) ∙ sym (to ∙ add-mul (length A) (length O) (w + 8))
      in
      let lq : length a + (length o + length b) ≡ q =
      sym (end ∙ sym (length_entries w (A ++ (O ++ B)) h.sized)
      ∙ ap length (flat_map-append entry A (O ++ B) ∙ ap (λ l. a ++ l) (flat_map-append entry O B)) ∙ length-append a (o ++ b) ∙ ap (λ k. length a + k) (length-append o b))
      in
      let moved : take (q - r) (drop r m) ≡ b =
      ap (λ l. take (q - r) (drop r l)) (P.is ∙ sym (append_assoc a o (b ++ z))) ∙ part_of (a ++ o) b z r (q - r) (length-append a o ∙ lo) (omega arith)
      in
      let split : m ≡ a ++ ((o ++ b) ++ z) = P.is ∙ ap (λ l. a ++ l) (sym (append_assoc o b z)) in
      let y = b ++ replicate (r - p) 0 in
      holds_parts A [] B record {
        sized_front = P.sized_front;
        sized_mid = tt;
        sized_back = P.sized_back;
        left = r - p + P.left;
        is =
            is ∙ (λ i. paste (split i) p (moved i ++ replicate (r - p) 0) (q - p))
            ∙ paste_part a (o ++ b) z y p (q - p) la (length-append o b ∙ omega arith) (length-append b (replicate (r - p) 0) ∙ omega (arith, length-replicate {A = ℕ} (r - p) 0))
            ∙ ap (λ l. a ++ l) (append_assoc b (replicate (r - p) 0) z ∙ ap (λ l. b ++ l) (replicate-append-replicate (r - p) P.left 0));
      }

module _ {w : ℕ} (A : List Stretch) {m : List ℕ} (h : Holds w A m) where
  -- behind the entries lie zeros, which are an entry too
  pub grows : length A * (w + 8) + (w + 8) ≤ length m → Holds w (A ++ (stretch 0 0 (replicate w 0) ∷ [])) m
  grows room =
      let a = flat_map entry A in
      let gap = zeros (length m - length a) (w + 8) (omega (arith, length_entries w A h.sized)) in
      let blank : replicate (w + 8) 0 ≡ replicate 8 0 ++ replicate {A = ℕ} w 0 = ap (λ n. replicate n 0) (omega arith) ∙ sym (replicate-append-replicate 8 w 0) in
      holds_parts A [] (stretch 0 0 (replicate w 0) ∷ []) record {
        sized_front = h.sized;
        sized_mid = tt;
        sized_back = (record { first = omega arith; count = omega arith; wide = length-replicate w 0 }, tt);
        left = gap.0;
        is = h.is ∙ ap (λ l. a ++ l) (gap.1 ∙ ap (λ l. l ++ replicate gap.0 0) (blank ∙ sym (append-nil _)));
      }

-- all entries are read as they were written
reads_from : (w : ℕ) (A B : List Stretch) (m : List ℕ) → Holds w (A ++ B) m → map (stretch_at w m) (range_with_len (length A) (length B)) ≡ B
reads_from w A [] m h = refl
reads_from w A (e ∷ B) m h =
    let next : Holds w ((A ++ (e ∷ [])) ++ B) m = subst (λ l. Holds w l m) (sym (append_assoc A (e ∷ []) B)) h in
    (λ i. reads A B e h i ∷ map (stretch_at w m) (range_with_len (sym (length_push A e) i) (length B)))
    ∙ ap (λ l. e ∷ l) (reads_from w (A ++ (e ∷ [])) B m next)

pub reads_all : (w : ℕ) (ss : List Stretch) (m : List ℕ) → Holds w ss m → stretches_in w (length ss) m ≡ ss
reads_all w ss m h = reads_from w [] ss m h
