-- Entries in memory: how they are read, and what a write to one, a shift and a new one make of them. Assumes nothing.
use Rattle.std.proofs.Common.{◌≡◌, ℕ, ◌+◌, ◌-◌, ◌*◌, ◌/◌, ◌%◌, ◌^◌, ◌<◌, List, [], ◌∷◌, ◌++◌, length, replicate, sym, ap, ◌∙◌, subst, refl, append_assoc, mod-eq_of_lt, suc-mul, arith, length-append}
use native.Mathlib.Nat.{div-div-eq-div-mul, div-add-mod}
use lib.ListN.{length-replicate}
use Rattle.std.specs.List.{flat_map, AllByRecursion}
use Rattle.std.proofs.ByRecursion.{All-append, All-take, All-drop}
use Rattle.std.proofs.lemmas.List.{take_at, drop_at}
use Rattle.std.proofs.lemmas.Grind.{flat_map-append}
use Rattle.stretch_table.specs.Stretches.{Stretch}
use Rattle.stretch_table.specs.Image.{entry}
use Rattle.stretch_table.specs.Entries.{Sized, Holds}

pub all_left : {X : Type 0} (P : X → Type 0) (xs ys : List X) → AllByRecursion P (xs ++ ys) → AllByRecursion P xs
all_left P xs ys h = subst (AllByRecursion P) (take_at xs ys (length xs) refl) (All-take P (length xs) (xs ++ ys) h)

pub all_right : {X : Type 0} (P : X → Type 0) (xs ys : List X) → AllByRecursion P (xs ++ ys) → AllByRecursion P ys
all_right P xs ys h = subst (AllByRecursion P) (drop_at xs ys (length xs) refl) (All-drop P (length xs) (xs ++ ys) h)

-- a number is read as it was written
pub word : (n : ℕ) → n < 2 ^ 32 → n / 16777216 % 256 * 16777216 + n / 65536 % 256 * 65536 + n / 256 % 256 * 256 + n % 256 ≡ n
word n small =
    let a : n / 256 / 256 ≡ n / 65536 = div-div-eq-div-mul n 256 256 in
    let b : n / 65536 / 256 ≡ n / 16777216 = div-div-eq-div-mul n 65536 256 in
    let top : n / 16777216 % 256 ≡ n / 16777216 = mod-eq_of_lt (omega arith) in
    let low = div-add-mod n 256 in
    let mid = div-add-mod (n / 256) 256 in
    let high = div-add-mod (n / 65536) 256 in
    omega (arith, a, b, top, low, mid, high)

module _ (w : ℕ) where
  pub length_entry : (s : Stretch) → Sized w s → length (entry s) ≡ w + 8
  length_entry s h = omega (arith, h.wide)

  pub length_entries : (ss : List Stretch) → AllByRecursion (Sized w) ss → length (flat_map entry ss) ≡ length ss * (w + 8)
  length_entries [] h = omega arith
  length_entries (s ∷ ss) h =
      omega (arith, length-append (entry s) (flat_map entry ss), length_entry s h.0, length_entries ss h.1, suc-mul (length ss) (w + 8))

  -- any number of zeros may follow
  pub holds_from : (ss : List Stretch) (m : List ℕ) (z : ℕ) → AllByRecursion (Sized w) ss → m ≡ flat_map entry ss ++ replicate z 0 → Holds w ss m
  holds_from ss m z sized is =
      let long : length m ≡ length (flat_map entry ss) + z = ap length is ∙ length-append (flat_map entry ss) (replicate z 0) ∙ ap (λ n. length (flat_map entry ss) + n) (length-replicate {A = ℕ} z 0) in
      let rest : z ≡ length m - length (flat_map entry ss) = omega arith in
      record {
        sized = sized;
        fits = omega (arith, length_entries ss sized);
        is = is ∙ ap (λ n. flat_map entry ss ++ replicate n 0) rest;
      }

-- memory by its parts: the entries of A, of O and of B, and zeros
pub record Parts (w : ℕ) (A O B : List Stretch) (m : List ℕ) : Type 0 where
  pub sized_front : AllByRecursion (Sized w) A
  pub sized_mid : AllByRecursion (Sized w) O
  pub sized_back : AllByRecursion (Sized w) B
  pub left : ℕ
  pub is : m ≡ flat_map entry A ++ (flat_map entry O ++ (flat_map entry B ++ replicate left 0))

module _ {w : ℕ} (A O B : List Stretch) {m : List ℕ} where
  pub parts : Holds w (A ++ (O ++ B)) m → Parts w A O B m
  parts h =
      let z = length m - length (flat_map entry (A ++ (O ++ B))) in
      let rest = all_right (Sized w) A (O ++ B) h.sized in
      record {
        sized_front = all_left (Sized w) A (O ++ B) h.sized;
        sized_mid = all_left (Sized w) O B rest;
        sized_back = all_right (Sized w) O B rest;
        left = z;
        is =
            h.is
            ∙ ap (λ l. l ++ replicate z 0) (flat_map-append entry A (O ++ B) ∙ ap (λ l. flat_map entry A ++ l) (flat_map-append entry O B))
            ∙ append_assoc (flat_map entry A) (flat_map entry O ++ flat_map entry B) (replicate z 0)
            ∙ ap (λ l. flat_map entry A ++ l) (append_assoc (flat_map entry O) (flat_map entry B) (replicate z 0));
      }

  pub holds_parts : Parts w A O B m → Holds w (A ++ (O ++ B)) m
  holds_parts p =
      let z = replicate p.left 0 in
      holds_from w (A ++ (O ++ B)) m p.left
      (All-append (Sized w) A (O ++ B) p.sized_front (All-append (Sized w) O B p.sized_mid p.sized_back))
      (p.is
      ∙ sym (ap (λ l. l ++ z) (flat_map-append entry A (O ++ B) ∙ ap (λ l. flat_map entry A ++ l) (flat_map-append entry O B))
      ∙ append_assoc (flat_map entry A) (flat_map entry O ++ flat_map entry B) z
      ∙ ap (λ l. flat_map entry A ++ l) (append_assoc (flat_map entry O) (flat_map entry B) z)))
