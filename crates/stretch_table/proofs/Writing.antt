-- A run's record replaced among stretches: cut around the run, set, joined again. Assumes nothing.
use Rattle.std.proofs.Common.{◌≡◌, ℕ, ◌+◌, ◌-◌, ◌<◌, ◌≤◌, true, false, cond, List, [], ◌∷◌, ◌++◌, length, set, replicate, sym, refl, ap, ◌∙◌, subst, ⊎_elim, append_assoc, arith}
use Rattle.std.proofs.lemmas.List.{length_push, replicate-append-replicate, set_at}
use Rattle.std.proofs.lemmas.Bool.{cases_Bool, cond-true, cond-false}
use Rattle.std.proofs.lemmas.Bool.Decides.{nat_tests}
use Rattle.stretch_table.specs.Stretches.{Stretch, stretch, records_of, inside, pieces, Follow, Differ}
use Rattle.stretch_table.proofs.Grouping.{runs, records_append, follow_append, follow_front, follow_back, differ_front, differ_back, differ_head, differ_last}

inside_yes : (e : Stretch) (run : ℕ) → inside e run ≡ true → (e.first < run) × (run - e.first < e.count)
inside_yes e run h = (grind (arith, nat_tests), grind (arith, nat_tests))

-- a run of the stretch that it is not cut before is its first one
inside_no : (e : Stretch) (run : ℕ) → e.first ≤ run → run < e.first + e.count → inside e run ≡ false → e.first ≡ run
inside_no e run from to h = grind (arith, nat_tests)

-- a stretch in two, with the same records
two_records : (e : Stretch) (run k : ℕ) (B : List Stretch) → k ≤ e.count
    → records_of (stretch e.first k e.kept ∷ stretch run (e.count - k) e.kept ∷ B) ≡ records_of (e ∷ B)
two_records e run k B le =
    let all : k + (e.count - k) ≡ e.count = omega arith in
    sym (append_assoc (replicate k e.kept) (replicate (e.count - k) e.kept) (records_of B))
    ∙ ap (λ l. l ++ records_of B) (replicate-append-replicate k (e.count - k) e.kept ∙ ap (λ n. replicate n e.kept) all)

two_follow : (n : ℕ) (e : Stretch) (run k : ℕ) (B : List Stretch) → Follow n (e ∷ B) → 0 < k → k < e.count → e.first + k ≡ run
    → Follow n (stretch e.first k e.kept ∷ stretch run (e.count - k) e.kept ∷ B)
two_follow n e run k B h some more at =
    let all : n + e.count ≡ n + k + (e.count - k) = omega arith in
    (h.0, some, (omega (arith, h.0), omega arith, subst (λ i. Follow i B) all h.2))

-- A, the stretch e that has the run, and B; cut before the run
pub record Cut (low : ℕ) (A B : List Stretch) (e : Stretch) (run : ℕ) : Type 0 where
  pub front : List Stretch
  pub here : Stretch
  pub is : A ++ (pieces e run ++ B) ≡ front ++ (here ∷ B)
  pub place : length front ≡ cond (inside e run) (length A + 1) (length A)
  pub first : here.first ≡ run
  pub count : run + here.count ≡ e.first + e.count
  pub follow : Follow low (front ++ (here ∷ B))
  pub differ_front : Differ front
  pub differ_back : Differ (here ∷ B)
  pub records : records_of (front ++ (here ∷ B)) ≡ records_of (A ++ (e ∷ B))

module _ (low : ℕ) (A B : List Stretch) (e : Stretch) (run : ℕ) (follow : Follow low (A ++ (e ∷ B))) (differ : Differ (A ++ (e ∷ B)))
    (from : e.first ≤ run) (to : run < e.first + e.count) where
  cut_no : inside e run ≡ false → Cut low A B e run
  cut_no out =
      let at = inside_no e run from to out in
      record {
        front = A;
        here = e;
        is = ap (λ l. A ++ (l ++ B)) (cond-false _ _ _ out);
        place = sym (cond-false _ _ _ out);
        first = at;
        count = omega arith;
        follow = follow;
        differ_front = differ_front A (e ∷ B) differ;
        differ_back = differ_back A (e ∷ B) differ;
        records = refl;
      }

  cut_yes : inside e run ≡ true → Cut low A B e run
  cut_yes yes' =
      let in-it = inside_yes e run yes' in
      let k = run - e.first in
      let l = stretch e.first k e.kept in
      let r = stretch run (e.count - k) e.kept in
      let old = follow_back low A (e ∷ B) follow in
      let new = two_follow (low + runs A) e run k B old (omega arith) (omega arith) (omega arith) in
      let same : A ++ (l ∷ r ∷ B) ≡ (A ++ (l ∷ [])) ++ (r ∷ B) = sym (append_assoc A (l ∷ []) (r ∷ B)) in
      let before : Differ (A ++ (e ∷ [])) = differ_front (A ++ (e ∷ [])) B (subst Differ (sym (append_assoc A (e ∷ []) B)) differ) in
      record {
        front = A ++ (l ∷ []);
        here = r;
        is = ap (λ x. A ++ (x ++ B)) (cond-true _ _ _ yes') ∙ same;
        place = length_push A l ∙ sym (cond-true _ _ _ yes');
        first = refl;
        count = omega arith;
        follow = subst (Follow low) same (follow_append low A (l ∷ r ∷ B) (follow_front low A (e ∷ B) follow) new);
        differ_front = differ_last A e l refl before;
        differ_back = differ_head B e r refl (differ_back A (e ∷ B) differ);
        records =
            ap records_of (sym same) ∙ records_append A (l ∷ r ∷ B)
            ∙ ap (λ x. records_of A ++ x) (two_records e run k B (omega arith))
            ∙ sym (records_append A (e ∷ B));
      }

  pub cut_before : Cut low A B e run
  cut_before = ⊎_elim (λ (b : inside e run ≡ true). cut_yes b) (λ (b : inside e run ≡ false). cut_no b) (cases_Bool (inside e run))

-- A, the stretch e that begins with the run, and B; cut behind the run
pub record Lone (low : ℕ) (A B : List Stretch) (e : Stretch) (run : ℕ) : Type 0 where
  pub here : Stretch
  pub back : List Stretch
  pub is : A ++ (pieces e (run + 1) ++ B) ≡ A ++ (here ∷ back)
  pub first : here.first ≡ run
  pub count : here.count ≡ 1
  pub follow : Follow low (A ++ (here ∷ back))
  pub differ_back : Differ back
  pub records : records_of (A ++ (here ∷ back)) ≡ records_of (A ++ (e ∷ B))

module _ (low : ℕ) (A B : List Stretch) (e : Stretch) (run : ℕ) (follow : Follow low (A ++ (e ∷ B))) (differ : Differ (e ∷ B)) (at : e.first ≡ run) where
  lone_no : inside e (run + 1) ≡ false → Lone low A B e run
  lone_no out =
      let some = (follow_back low A (e ∷ B) follow).1 in
      let one : e.count ≡ 1 = ends_there e run at some out in
      record {
        here = e;
        back = B;
        is = ap (λ l. A ++ (l ++ B)) (cond-false _ _ _ out);
        first = at;
        count = one;
        follow = follow;
        differ_back = differ.1;
        records = refl;
      }
    where
      ends_there : (e : Stretch) (run : ℕ) → e.first ≡ run → 0 < e.count → inside e (run + 1) ≡ false → e.count ≡ 1
      ends_there e run at some out = grind (arith, nat_tests)

  lone_yes : inside e (run + 1) ≡ true → Lone low A B e run
  lone_yes yes' =
      let in-it = inside_yes e (run + 1) yes' in
      let k = run + 1 - e.first in
      let l = stretch e.first k e.kept in
      let r = stretch (run + 1) (e.count - k) e.kept in
      let old = follow_back low A (e ∷ B) follow in
      let new = two_follow (low + runs A) e (run + 1) k B old (omega arith) (omega arith) (omega arith) in
      record {
        here = l;
        back = r ∷ B;
        is = ap (λ x. A ++ (x ++ B)) (cond-true _ _ _ yes');
        first = at;
        count = omega arith;
        follow = follow_append low A (l ∷ r ∷ B) (follow_front low A (e ∷ B) follow) new;
        differ_back = differ_head B e r refl differ;
        records =
            records_append A (l ∷ r ∷ B)
            ∙ ap (λ x. records_of A ++ x) (two_records e (run + 1) k B (omega arith))
            ∙ sym (records_append A (e ∷ B));
      }

  pub cut_behind : Lone low A B e run
  cut_behind = ⊎_elim (λ (b : inside e (run + 1) ≡ true). lone_yes b) (λ (b : inside e (run + 1) ≡ false). lone_no b) (cases_Bool (inside e (run + 1)))

-- the record of a stretch of one run replaced
pub set_one : (low : ℕ) (A B : List Stretch) (e : Stretch) (run : ℕ) (rec : List ℕ) → Follow low (A ++ (e ∷ B)) → e.first ≡ run → e.count ≡ 1
    → (records_of (A ++ (stretch e.first e.count rec ∷ B)) ≡ set (records_of (A ++ (e ∷ B))) (run - low) rec) × Follow low (A ++ (stretch e.first e.count rec ∷ B))
set_one low A B e run rec follow at one =
    let old = follow_back low A (e ∷ B) follow in
    let place : runs A ≡ run - low = omega (arith, old.0) in
    let n = stretch e.first e.count rec in (
      records_append A (n ∷ B)
          ∙ ap (λ k. records_of A ++ (replicate k rec ++ records_of B)) one
          ∙ sym (ap (λ l. set l (run - low) rec) (records_append A (e ∷ B) ∙ ap (λ k. records_of A ++ (replicate k e.kept ++ records_of B)) one)
          ∙ set_at (records_of A) e.kept (records_of B) rec (run - low) place),
      follow_append low A (n ∷ B) (follow_front low A (e ∷ B) follow) (old.0, old.1, old.2),
    )
