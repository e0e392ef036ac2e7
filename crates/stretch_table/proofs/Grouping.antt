-- Lists of stretches put together and taken apart: their runs, their neighbours, their records. Assumes nothing.
use Rattle.std.proofs.Common.{◌≡◌, ℕ, ◌+◌, ◌<◌, ◌≤◌, true, false, List, [], ◌∷◌, ◌++◌, length, replicate, sym, refl, ap, ◌∙◌, subst, ⊎_elim, append_assoc, arith, length-append}
use lib.ListN.{length-replicate}
use Rattle.std.specs.List.{AllByRecursion}
use Rattle.std.specs.Str.{bytes_eq}
use Rattle.std.proofs.lemmas.List.{replicate-append-replicate}
use Rattle.std.proofs.lemmas.Bool.{cases_Bool, cond-true, cond-false}
use Rattle.stretch_table.specs.Stretches.{Stretch, stretch, records_of, fused, Few, Follow, NotFirst, Differ}
use Rattle.stretch_table.proofs.Stretches.{equal_from, differ_from}

-- how many runs
abbrev pub runs : List Stretch → ℕ
runs ss = length (records_of ss)

pub records_append : (A B : List Stretch) → records_of (A ++ B) ≡ records_of A ++ records_of B
records_append [] B = refl
records_append (s ∷ A) B = ap (λ l. replicate s.count s.kept ++ l) (records_append A B) ∙ sym (append_assoc (replicate s.count s.kept) (records_of A) (records_of B))

pub runs_more : (s : Stretch) (ss : List Stretch) → runs (s ∷ ss) ≡ s.count + runs ss
runs_more s ss = length-append (replicate s.count s.kept) (records_of ss) ∙ ap (λ n. n + runs ss) (length-replicate s.count s.kept)

pub runs_append : (A B : List Stretch) → runs (A ++ B) ≡ runs A + runs B
runs_append A B = ap length (records_append A B) ∙ length-append (records_of A) (records_of B)

-- runs

pub follow_append : (n : ℕ) (A B : List Stretch) → Follow n A → Follow (n + runs A) B → Follow n (A ++ B)
follow_append n [] B h k = subst (λ i. Follow i B) (omega arith) k
follow_append n (s ∷ A) B h k =
    let next : n + runs (s ∷ A) ≡ n + s.count + runs A = omega (arith, runs_more s A) in
    (h.0, h.1, follow_append (n + s.count) A B h.2 (subst (λ i. Follow i B) next k))

pub follow_front : (n : ℕ) (A B : List Stretch) → Follow n (A ++ B) → Follow n A
follow_front n [] B h = tt
follow_front n (s ∷ A) B h = (h.0, h.1, follow_front (n + s.count) A B h.2)

pub follow_back : (n : ℕ) (A B : List Stretch) → Follow n (A ++ B) → Follow (n + runs A) B
follow_back n [] B h = subst (λ i. Follow i B) (omega arith) h
follow_back n (s ∷ A) B h =
    let next : n + s.count + runs A ≡ n + runs (s ∷ A) = omega (arith, runs_more s A) in
    subst (λ i. Follow i B) next (follow_back (n + s.count) A B h.2)

-- each stretch has a run, so there are no more stretches than runs
pub entries_few : (n : ℕ) (ss : List Stretch) → Follow n ss → length ss ≤ runs ss
entries_few n [] h = omega arith
entries_few n (s ∷ ss) h = omega (arith, h.1, entries_few (n + s.count) ss h.2, runs_more s ss)

pub ends : (n : ℕ) (ss : List Stretch) → Follow n ss → AllByRecursion (λ s. s.first + s.count ≤ n + runs ss) ss
ends n [] h = tt
ends n (s ∷ ss) h =
    let all = runs_more s ss in
    (omega (arith, h.0), weaken (n + s.count + runs ss) (n + runs (s ∷ ss)) ss (omega arith) (ends (n + s.count) ss h.2))
  where
    weaken : (a b : ℕ) (ss : List Stretch) → a ≤ b → AllByRecursion (λ s. s.first + s.count ≤ a) ss → AllByRecursion (λ s. s.first + s.count ≤ b) ss
    weaken a b [] le h = tt
    weaken a b (s ∷ ss) le h = (omega (arith, h.0), weaken a b ss le h.1)

pub few_from : (e : Stretch) (B : List Stretch) → runs (e ∷ B) ≤ 1000000 → Few e B
few_from e [] le = tt
few_from e (f ∷ B) le = omega (arith, runs_more e (f ∷ B), runs_more f B)

-- neighbours

pub differ_front : (A B : List Stretch) → Differ (A ++ B) → Differ A
differ_front [] B h = tt
differ_front (s ∷ []) B h = (tt, tt)
differ_front (s ∷ t ∷ A) B h = (h.0, differ_front (t ∷ A) B h.1)

pub differ_back : (A B : List Stretch) → Differ (A ++ B) → Differ B
differ_back [] B h = h
differ_back (s ∷ A) B h = differ_back A B h.1

pub differ_append : (A B : List Stretch) (p : Stretch) → Differ (A ++ (p ∷ [])) → Differ (p ∷ B) → Differ (A ++ (p ∷ B))
differ_append [] B p h k = k
differ_append (s ∷ []) B p h k = (h.0, k)
differ_append (s ∷ t ∷ A) B p h k = (h.0, differ_append (t ∷ A) B p h.1 k)

pub differ_head : (B : List Stretch) (p q : Stretch) → p.kept ≡ q.kept → Differ (p ∷ B) → Differ (q ∷ B)
differ_head B p q e h = (subst (λ k. NotFirst k B) e h.0, h.1)

pub differ_last : (A : List Stretch) (p q : Stretch) → p.kept ≡ q.kept → Differ (A ++ (p ∷ [])) → Differ (A ++ (q ∷ []))
differ_last [] p q e h = (tt, tt)
differ_last (s ∷ []) p q e h = (λ f. h.0 (f ∙ sym e), (tt, tt))
differ_last (s ∷ t ∷ A) p q e h = (h.0, differ_last (t ∷ A) p q e h.1)

-- a stretch joined with the next one

fused_both : (P : List Stretch → Type 0) (s t : Stretch) (ss : List Stretch)
    → (s.kept ≡ t.kept → P (stretch s.first (s.count + t.count) s.kept ∷ ss)) → ((s.kept ≡ t.kept → ⊥) → P (s ∷ t ∷ ss)) → P (fused s (t ∷ ss))
fused_both P s t ss yes' no' =
    ⊎_elim
    (λ (b : bytes_eq s.kept t.kept ≡ true). subst P (sym (cond-true _ _ _ b)) (yes' (equal_from s.kept t.kept b)))
    (λ (b : bytes_eq s.kept t.kept ≡ false). subst P (sym (cond-false _ _ _ b)) (no' (differ_from s.kept t.kept b)))
    (cases_Bool (bytes_eq s.kept t.kept))

pub fused_follow : (n : ℕ) (s : Stretch) (ss : List Stretch) → Follow n (s ∷ ss) → Follow n (fused s ss)
fused_follow n s [] h = h
fused_follow n s (t ∷ ss) h =
    let sum : n + s.count + t.count ≡ n + (s.count + t.count) = omega arith in
    fused_both (Follow n) s t ss (λ _. (h.0, omega (arith, h.1), subst (λ i. Follow i ss) sum h.2.2)) (λ _. h)

pub fused_differ : (s : Stretch) (ss : List Stretch) → Differ ss → Differ (fused s ss)
fused_differ s [] h = (tt, tt)
fused_differ s (t ∷ ss) h =
    fused_both Differ s t ss (λ e. (subst (λ k. NotFirst k ss) (sym e) h.0, h.1)) (λ ne. (ne, h))

pub fused_records : (s : Stretch) (ss : List Stretch) → records_of (fused s ss) ≡ records_of (s ∷ ss)
fused_records s [] = refl
fused_records s (t ∷ ss) =
    fused_both (λ l. records_of l ≡ records_of (s ∷ t ∷ ss)) s t ss
    (λ e.
    ap (λ l. l ++ records_of ss) (sym (replicate-append-replicate s.count t.count s.kept))
    ∙ append_assoc (replicate s.count s.kept) (replicate t.count s.kept) (records_of ss)
    ∙ ap (λ k. replicate s.count s.kept ++ (replicate t.count k ++ records_of ss)) e)
    (λ _. refl)

-- it begins with the record that the stretch has
pub record Begins (kept : List ℕ) (ss : List Stretch) : Type 0 where
  pub head : Stretch
  pub tail : List Stretch
  pub is : ss ≡ head ∷ tail
  pub same : head.kept ≡ kept

pub fused_begins : (s : Stretch) (ss : List Stretch) → Begins s.kept (fused s ss)
fused_begins s [] = record { head = s; tail = []; is = refl; same = refl }
fused_begins s (t ∷ ss) =
    fused_both (Begins s.kept) s t ss
    (λ _. record { head = stretch s.first (s.count + t.count) s.kept; tail = ss; is = refl; same = refl })
    (λ _. record { head = s; tail = t ∷ ss; is = refl; same = refl })

-- behind others from which it differs
pub differ_fused : (A : List Stretch) (p : Stretch) (ss : List Stretch) → Differ (A ++ (p ∷ [])) → Differ ss → Differ (A ++ fused p ss)
differ_fused A p ss front back =
    let b = fused_begins p ss in
    subst (λ l. Differ (A ++ l)) (sym b.is)
    (differ_append A b.tail b.head (differ_last A p b.head (sym b.same) front) (subst Differ b.is (fused_differ p ss back)))

-- joining changes neither the runs nor the records
pub fused_at : (n : ℕ) (A B : List Stretch) (e : Stretch) → Follow n (A ++ (e ∷ B)) → Follow n (A ++ fused e B) × (records_of (A ++ fused e B) ≡ records_of (A ++ (e ∷ B)))
fused_at n A B e f = (
  follow_append n A (fused e B) (follow_front n A (e ∷ B) f) (fused_follow (n + runs A) e B (follow_back n A (e ∷ B) f)),
  records_append A (fused e B) ∙ ap (λ l. records_of A ++ l) (fused_records e B) ∙ sym (records_append A (e ∷ B)),
)

-- the last of some stretches
pub record Ends (A : List Stretch) : Type 0 where
  pub front : List Stretch
  pub last : Stretch
  pub is : A ≡ front ++ (last ∷ [])

pub ending : (A : List Stretch) → 0 < length A → Ends A
ending [] some = absurd (omega arith)
ending (s ∷ []) some = record { front = []; last = s; is = refl }
ending (s ∷ t ∷ A) some = let r = ending (t ∷ A) (omega arith) in record { front = s ∷ r.front; last = r.last; is = ap (λ l. s ∷ l) r.is }
