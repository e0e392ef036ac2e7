-- The stretches of a list of records are the one way to group them. Assumes nothing.
use Rattle.std.proofs.Common.{◌≡◌, ℕ, zero, suc, ◌+◌, ◌-◌, true, false, cond, List, [], ◌∷◌, ◌++◌, replicate, sym, refl, ap, ◌∙◌, subst, ⊎_elim, add-one, arith}
use Rattle.std.specs.Str.{bytes_eq}
use Rattle.std.proofs.lemmas.Slice.Eq.{bytes_eq-Decides}
use Rattle.std.proofs.lemmas.Bool.{cases_Bool, cond-true, cond-false}
use Rattle.std.proofs.lemmas.Bool.Decides.{not_from_Decides}
use Rattle.stretch_table.specs.Stretches.{Stretch, stretch, records_of, below, stretches, Follow, NotFirst, Differ, Stand, Alone}

pub same_bytes : (r : List ℕ) → bytes_eq r r ≡ true
same_bytes r = (bytes_eq-Decides r r).1 refl

pub equal_from : (r s : List ℕ) → bytes_eq r s ≡ true → r ≡ s
equal_from r s = (bytes_eq-Decides r s).0

pub differ_from : (r s : List ℕ) → bytes_eq r s ≡ false → r ≡ s → ⊥
differ_from r s f = not_from_Decides (bytes_eq r s) (bytes_eq-Decides r s) f

pub same_not : (r s : List ℕ) → (r ≡ s → ⊥) → bytes_eq r s ≡ false
same_not r s ne = ⊎_elim (λ (t : bytes_eq r s ≡ true). absurd (ne (equal_from r s t))) (λ (f : bytes_eq r s ≡ false). f) (cases_Bool (bytes_eq r s))

-- what holds of one side or the other holds of the side that the comparison takes
one_or_other : (P : List Stretch → Type 0) (r k : List ℕ) (x y : List Stretch) → (r ≡ k → P x) → ((r ≡ k → ⊥) → P y) → P (cond (bytes_eq r k) x y)
one_or_other P r k x y yes' no' =
    ⊎_elim
    (λ (t : bytes_eq r k ≡ true). subst P (sym (cond-true _ _ _ t)) (yes' (equal_from r k t)))
    (λ (f : bytes_eq r k ≡ false). subst P (sym (cond-false _ _ _ f)) (no' (differ_from r k f)))
    (cases_Bool (bytes_eq r k))

below_follow : (run : ℕ) (r : List ℕ) (ss : List Stretch) → Follow (run + 1) ss → Follow run (below run r ss)
below_follow run r [] h = (refl, omega arith, tt)
below_follow run r (s ∷ ss) h =
    let more : run + 1 + s.count ≡ run + (s.count + 1) = omega arith in
    one_or_other (Follow run) r s.kept _ _
    (λ _. (refl, omega arith, subst (λ n. Follow n ss) more h.2))
    (λ _. (refl, omega arith, h))

below_differ : (run : ℕ) (r : List ℕ) (ss : List Stretch) → Differ ss → Differ (below run r ss)
below_differ run r [] h = (tt, tt)
below_differ run r (s ∷ ss) h =
    one_or_other Differ r s.kept _ _
    (λ e. (subst (λ k. NotFirst k ss) (sym e) h.0, h.1))
    (λ ne. (ne, h))

below_records : (run : ℕ) (r : List ℕ) (ss : List Stretch) → records_of (below run r ss) ≡ r ∷ records_of ss
below_records run r [] = refl
below_records run r (s ∷ ss) =
    one_or_other (λ l. records_of l ≡ r ∷ records_of (s ∷ ss)) r s.kept _ _
    (λ e. ap (λ n. replicate n r ++ records_of ss) (add-one s.count) ∙ ap (λ k. r ∷ (replicate s.count k ++ records_of ss)) e)
    (λ _. refl)

pub stand : Stand
stand low [] = (tt, tt, refl)
stand low (r ∷ rs) =
    let h = stand (low + 1) rs in (
      below_follow low r (stretches (low + 1) rs) h.0,
      below_differ low r (stretches (low + 1) rs) h.1,
      below_records low r (stretches (low + 1) rs) ∙ ap (λ l. r ∷ l) h.2,
    )

-- a stretch put before those that it differs from
grow : (n c : ℕ) (r : List ℕ) (R : List (List ℕ)) (ss : List Stretch) → NotFirst r ss → stretches (n + suc c) R ≡ ss
    → stretches n (replicate (suc c) r ++ R) ≡ stretch n (suc c) r ∷ ss
grow n zero r R [] ne is = ap (below n r) is
grow n zero r R (s ∷ ss) ne is = ap (below n r) is ∙ cond-false _ _ _ (same_not r s.kept ne)
grow n (suc c) r R ss ne is =
    let at : n + suc (suc c) ≡ n + 1 + suc c = omega arith in
    ap (below n r) (grow (n + 1) c r R ss ne (ap (λ k. stretches k R) (sym at) ∙ is))
    ∙ cond-true _ _ _ (same_bytes r)
    ∙ ap (λ k. stretch n k r ∷ ss) (add-one (suc c))

alone_from : (low c : ℕ) (s : Stretch) (ss : List Stretch) → s.first ≡ low → s.count ≡ suc c → NotFirst s.kept ss → stretches (low + s.count) (records_of ss) ≡ ss
    → stretches low (records_of (s ∷ ss)) ≡ s ∷ ss
alone_from low c s ss first count ne is =
    ap (λ n. stretches low (replicate n s.kept ++ records_of ss)) count
    ∙ grow low c s.kept (records_of ss) ss ne (ap (λ n. stretches (low + n) (records_of ss)) (sym count) ∙ is)
    ∙ sym (λ i. stretch (first i) (count i) s.kept ∷ ss)

pub alone : Alone
alone low [] follow differ = refl
alone low (s ∷ ss) follow differ =
    alone_from low (s.count - 1) s ss follow.0 (omega (arith, follow.1)) differ.0 (alone (low + s.count) ss follow.2 differ.1)

-- what holds of one way or the other of `below` holds of it
below_both : (P : List Stretch → Type 0) (run : ℕ) (r : List ℕ) (s : Stretch) (ss : List Stretch)
    → (r ≡ s.kept → P (stretch run (s.count + 1) r ∷ ss)) → ((r ≡ s.kept → ⊥) → P (stretch run 1 r ∷ s ∷ ss)) → P (below run r (s ∷ ss))
below_both P run r s ss yes' no' = one_or_other P r s.kept (stretch run (s.count + 1) r ∷ ss) (stretch run 1 r ∷ s ∷ ss) yes' no'
