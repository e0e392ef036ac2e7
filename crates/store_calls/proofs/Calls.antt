-- One call more behind a list of calls. Assumes nothing.
use Rattle.std.proofs.Common.{◌≡◌, ℕ, Bool, true, ◌&&◌, List, [], ◌∷◌, ◌++◌, Result, Ok, Err, eqb, Decides, sym, refl, ap, ◌∙◌, subst}
use Rattle.std.proofs.lemmas.List.{same_from_push}
use Rattle.std.proofs.lemmas.Slice.Eq.{slice_eq-Decides}
use Rattle.std.specs.Result.{result_eq}
use Rattle.std.specs.Cmp.Lexicographic.{pointwise}
use Rattle.std.proofs.lemmas.Bool.Decides.{Decides-and, Decides-like, Decides-eqb}
use Rattle.store_calls.specs.declared.call.StoreAnswer.{StoreAnswer}
use Rattle.stores.specs.declared.fault.StoreFault.{StoreFault}
use Rattle.store_calls.specs.Calls.{Asked, Setting, answered, after_call, after_calls, answers}

abbrev Answer : Type 0
Answer = Result StoreAnswer StoreFault

pub after_push : (s : Setting) (cs : List Asked) (c : Asked) → after_calls s (cs ++ c ∷ []) ≡ after_call (after_calls s cs) c
after_push s [] c = refl
after_push s (d ∷ cs) c = after_push (after_call s d) cs c

pub answers_push : (s : Setting) (cs : List Asked) (c : Asked)
    → answers s (cs ++ c ∷ []) ≡ answers s cs ++ (answered (after_calls s cs) c, (after_call (after_calls s cs) c).room) ∷ []
answers_push s [] c = refl
answers_push s (d ∷ cs) c = ap (λ l. (answered s d, (after_call s d).room) ∷ l) (answers_push (after_call s d) cs c)

-- two stores that have performed the same calls, and whether they answered alike
pub record Performed (s t : Setting) (cs : List Asked) (s' t' : Setting) (alike : Bool) : Type 0 where
  pub one : s' ≡ after_calls s cs
  pub other : t' ≡ after_calls t cs
  pub same : Decides alike (answers s cs ≡ answers t cs)

result_decides : {X Y : Type 0} {E : X → X → Bool} {F : Y → Y → Bool} → ((a b : X) → Decides (E a b) (a ≡ b)) → ((a b : Y) → Decides (F a b) (a ≡ b))
    → (x y : Result X Y) → Decides (result_eq E F x y) (x ≡ y)
result_decides e f (Ok x) (Ok y) = (λ h. ap Ok ((e x y).0 h), λ h. (e x y).1 (cc))
result_decides e f (Ok x) (Err y) = (λ h. cc, λ h. cc)
result_decides e f (Err x) (Ok y) = (λ h. cc, λ h. cc)
result_decides e f (Err x) (Err y) = (λ h. ap Err ((f x y).0 h), λ h. (f x y).1 (cc))

-- what `==` says of two answers, each with its room
pub pair_decides : {X Y : Type 0} {E : X → X → Bool} {F : Y → Y → Bool} → ((a b : X) → Decides (E a b) (a ≡ b)) → ((a b : Y) → Decides (F a b) (a ≡ b))
    → (x y : Result X Y) (a b : List ℕ) (r : Bool) → r ≡ (result_eq E F x y && pointwise eqb a b) → Decides r ((x ≡ y) × (a ≡ b))
pair_decides e f x y a b r is = subst (λ q. Decides q ((x ≡ y) × (a ≡ b))) (sym is) (Decides-and _ _ (result_decides e f x y) (slice_eq-Decides Decides-eqb a b _ refl))

decides_push : (p q : Bool) (xs ys : List (Answer × List ℕ)) (x y : Answer) (a b : List ℕ)
    → Decides p (xs ≡ ys) → Decides q ((x ≡ y) × (a ≡ b)) → Decides (p && q) (xs ++ (x, a) ∷ [] ≡ ys ++ (y, b) ∷ [])
decides_push p q xs ys x y a b hp hq =
    Decides-like (p && q)
    (λ e. λ i. e.0 i ++ (e.1.0 i, e.1.1 i) ∷ [])
    (λ e. let f = same_from_push xs ys (x, a) (y, b) e in (f.0, (ap (λ (v : Answer × List ℕ). v.0) f.1, ap (λ (v : Answer × List ℕ). v.1) f.1)))
    (Decides-and p q hp hq)

module _ {s t s' t' : Setting} {cs : List Asked} {p : Bool} (h : Performed s t cs s' t' p) where
  pub performed_more : (c : Asked) (x y : Answer) (s'' t'' : Setting) (q : Bool) → x ≡ answered s' c → y ≡ answered t' c → s'' ≡ after_call s' c → t'' ≡ after_call t' c
      → Decides q ((x ≡ y) × (s''.room ≡ t''.room)) → Performed s t (cs ++ c ∷ []) s'' t'' (p && q)
  performed_more c x y s'' t'' q ex ey es et hq =
      let to : (u v u' v' : Setting) (z : Answer) → u' ≡ after_calls u cs → z ≡ answered u' c → v' ≡ after_call u' c → answers u (cs ++ c ∷ []) ≡ answers u cs ++ (z, v'.room) ∷ [] =
      λ u v u' v' z e f g. answers_push u cs c ∙ (λ i. answers u cs ++ ((ap (λ w. answered w c) (sym e) ∙ sym f) i, (ap (λ w. (after_call w c).room) (sym e) ∙ ap (λ (w : Setting). w.room) (sym g)) i) ∷ [])
      in
      let one = to s s s' s'' x h.one ex es in
      let other = to t t t' t'' y h.other ey et in
      record {
        one = es ∙ ap (λ w. after_call w c) h.one ∙ sym (after_push s cs c);
        other = et ∙ ap (λ w. after_call w c) h.other ∙ sym (after_push t cs c);
        same = subst (λ l. Decides (p && q) (l ≡ answers t (cs ++ c ∷ []))) (sym one) (subst (λ l. Decides (p && q) (answers s cs ++ (x, s''.room) ∷ [] ≡ l)) (sym other) (decides_push p q (answers s cs) (answers t cs) x y s''.room t''.room h.same hq));
      }

  -- equal at the start, they answered alike and are equal now
  pub performed_alike : s ≡ t → (p ≡ true) × (s' ≡ t')
  performed_alike e = (h.same.1 (ap (λ w. answers w cs) e), h.one ∙ ap (λ w. after_calls w cs) e ∙ sym h.other)
