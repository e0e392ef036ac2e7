-- An entry that is joined with the next one, and one that is not. Assumes nothing.
use Rattle.std.proofs.Common.{◌≡◌, ℕ, ◌+◌, ◌^◌, ◌<◌, List, [], ◌∷◌, ◌++◌, length, sym, ap, ◌∙◌, append_assoc, arith, length-append}
use Rattle.std.specs.Str.{bytes_eq}
use Rattle.std.proofs.lemmas.List.{length_push}
use Rattle.std.proofs.lemmas.Bool.{cond-true, cond-false}
use Rattle.stretch_table.specs.Stretches.{Stretch, stretch, fused, Few}
use Rattle.stretch_table.specs.Held.{held, entry_at, Turns}
use Rattle.stretch_table.specs.declared.entries.Entries.{Entries}
use Rattle.stretch_table.proofs.Held.{many, entry_is}
use Rattle.stretch_table.proofs.Stretches.{same_bytes, same_not}

module _ (es : Entries) (i : ℕ) (A : List Stretch) (e : Stretch) where
  -- there is none behind it
  pub join_last : (B : List Stretch) → held es ≡ A ++ (e ∷ B) → length A ≡ i → i + 1 ≡ es.used → held es ≡ A ++ fused e B
  join_last [] is place last = is
  join_last (f ∷ B) is place last = absurd (omega (arith, many es, ap length is, length-append A (e ∷ f ∷ B)))

  module _ (f : Stretch) (B : List Stretch) (is : held es ≡ A ++ (e ∷ f ∷ B)) (place : length A ≡ i) where
    here : entry_at es i ≡ e
    here = entry_is es i A (f ∷ B) e is place

    next : entry_at es (i + 1) ≡ f
    next = entry_is es (i + 1) (A ++ (e ∷ [])) B f (is ∙ sym (append_assoc A (e ∷ []) (f ∷ B))) (length_push A e ∙ ap (λ k. k + 1) place)

  -- the next has another record
  pub join_other : (B : List Stretch) → held es ≡ A ++ (e ∷ B) → length A ≡ i → ((entry_at es i).kept ≡ (entry_at es (i + 1)).kept → ⊥) → held es ≡ A ++ fused e B
  join_other [] is place other = is
  join_other (f ∷ B) is place other =
      let kept = λ (s : Stretch). s.kept in
      let differ = same_not e.kept f.kept (λ same. other (ap kept (here f B is place) ∙ same ∙ ap kept (sym (next f B is place)))) in
      is ∙ ap (λ l. A ++ l) (sym (cond-false _ _ _ differ))

  -- the next has the same record
  pub join_same : (es₁ es₂ : Entries) (first count : ℕ) (B : List Stretch) → held es ≡ A ++ (e ∷ B) → length A ≡ i → i + 1 < es.used
      → (entry_at es i).kept ≡ (entry_at es (i + 1)).kept
      → first ≡ (entry_at es i).first → ((entry_at es i).count + (entry_at es (i + 1)).count < 2 ^ 32 → count ≡ (entry_at es i).count + (entry_at es (i + 1)).count) → Few e B
      → Turns es es₁ i (λ s. stretch first count s.kept ∷ [])
      → ((A O B : List Stretch) → held es₁ ≡ A ++ (O ++ B) → length A ≡ i + 1 → length A + length O ≡ i + 2 → held es₂ ≡ A ++ B)
      → held es₂ ≡ A ++ fused e B
  join_same es₁ es₂ first count [] is place more same first_is sum few turns removes = absurd (omega (arith, many es, ap length is, length-append A (e ∷ [])))
  join_same es₁ es₂ first count (f ∷ B) is place more same first_is sum few turns removes =
      let at = here f B is place in
      let behind = next f B is place in
      let new = stretch first count e.kept in
      let one : held es₁ ≡ (A ++ (new ∷ [])) ++ ((f ∷ []) ++ B) = turns A (f ∷ B) e is place ∙ sym (append_assoc A (new ∷ []) (f ∷ B)) in
      let two = removes (A ++ (new ∷ [])) (f ∷ []) B one (length_push A new ∙ ap (λ k. k + 1) place) (omega (arith, length_push A new)) ∙ append_assoc A (new ∷ []) B in
      let both : (entry_at es i).count + (entry_at es (i + 1)).count ≡ e.count + f.count = λ j. (at j).count + (behind j).count in
      let equal : e.kept ≡ f.kept = ap (λ (s : Stretch). s.kept) (sym at) ∙ same ∙ ap (λ (s : Stretch). s.kept) behind in
      let new_is : new ≡ stretch e.first (e.count + f.count) e.kept = λ j. stretch ((first_is ∙ ap (λ (s : Stretch). s.first) at) j) ((sum (omega arith) ∙ both) j) e.kept in
      two ∙ ap (λ s. A ++ (s ∷ B)) new_is ∙ ap (λ l. A ++ l) (sym (cond-true _ _ _ (ap (λ k. bytes_eq e.kept k) (sym equal) ∙ same_bytes e.kept)))
