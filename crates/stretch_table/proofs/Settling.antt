-- The record of a run that has an entry of its own replaced, and that entry joined with its neighbours. Assumes nothing.
use Rattle.std.proofs.Common.{◌≡◌, ℕ, ◌-◌, ◌<◌, ◌≤◌, List, [], ◌∷◌, ◌++◌, length, set, vec_items, sym, ap, ◌∙◌, subst, append_assoc, arith}
use Rattle.std.proofs.lemmas.List.{length_push, length-set, nil_from_length}
use Rattle.stores.specs.declared.bounds.Bounds.{Bounds}
use Rattle.stretch_table.specs.Stretches.{Stretch, stretch, records_of, fused, Few, Follow, Differ}
use Rattle.stretch_table.specs.Entries.{Isolated, Grouped}
use Rattle.stretch_table.specs.Held.{held, SameRoom, Turns}
use Rattle.stretch_table.specs.declared.entries.Entries.{Entries}
use Rattle.stretch_table.proofs.Grouping.{runs, runs_append, few_from, fused_differ, fused_at, differ_fused, ending}
use Rattle.stretch_table.proofs.Held.{many, read_back, holds_as}
use Rattle.stretch_table.proofs.Writing.{set_one}

-- what `join` promises
abbrev Joins : Entries → Entries → ℕ → Type 0
Joins old new i = (A B : List Stretch) (e : Stretch) → held old ≡ A ++ (e ∷ B) → length A ≡ i → Few e B → held new ≡ A ++ fused e B

module _ (es : Entries) (rs : List (List ℕ)) (run at : ℕ) (s : Isolated es.bounds rs run at es.used (vec_items es.bytes)) (few : length rs ≤ 1000000) (rec : List ℕ) where
  abbrev b : Bounds
  b = es.bounds

  abbrev new : Stretch
  new = stretch s.here.first s.here.count rec

  abbrev set_there : List Stretch
  set_there = s.front ++ (new ∷ s.back)

  wrote : (records_of set_there ≡ set (records_of (s.front ++ (s.here ∷ s.back))) (run - b.low) rec) × Follow b.low set_there
  wrote = set_one b.low s.front s.back s.here run rec s.follow s.first s.count

  records_set : records_of set_there ≡ set rs (run - b.low) rec
  records_set = wrote.0 ∙ ap (λ l. set l (run - b.low) rec) s.records

  runs_few : runs set_there ≤ 1000000
  runs_few = omega (arith, ap length records_set, length-set rs (run - b.low) rec)

  module _ (es₁ es₂ : Entries) (sets : Turns es es₁ at (λ e. stretch e.first e.count rec ∷ [])) (joins : Joins es₁ es₂ at) where
    abbrev next : List Stretch
    next = fused new s.back

    joined : held es₂ ≡ s.front ++ next
    joined =
        joins s.front s.back new (sets s.front s.back s.here (read_back b.width es.used _ (vec_items es.bytes) s.holds s.all) s.place) s.place
        (few_from new s.back (omega (arith, runs_few, runs_append s.front (new ∷ s.back))))

    fine : Follow b.low (s.front ++ next) × (records_of (s.front ++ next) ≡ records_of set_there)
    fine = fused_at b.low s.front s.back new wrote.1

    pub settled_first : SameRoom es es₂ → at ≡ 0 → Grouped b (set rs (run - b.low) rec) es₂.used (vec_items es₂.bytes)
    settled_first same first =
        let none : s.front ≡ [] = nil_from_length s.front (s.place ∙ first) in
        record {
          held = s.front ++ next;
          holds = holds_as es es₂ (s.front ++ next) same joined;
          all = ap length (sym joined) ∙ many es₂;
          follow = fine.0;
          differ = subst (λ A. Differ (A ++ next)) (sym none) (fused_differ new s.back s.differ_back);
          records = fine.1 ∙ records_set;
        }

    pub settled : (es₃ : Entries) → SameRoom es es₃ → 0 < at → Joins es₂ es₃ (at - 1) → Grouped b (set rs (run - b.low) rec) es₃.used (vec_items es₃.bytes)
    settled es₃ same some joins-again =
        let e = ending s.front (omega (arith, s.place)) in
        let A = e.front in
        let p = e.last in
        let regroup : s.front ++ next ≡ A ++ (p ∷ next) = ap (λ l. l ++ next) e.is ∙ append_assoc A (p ∷ []) next in
        let place : length A ≡ at - 1 = omega (arith, s.place, ap length e.is, length_push A p) in
        let follow : Follow b.low (A ++ (p ∷ next)) = subst (Follow b.low) regroup fine.0 in
        let total : runs (A ++ (p ∷ next)) ≤ 1000000 = omega (arith, runs_few, ap runs (sym regroup) ∙ ap length fine.1) in
        let last = joins-again A next p (joined ∙ regroup) place (few_from p next (omega (arith, runs_append A (p ∷ next)))) in
        let done = fused_at b.low A next p follow in
        record {
          held = A ++ fused p next;
          holds = holds_as es es₃ (A ++ fused p next) same last;
          all = ap length (sym last) ∙ many es₃;
          follow = done.0;
          differ = differ_fused A p next (subst Differ e.is s.differ_front) (fused_differ new s.back s.differ_back);
          records = done.1 ∙ ap records_of (sym regroup) ∙ fine.1 ∙ records_set;
        }
