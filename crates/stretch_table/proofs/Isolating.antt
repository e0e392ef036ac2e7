-- The run that is written, cut out of the stretch that has it. Assumes nothing.
use Rattle.std.proofs.Common.{◌≡◌, ℕ, ◌+◌, ◌-◌, ◌*◌, ◌<◌, ◌≤◌, true, cond, List, ◌∷◌, ◌++◌, length, vec_items, sym, ap, ◌∙◌, subst, arith, length-append}
use Rattle.std.proofs.lemmas.Bool.Decides.{nat_tests}
use Rattle.stores.specs.declared.bounds.Bounds.{Bounds}
use Rattle.stretch_table.specs.Stretches.{Stretch, records_of, inside, pieces, Follow, Differ}
use Rattle.stretch_table.specs.Entries.{meaning_of, Kept, Isolated}
use Rattle.stretch_table.specs.Held.{held, entry_at, HasRoom, SameRoom, Turns}
use Rattle.stretch_table.specs.declared.entries.Entries.{Entries}
use Rattle.stretch_table.proofs.Finding.{total, follow_at, more_room}
use Rattle.stretch_table.proofs.Grouping.{runs}
use Rattle.stretch_table.proofs.Held.{many, entry_is, around, Around, holds_as, same_then}
use Rattle.stretch_table.proofs.Keeping.{differ_in}
use Rattle.stretch_table.proofs.Writing.{Cut, cut_before, Lone, cut_behind}

several : (e : Stretch) (run : ℕ) → inside e run ≡ true → 1 < e.count
several e run h = grind (arith, nat_tests)

module _ (es : Entries) (k : Kept es.bounds es.used (vec_items es.bytes)) (run i : ℕ) (lt : i < es.used) (from : (entry_at es i).first ≤ run) (to : run < (entry_at es i).first + (entry_at es i).count) where
  abbrev b : Bounds
  b = es.bounds

  abbrev m : List ℕ
  m = vec_items es.bytes

  abbrev here : Stretch
  here = entry_at es i

  f : Around b.width es.used m i
  f = around es i lt

  follow : Follow b.low (f.front ++ (here ∷ f.back))
  follow = follow_at b es.used m k f.front f.back here f.is

  all_runs : runs (f.front ++ (here ∷ f.back)) ≡ b.high + 1 - b.low
  all_runs = ap runs (sym f.is) ∙ total b es.used m k

  pub room_below : inside here run ≡ true → HasRoom es
  room_below h = more_room b es.used m k f.front f.back here es.used follow all_runs (ap length (sym f.is) ∙ many es) (several here run h)

  once : Cut b.low f.front f.back here run
  once = cut_before b.low f.front f.back here run follow (subst Differ f.is (differ_in b es.used m k)) from to

  module _ (es₁ : Entries) (at : ℕ) (value₁ : at ≡ cond (inside here run) (i + 1) i) (turns₁ : Turns es es₁ i (λ e. pieces e run)) (same₁ : SameRoom es es₁) where
    is₁ : held es₁ ≡ once.front ++ (once.here ∷ f.back)
    is₁ = turns₁ f.front f.back here f.is f.place ∙ once.is

    place₁ : length once.front ≡ at
    place₁ = once.place ∙ ap (λ n. cond (inside here run) (n + 1) n) f.place ∙ sym value₁

    pub within₁ : at < es₁.used
    within₁ = omega (arith, place₁, many es₁, ap length is₁, length-append once.front (once.here ∷ f.back))

    pub room_above : inside (entry_at es₁ at) (run + 1) ≡ true → HasRoom es₁
    room_above h =
        let reads = entry_is es₁ at once.front f.back once.here is₁ place₁ in
        let spare =
        more_room b es.used m k once.front f.back once.here es₁.used once.follow (ap length once.records ∙ all_runs) (ap length (sym is₁) ∙ many es₁)
        (several once.here (run + 1) (ap (λ s. inside s (run + 1)) (sym reads) ∙ h))
        in
        subst (λ (x : Bounds). es₁.used * (x.width + 8) + (x.width + 8) ≤ length (vec_items es₁.bytes)) (sym same₁.0) (omega (arith, same₁.1))

    twice : Lone b.low once.front f.back once.here run
    twice = cut_behind b.low once.front f.back once.here run once.follow once.differ_back once.first

    module _ (es₂ : Entries) (turns₂ : Turns es₁ es₂ at (λ e. pieces e (run + 1))) (same₂ : SameRoom es₁ es₂) where
      is₂ : held es₂ ≡ once.front ++ (twice.here ∷ twice.back)
      is₂ = turns₂ once.front f.back once.here is₁ place₁ ∙ twice.is

      pub within₂ : at < es₂.used
      within₂ = omega (arith, place₁, many es₂, ap length is₂, length-append once.front (twice.here ∷ twice.back))

      pub isolated : Isolated b (meaning_of b es.used m).records run at es₂.used (vec_items es₂.bytes)
      isolated =
          record {
            front = once.front;
            here = twice.here;
            back = twice.back;
            holds = holds_as es es₂ (once.front ++ (twice.here ∷ twice.back)) (same_then es es₁ es₂ same₁ same₂) is₂;
            place = place₁;
            all = ap length (sym is₂) ∙ many es₂;
            follow = twice.follow;
            first = twice.first;
            count = twice.count;
            differ_front = once.differ_front;
            differ_back = twice.differ_back;
            records = twice.records ∙ once.records ∙ ap records_of (sym f.is);
          }
