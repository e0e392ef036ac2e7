use Rattle.std.proofs.Common.{◌≡◌, ℕ, ◌+◌, ◌-◌, Bool, true, false, ◌&&◌, ltb, [], ◌∷◌, ◌++◌, sym, ap, ◌∙◌, append_assoc}
use Rattle.std.proofs.lemmas.List.{length_push}
use Rattle.std.proofs.lemmas.Bool.{cond-true, cond-false}
use Rattle.stretch_table.specs.Stretches.{Stretch, stretch, inside, pieces}
use Rattle.stretch_table.proofs.Held.{entry_is}
use Rattle.stretch_table.proofs.entries.Entries.cut.Goals as goal

-- what the test says of the stretch that it reads
tested : (s : Stretch) (run first count : ℕ) (b t : Bool) → first ≡ s.first → count ≡ s.count → b ≡ (ltb first run && ltb (run - first) count) → b ≡ t → inside s run ≡ t
tested s run first count b t f n is was = sym (is ∙ (λ j. ltb (f j) run && ltb (run - f j) (n j))) ∙ was

pub returns-then-not-is_inside-clause-after : goal.returns-then-not-is_inside-clause-after
returns-then-not-is_inside-clause-after c =
    let es = c.args.self.now in
    let i = c.args.i in
    λ A B e is place.
    let at = entry_is es i A B e is place in
    let out = tested e c.args.run c.first-first.result c.count-count.result c.is_inside.result false
    (c.first-first.ensures.value ∙ ap (λ (s : Stretch). s.first) at) (c.count-count.ensures.value ∙ ap (λ (s : Stretch). s.count) at) c.is_inside.ensures.value c.if-not-is_inside.true
    in
    is ∙ ap (λ l. A ++ (l ++ B)) (sym (cond-false _ _ _ out))

pub returns-clause-after : goal.returns-clause-after
returns-clause-after c =
    let es = c.args.self.now in
    let i = c.args.i in
    let run = c.args.run in
    let f = c.first-first.result in
    let n = c.count-count.result in
    λ A B e is place.
    let at = entry_is es i A B e is place in
    let first : f ≡ e.first = c.first-first.ensures.value ∙ ap (λ (s : Stretch). s.first) at in
    let count : n ≡ e.count = c.count-count.ensures.value ∙ ap (λ (s : Stretch). s.count) at in
    let within = tested e run f n c.is_inside.result true first count c.is_inside.ensures.value c.if-not-is_inside.false in
    let l = stretch f (run - f) e.kept in
    let r = stretch run (n - (run - f)) e.kept in
    let lower = c.set_runs.ensures.after A (e ∷ B) e (c.double.ensures.after A B e is place) place in
    let both = c.set_runs-2.ensures.after (A ++ (l ∷ [])) B e (lower ∙ sym (append_assoc A (l ∷ []) (e ∷ B))) (length_push A l ∙ ap (λ k. k + 1) place) in
    let pieces_are : l ∷ r ∷ [] ≡ pieces e run = (λ j. stretch (first j) (run - first j) e.kept ∷ stretch run (count j - (run - first j)) e.kept ∷ []) ∙ sym (cond-true _ _ _ within) in
    both ∙ append_assoc A (l ∷ []) (r ∷ B) ∙ ap (λ x. A ++ (x ++ B)) pieces_are
