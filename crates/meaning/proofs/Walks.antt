-- One run more of a walk up from a reported run. Assumes nothing.
use Rattle.std.proofs.Common.{◌≡◌, ℕ, zero, suc, ◌+◌, ◌<◌, ◌≤◌, min, Bool, true, false, ◌⊎◌, List, [], ◌∷◌, length, sym, refl, ap, ◌∙◌, subst, inl, inr, add-one, arith}
use Rattle.std.proofs.lemmas.Bool.{cases_lt, both_ways}
use Rattle.scales.specs.Algebra.{Algebra}
use Rattle.stores.specs.Meaning.{Meaning, Sound, high_of, record_at, written}
use Rattle.lines.specs.declared.line.Line.{Line}
use Rattle.logic.specs.History.{History, report, high, present}
use Rattle.logic.specs.Reach.{Stays}
use Rattle.logic.specs.Rows.{row, step}
use Rattle.logic.proofs.Events.{no_gap}
use Rattle.logic.proofs.Reaches.{count_stops}
use Rattle.meaning.specs.Records.{record_of, width, state_of, truths_of, past_of, with_truths}
use Rattle.meaning.specs.Kept.{low, keeping}
use Rattle.meaning.specs.Walking.{Held, Writes, Judged, Turned, mix, mixed, Reported, Begun, Sofar, Done, Looking, Seen, Looked}
use Rattle.meaning.proofs.Reports.{high_is, kept_is, kept_long, mix_old, mixed_next, mixed_last, record_same, later_record, later_truths, later_row, old_long}

-- a run that a store keeps as h has it
module _ (S : Algebra) (ls : List Line) (atoms limit : ℕ) (h : History) (m : Meaning) (fn : ℕ → List ℕ) (m-is : m ≡ keeping ls atoms limit h fn) (sound : Sound m) where
  pub highs : high_of m ≡ high h
  highs = ap high_of m-is ∙ high_is ls atoms limit h fn

  pub wide : m.width ≡ width atoms ls
  wide = ap (λ (x : Meaning). x.width) m-is

  pub lows : m.low ≡ low h
  lows = ap (λ (x : Meaning). x.low) m-is

  pub held : (j len : ℕ) → low h ≤ j → j ≤ high h → len ≡ width atoms ls → Held m len j
  held j len a b e = let hi = highs in let lo = lows in record { long = e ∙ sym wide; above = omega arith; inside = omega arith }

  module _ (j : ℕ) (above : low h ≤ j) (inside : j ≤ high h) (fn_is : fn j ≡ record_of S ls h j) where
    pub read_is : record_at m j ≡ record_of S ls h j
    read_is = ap (λ (x : Meaning). record_at x j) m-is ∙ kept_is ls atoms limit h fn j above inside ∙ fn_is

    pub state_long : length (present h j) ≡ atoms
    state_long = old_long S ls atoms limit h 0 [] j (ap length (sym fn_is) ∙ kept_long ls atoms limit h fn (subst Sound m-is sound) j above inside)

-- a later run judged with the new row of the run before, where a lower run is reported
module _ (S : Algebra) (ls : List Line) (atoms : ℕ) (h : History) (r : ℕ) (q : List ℕ) (ok : Reported S ls atoms r h) (s : ℕ) (up : r ≤ s)
    (x previous out rec : List ℕ) (x-is : x ≡ record_of S ls h (s + 1)) (long : length (present h (s + 1)) ≡ atoms)
    (previous_is : previous ≡ row S ls (report r q ∷ h) s) (judged : Judged S ls atoms x previous out rec) where
  some : 1 ≤ s
  some = let one = ok.some in omega arith

  pub new_row : out ≡ row S ls (report r q ∷ h) (s + 1)
  new_row =
      judged.row_is ∙ ap (λ y. step S ls (state_of atoms y) (past_of atoms (length ls) y) previous) x-is
      ∙ later_row S ls atoms 0 h r q ok.lawful s up some long previous previous_is

  old_row : truths_of atoms (length ls) x ≡ row S ls h (s + 1)
  old_row = ap (truths_of atoms (length ls)) x-is ∙ later_truths S ls atoms 0 h r q ok.lawful s up some long

  pub new_record : rec ≡ record_of S ls (report r q ∷ h) (s + 1)
  new_record =
      judged.rec_is ∙ ap (λ o. with_truths atoms o x) new_row ∙ ap (with_truths atoms (row S ls (report r q ∷ h) (s + 1))) x-is
      ∙ later_record S ls atoms 0 h r q ok.lawful s up some long

  pub same_row : out ≡ truths_of atoms (length ls) x → Stays S ls h r q (s + 1)
  same_row e = sym new_row ∙ e ∙ old_row

  pub moved_more : (out ≡ truths_of atoms (length ls) x → ⊥) → ((t : ℕ) → r < t → t ≤ s → Stays S ls h r q t → ⊥) → (t : ℕ) → r < t → t ≤ s + 1 → Stays S ls h r q t → ⊥
  moved_more differ moved t a b e = elim (cases_lt s t) [
    | inl l ↦ let here : t ≡ s + 1 = omega arith in differ (new_row ∙ ap (row S ls (report r q ∷ h)) (sym here) ∙ e ∙ ap (row S ls h) here ∙ sym old_row)
    | inr l ↦ moved t a l e
  ]

not_yes : (b : Bool) {P : Type 0} → b ≡ false → (P → b ≡ true) → P → ⊥
not_yes b off on p = both_ways b off (on p)

-- the walk that writes
module _ (S : Algebra) (ls : List Line) (atoms : ℕ) (m₀ : Meaning) (rec₀ previous₀ : List ℕ) (r limit : ℕ) (h : History) (q : List ℕ)
    (b : Begun S ls atoms m₀ rec₀ previous₀ r limit h q) where
  pub sofar_first : Sofar S ls atoms m₀ rec₀ previous₀ r r limit h q
  sofar_first = record { model_is = b.model_is; rec_is = b.rec_is; previous_is = b.previous_is; within = b.reported.most; moved = λ t x y. absurd (omega arith) }

  pub same_high : (m : Meaning) (rec previous : List ℕ) (s : ℕ) → Sofar S ls atoms m rec previous r s limit h q → high_of m₀ ≡ high_of m
  same_high m rec previous s f =
      ap high_of b.model_is ∙ high_is ls atoms limit h (mix S ls h r q r)
      ∙ sym (ap high_of f.model_is ∙ high_is ls atoms limit h (mix S ls h r q s))

  module _ (m : Meaning) (rec previous : List ℕ) (s : ℕ) (sound : Sound m) (up : r ≤ s) (f : Sofar S ls atoms m rec previous r s limit h q) where
    finish : (rec' : List ℕ) → rec' ≡ record_of S ls (report r q ∷ h) (min (s + 1) (high h)) → (s ≡ high h) ⊎ Stays S ls h r q (suc s) → Done S ls atoms m rec' r s limit h q
    finish rec' is why =
        let ok = b.reported.lawful in
        let c = count_stops S ok.laws atoms ls ok.formed h r q s up f.within f.moved why in
        let e = c.0 in
        record { model_is = f.model_is ∙ mixed_last S ls atoms limit h r q s up c.1; last_is = omega arith; rec_is = is }

    pub ended : high_of m ≤ s → Done S ls atoms m rec r s limit h q
    ended le =
        let t = highs S ls atoms limit h m (mix S ls h r q s) f.model_is sound in
        let w = f.within in
        let at : s ≡ min (s + 1) (high h) = omega arith in
        finish rec (f.rec_is ∙ ap (record_of S ls (report r q ∷ h)) at) (inl (omega arith))

    module _ (len : ℕ) (out rec' : List ℕ) (same : Bool) (long : len ≡ width atoms ls) (lt : s < high_of m)
        (turned : Held m len (s + 1) → Turned S ls atoms (record_at m (s + 1)) previous out rec' same) where
      inside : s + 1 ≤ high h
      inside = let t = highs S ls atoms limit h m (mix S ls h r q s) f.model_is sound in omega arith

      above : low h ≤ s + 1
      above = let k = b.reported.kept in omega arith

      here : mix S ls h r q s (s + 1) ≡ record_of S ls h (s + 1)
      here = mix_old S ls atoms limit h r q s (s + 1) (omega arith)

      it_held : Held m len (s + 1)
      it_held = held S ls atoms limit h m (mix S ls h r q s) f.model_is sound (s + 1) len above inside long

      turn_is : Turned S ls atoms (record_at m (s + 1)) previous out rec' same
      turn_is = turned it_held

      old : record_at m (s + 1) ≡ record_of S ls h (s + 1)
      old = read_is S ls atoms limit h m (mix S ls h r q s) f.model_is sound (s + 1) above inside here

      state : length (present h (s + 1)) ≡ atoms
      state = state_long S ls atoms limit h m (mix S ls h r q s) f.model_is sound (s + 1) above inside here

      fresh : rec' ≡ record_of S ls (report r q ∷ h) (s + 1)
      fresh = new_record S ls atoms h r q b.reported s up (record_at m (s + 1)) previous out rec' old state f.previous_is turn_is.judged

      pub stays : same ≡ true → Done S ls atoms m rec' r s limit h q
      stays on =
          let i = inside in
          let at : s + 1 ≡ min (s + 1) (high h) = omega arith in
          finish rec' (fresh ∙ ap (record_of S ls (report r q ∷ h)) at)
          (inr (subst (Stays S ls h r q) (add-one s)
          (same_row S ls atoms h r q b.reported s up (record_at m (s + 1)) previous out rec' old state f.previous_is turn_is.judged (turn_is.stays.0 on))))

      pub moves : (m' : Meaning) (previous' : List ℕ) → same ≡ false → Writes m m' len (s + 1) rec' → previous' ≡ out → Sofar S ls atoms m' rec' previous' r (s + 1) limit h q
      moves m' previous' off wrote copied = record {
        model_is =
            wrote it_held
            ∙ ap (λ (x : Meaning). written x (s + 1) rec') f.model_is
            ∙ ap (written (mixed S ls atoms limit h r q s) (s + 1)) fresh
            ∙ mixed_next S ls atoms limit h r q s above inside;
        rec_is = fresh;
        previous_is = copied ∙ new_row S ls atoms h r q b.reported s up (record_at m (s + 1)) previous out rec' old state f.previous_is turn_is.judged;
        within = inside;
        moved =
            moved_more S ls atoms h r q b.reported s up (record_at m (s + 1)) previous out rec' old state f.previous_is turn_is.judged
            (not_yes same off turn_is.stays.1) f.moved;
      }

-- the walk that only looks
module _ (S : Algebra) (ls : List Line) (atoms : ℕ) (m : Meaning) (rec₀ previous₀ : List ℕ) (r : ℕ) (h : History) (q : List ℕ) (sound : Sound m)
    (b : Looking S ls atoms m rec₀ previous₀ r h q) where
  pub seen_first : Seen S ls rec₀ previous₀ r r h q
  seen_first = record { rec_is = b.rec_is; previous_is = b.previous_is; within = b.reported.most }

  pub look_ended : (rec previous : List ℕ) (s : ℕ) → Seen S ls rec previous r s h q → high_of m ≤ s → Looked S ls rec r s h q
  look_ended rec previous s f le =
      let t = highs S ls atoms m.limit h m (record_of S ls h) b.model_is sound in
      let w = f.within in
      let at : s ≡ min (s + 1) (high h) = omega arith in
      record { rec_is = f.rec_is ∙ ap (record_of S ls (report r q ∷ h)) at; rest = λ l. absurd (omega arith) }

  module _ (rec previous : List ℕ) (s : ℕ) (up : r ≤ s) (f : Seen S ls rec previous r s h q) (len : ℕ) (out rec' : List ℕ) (same : Bool) (long : len ≡ width atoms ls) (lt : s < high_of m)
      (turned : Held m len (s + 1) → Turned S ls atoms (record_at m (s + 1)) previous out rec' same) where
    look_inside : s + 1 ≤ high h
    look_inside = let t = highs S ls atoms m.limit h m (record_of S ls h) b.model_is sound in omega arith

    look_above : low h ≤ s + 1
    look_above = let k = b.reported.kept in omega arith

    look_turn : Turned S ls atoms (record_at m (s + 1)) previous out rec' same
    look_turn = turned (held S ls atoms m.limit h m (record_of S ls h) b.model_is sound (s + 1) len look_above look_inside long)

    look_old : record_at m (s + 1) ≡ record_of S ls h (s + 1)
    look_old = read_is S ls atoms m.limit h m (record_of S ls h) b.model_is sound (s + 1) look_above look_inside refl

    look_state : length (present h (s + 1)) ≡ atoms
    look_state = state_long S ls atoms m.limit h m (record_of S ls h) b.model_is sound (s + 1) look_above look_inside refl

    look_fresh : rec' ≡ record_of S ls (report r q ∷ h) (s + 1)
    look_fresh = new_record S ls atoms h r q b.reported s up (record_at m (s + 1)) previous out rec' look_old look_state f.previous_is look_turn.judged

    pub look_stays : same ≡ true → Looked S ls rec' r s h q
    look_stays on =
        let i = look_inside in
        let at : s + 1 ≡ min (s + 1) (high h) = omega arith in
        let next-stays = same_row S ls atoms h r q b.reported s up (record_at m (s + 1)) previous out rec' look_old look_state f.previous_is look_turn.judged (look_turn.stays.0 on) in
        record {
          rec_is = look_fresh ∙ ap (record_of S ls (report r q ∷ h)) at;
          rest = λ l. record_same S ls atoms 0 h r q (high h) (λ e. omega arith) (up_to next-stays (high h) (omega arith));
        }
      where
        up_to : Stays S ls h r q (s + 1) → (n : ℕ) → s < n → Stays S ls h r q n
        up_to e zero l = absurd (omega arith)
        up_to e (suc n) l = elim (cases_lt s n) [
          | inl y ↦ let ok = b.reported.lawful in no_gap S ok.laws atoms ls ok.formed h r q n (omega arith) (up_to e n y)
          | inr y ↦ let here : s + 1 ≡ suc n = omega arith in subst (Stays S ls h r q) here e
        ]

    pub look_moves : (previous' : List ℕ) → previous' ≡ out → Seen S ls rec' previous' r (s + 1) h q
    look_moves previous' copied = record {
      rec_is = look_fresh;
      previous_is = copied ∙ new_row S ls atoms h r q b.reported s up (record_at m (s + 1)) previous out rec' look_old look_state f.previous_is look_turn.judged;
      within = look_inside;
    }
