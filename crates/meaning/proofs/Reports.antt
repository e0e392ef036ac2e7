-- What a report does to records, and to what a store holds. Assumes nothing.
use Rattle.std.proofs.Common.{◌≡◌, ℕ, zero, suc, ◌+◌, ◌-◌, ◌<◌, ◌≤◌, List, [], ◌∷◌, ◌++◌, map, length, sym, refl, ap, ◌∙◌, inl, inr, add-one, arith}
use Rattle.std.specs.List.{range_with_len}
use Rattle.std.proofs.lemmas.List.FromFn.{length-map-range_with_len, get_or-map-range_with_len}
use Rattle.std.proofs.ByRecursion.{All-get_or}
use Rattle.std.proofs.lemmas.Bool.{cases_lt, lt-ltb, le-ltb, ne_eqb, eq-eqb}
use Rattle.scales.specs.Algebra.{Algebra}
use Rattle.stores.specs.Meaning.{Meaning, Sound, IsRecord, high_of, record_at, written}
use Rattle.lines.specs.declared.line.Line.{Line}
use Rattle.logic.specs.History.{History, report, high, present, opened, before, earlier_run}
use Rattle.logic.specs.Reach.{Stays}
use Rattle.logic.specs.Rows.{nos, row, step, reach}
use Rattle.logic.proofs.Rows.{length_row, length_before}
use Rattle.logic.proofs.Events.{report_row, row_below_stays}
use Rattle.logic.proofs.Reaches.{last_moved, runs_follow, stays_unmoved, differs_moved}
use Rattle.meaning.specs.Records.{flag, record_of, width, state_of, truths_of, past_of, with_truths, renewed}
use Rattle.meaning.specs.Kept.{low, keeping, meaning}
use Rattle.meaning.specs.Walking.{Lawful, mix, mixed}
use Rattle.meaning.specs.Reaching.{Reach, ReportsReach, StoreReach}
use Rattle.meaning.proofs.Listed.{listed_same, listed_set}
use Rattle.meaning.proofs.Lows.{low_below}
use Rattle.meaning.proofs.Records.{state_is, truths_is, past_is, with_is, renewed_is, long_state}

-- what a store has of a run, if it keeps f of each
module _ (ls : List Line) (atoms limit : ℕ) (h : History) (f : ℕ → List ℕ) where
  pub high_is : high_of (keeping ls atoms limit h f) ≡ high h
  high_is = let le = low_below h in let l = length-map-range_with_len f (low h) (high h + 1 - low h) in omega arith

  pub kept_is : (j : ℕ) → low h ≤ j → j ≤ high h → record_at (keeping ls atoms limit h f) j ≡ f j
  kept_is j a b = get_or-map-range_with_len f (low h) (high h + 1 - low h) (j - low h) j [] (omega arith) (omega arith)

  pub kept_long : Sound (keeping ls atoms limit h f) → (j : ℕ) → low h ≤ j → j ≤ high h → length (f j) ≡ width atoms ls
  kept_long s j a b =
      let l = length-map-range_with_len f (low h) (high h + 1 - low h) in
      ap length (sym (kept_is j a b)) ∙ (All-get_or (IsRecord (width atoms ls)) (map f (range_with_len (low h) (high h + 1 - low h))) (j - low h) [] (omega arith) s.fit).0

-- the run before, where it is below the newest of two histories
earlier_same : {A : Type 0} (d : A) (v w : ℕ → A) (r : ℕ) → ((j : ℕ) → j < r → v j ≡ w j) → earlier_run d v r ≡ earlier_run d w r
earlier_same d v w zero e = refl
earlier_same d v w (suc zero) e = refl
earlier_same d v w (suc (suc n)) e = e (suc n) (omega arith)

pub earlier_next : {A : Type 0} (d : A) (v : ℕ → A) (s : ℕ) → 1 ≤ s → earlier_run d v (s + 1) ≡ v s
earlier_next d v zero l = absurd (omega arith)
earlier_next d v (suc n) l = ap (earlier_run d v) (add-one (suc n))

module _ (S : Algebra) (ls : List Line) (atoms limit : ℕ) (h : History) (r : ℕ) (q : List ℕ) where
  abbrev next : History
  next = report r q ∷ h

  -- the record of another run whose row stays
  pub record_same : (j : ℕ) → (j ≡ r → ⊥) → Stays S ls h r q j → record_of S ls next j ≡ record_of S ls h j
  record_same j ne e = rw (ne_eqb j r ne, e)

  -- and of one whose row moves
  record_next : (j : ℕ) → (j ≡ r → ⊥) → record_of S ls next j ≡ flag (opened h j) ∷ (present h j ++ (row S ls next j ++ before (nos S ls) (row S ls) h j))
  record_next j ne = rw (ne_eqb j r ne)

  record_new : record_of S ls next r ≡ flag (opened h r) ∷ (q ++ (row S ls next r ++ row S ls h r))
  record_new = rw (eq-eqb r r refl)

  pub mix_new : (s j : ℕ) → j ≤ s → mix S ls h r q s j ≡ record_of S ls next j
  mix_new s j le = rw (le-ltb s j le)

  pub mix_old : (s j : ℕ) → s < j → mix S ls h r q s j ≡ record_of S ls h j
  mix_old s j l = rw (lt-ltb s j l)

  abbrev with_records : List (List ℕ) → Meaning
  with_records x = record { width = width atoms ls; limit = limit; low = low h; records = x }

  pub mixed_first : low h ≤ r → r ≤ high h → written (meaning S ls atoms limit h) r (record_of S ls next r) ≡ mixed S ls atoms limit h r q r
  mixed_first lo hi =
      ap with_records
      (sym (listed_set (record_of S ls h) (mix S ls h r q r) (low h) (high h + 1 - low h) r (record_of S ls next r) lo (omega arith) (mix_new r r (omega arith))
      (λ j a b ne. elim (cases_lt r j) [
        | inl l ↦ mix_old r j l
        | inr l ↦ mix_new r j l ∙ record_same j ne (row_below_stays S ls h r q j (below j r l ne))
      ])))
    where
      below : (a b : ℕ) → a ≤ b → (a ≡ b → ⊥) → a < b
      below a b le ne = elim (cases_lt a b) [ inl l ↦ l | inr l ↦ absurd (ne (omega arith)) ]

  pub mixed_next : (s : ℕ) → low h ≤ s + 1 → s + 1 ≤ high h →
      written (mixed S ls atoms limit h r q s) (s + 1) (record_of S ls next (s + 1)) ≡ mixed S ls atoms limit h r q (s + 1)
  mixed_next s lo hi =
      ap with_records
      (sym (listed_set (mix S ls h r q s) (mix S ls h r q (s + 1)) (low h) (high h + 1 - low h) (s + 1) (record_of S ls next (s + 1)) lo (omega arith) (mix_new (s + 1) (s + 1) (omega arith))
      (λ j a b ne. elim (cases_lt s j) [
        | inl l ↦ mix_old (s + 1) j (above s j l ne) ∙ sym (mix_old s j l)
        | inr l ↦ mix_new (s + 1) j (omega arith) ∙ sym (mix_new s j l)
      ])))
    where
      above : (a b : ℕ) → a < b → (b ≡ a + 1 → ⊥) → a + 1 < b
      above a b l ne = elim (cases_lt (a + 1) b) [ inl x ↦ x | inr x ↦ absurd (ne (omega arith)) ]

  pub mixed_last : (s : ℕ) → r ≤ s → ((j : ℕ) → s < j → j ≤ high h → Stays S ls h r q j) → mixed S ls atoms limit h r q s ≡ meaning S ls atoms limit next
  mixed_last s le stay =
      ap with_records
      (sym (listed_same (mix S ls h r q s) (record_of S ls next) (low h) (high h + 1 - low h)
      (λ j a b. elim (cases_lt s j) [
        | inl l ↦ record_same j (λ e. omega arith) (stay j l (omega arith)) ∙ sym (mix_old s j l)
        | inr l ↦ sym (mix_new s j l)
      ])))

  -- the reported run's row and record
  module _ (ok : Lawful S ls atoms) (long : length q ≡ atoms) (old : length (present h r) ≡ atoms) where
    pub own_record : with_truths atoms (row S ls next r) (renewed (length ls) q (record_of S ls h r)) ≡ record_of S ls next r
    own_record =
        ap (with_truths atoms (row S ls next r)) (renewed_is _ atoms (length ls) (present h r) (row S ls h r) _ old (length_row S ls h r) q long)
        ∙ with_is _ atoms (length ls) q (row S ls h r) (row S ls h r) long (length_row S ls h r) (row S ls next r) (length_row S ls next r)
        ∙ sym record_new

    -- what is judged with the row of the run before
    pub own_row : (previous : List ℕ) → previous ≡ earlier_run (nos S ls) (row S ls h) r →
        step S ls (state_of atoms (renewed (length ls) q (record_of S ls h r))) (past_of atoms (length ls) (renewed (length ls) q (record_of S ls h r))) previous ≡ row S ls next r
    own_row previous is =
        let x = renewed_is (flag (opened h r)) atoms (length ls) (present h r) (row S ls h r) (before (nos S ls) (row S ls) h r) old (length_row S ls h r) q long in
        let a = ap (state_of atoms) x ∙ state_is (flag (opened h r)) atoms (length ls) q (row S ls h r) (row S ls h r) long (length_row S ls h r) in
        let b = ap (past_of atoms (length ls)) x ∙ past_is (flag (opened h r)) atoms (length ls) q (row S ls h r) (row S ls h r) long (length_row S ls h r) in
        let p = is ∙ sym (earlier_same (nos S ls) (row S ls next) (row S ls h) r (λ j l. row_below_stays S ls h r q j l)) in
        (λ i. step S ls (a i) (b i) (p i)) ∙ sym (report_row S ok.laws atoms ls ok.formed h r q).0

  -- a later run's row and record, from the new row of the run before
  module _ (ok : Lawful S ls atoms) (s : ℕ) (up : r ≤ s) (some : 1 ≤ s) (old : length (present h (s + 1)) ≡ atoms) where
    apart : s + 1 ≡ r → ⊥
    apart e = omega arith

    pub later_record : with_truths atoms (row S ls next (s + 1)) (record_of S ls h (s + 1)) ≡ record_of S ls next (s + 1)
    later_record =
        with_is _ atoms (length ls) (present h (s + 1)) (row S ls h (s + 1)) _ old (length_row S ls h (s + 1)) (row S ls next (s + 1)) (length_row S ls next (s + 1))
        ∙ sym (record_next (s + 1) apart)

    pub later_truths : truths_of atoms (length ls) (record_of S ls h (s + 1)) ≡ row S ls h (s + 1)
    later_truths = truths_is (flag (opened h (s + 1))) atoms (length ls) (present h (s + 1)) (row S ls h (s + 1)) (before (nos S ls) (row S ls) h (s + 1)) old (length_row S ls h (s + 1))

    pub later_row : (previous : List ℕ) → previous ≡ row S ls next s →
        step S ls (state_of atoms (record_of S ls h (s + 1))) (past_of atoms (length ls) (record_of S ls h (s + 1))) previous ≡ row S ls next (s + 1)
    later_row previous is =
        let a = state_is (flag (opened h (s + 1))) atoms (length ls) (present h (s + 1)) (row S ls h (s + 1)) (before (nos S ls) (row S ls) h (s + 1)) old (length_row S ls h (s + 1)) in
        let b = past_is (flag (opened h (s + 1))) atoms (length ls) (present h (s + 1)) (row S ls h (s + 1)) (before (nos S ls) (row S ls) h (s + 1)) old (length_row S ls h (s + 1)) in
        let p = is ∙ sym (earlier_next (nos S ls) (row S ls next) s some) in
        (λ i. step S ls (a i) (b i) (p i)) ∙ sym ((report_row S ok.laws atoms ls ok.formed h r q).1 (s + 1) apart)

  -- how long a state is, by the width of what is kept
  pub old_long : (j : ℕ) → length (record_of S ls h j) ≡ width atoms ls → length (present h j) ≡ atoms
  old_long j w = long_state (flag (opened h j)) atoms (length ls) (present h j) (row S ls h j) (before (nos S ls) (row S ls) h j) (length_row S ls h j) (length_before S ls h j) w

pub reports_reach : ReportsReach
reports_reach S L n ls ok h r q hi =
    let last = last_moved S L n ls ok h r q hi in
    let top = last.0 in
    let up = last.1 in
    let most = last.2 in
    let size = last.3 in
    record {
      counted = refl;
      inside = omega arith;
      moved = λ s a b. elim (cases_lt s (r + reach S ls r q h)) [
        | inl l ↦ differs_moved S ls (report r q) h s ((runs_follow S L n ls ok h r q s a b).0 l) ∙ sym (lt-ltb s (r + reach S ls r q h) l)
        | inr l ↦ stays_unmoved S ls (report r q) h s ((runs_follow S L n ls ok h r q s a b).1 l) ∙ sym (le-ltb s (r + reach S ls r q h) l)
      ];
      stay = λ s le which. elim which [
        | inl l ↦ record_same S ls 0 0 h r q s (λ e. omega arith) (row_below_stays S ls h r q s l)
        | inr l ↦ record_same S ls 0 0 h r q s (λ e. omega arith) ((runs_follow S L n ls ok h r q s (omega arith) le).1 l)
      ];
    }

-- so in a store that represents the history before and the history after
pub store_reach : (S : Algebra) (ls : List Line) (atoms limit : ℕ) (h : History) (r : ℕ) (q : List ℕ) (m m' : Meaning) (count : ℕ) →
    m ≡ meaning S ls atoms limit h → m' ≡ meaning S ls atoms limit (report r q ∷ h) → Reach S ls h r q count → StoreReach m m' r count
store_reach S ls atoms limit h r q m m' count is is' reached =
    let next = report r q ∷ h in
    let high-m = ap high_of is ∙ high_is ls atoms limit h (record_of S ls h) in
    let high-m' = ap high_of is' ∙ high_is ls atoms limit next (record_of S ls next) in
    let low-m = ap (λ (x : Meaning). x.low) is in
    record {
      low_stays = ap (λ (x : Meaning). x.low) is' ∙ sym low-m;
      high_stays = high-m' ∙ sym high-m;
      stay = λ s a b which.
          ap (λ (x : Meaning). record_at x s) is' ∙ kept_is ls atoms limit next (record_of S ls next) s (omega arith) (omega arith)
          ∙ reached.stay s (omega arith) which
          ∙ sym (ap (λ (x : Meaning). record_at x s) is ∙ kept_is ls atoms limit h (record_of S ls h) s (omega arith) (omega arith));
    }
