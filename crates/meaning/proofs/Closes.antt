-- What a close does to what a store holds. Assumes nothing.
use Rattle.std.proofs.Common.{◌≡◌, ℕ, suc, ◌+◌, ◌-◌, ◌<◌, ◌≤◌, Bool, true, false, cond, eqb, List, ◌∷◌, map, set, Some, None, sym, refl, ap, ◌∙◌, inl, inr, arith}
use Rattle.std.specs.List.{range_with_len}
use Rattle.std.proofs.lemmas.Bool.{cases_eq, cases_Bool, eq-eqb, ne_eqb, false≢true}
use Rattle.scales.specs.Algebra.{Algebra}
use Rattle.stores.specs.Meaning.{Meaning, Sound, high_of, record_at, written, forgotten}
use Rattle.lines.specs.declared.line.Line.{Line}
use Rattle.logic.specs.History.{History, close, high, opened}
use Rattle.logic.proofs.Events.{row_close_stays}
use Rattle.meaning.specs.Records.{flag, record_of, width}
use Rattle.meaning.specs.Kept.{lowest, lowest_open, low, keeping, meaning, Represents}
use Rattle.meaning.specs.Walking.{Writes, is_open}
use Rattle.meaning.proofs.Listed.{listed_set, listed_drop}
use Rattle.meaning.proofs.Lows.{low_below, low_first, low_open, low_fewer, lowest_same, lowest_skip}
use Rattle.meaning.proofs.Reports.{kept_is}
use Rattle.meaning.proofs.Walks.{highs, lows}
use Rattle.meaning.proofs.Owns.{kept_held}

pub flag_one : (b : Bool) → eqb (flag b) 1 ≡ b
flag_one true = refl
flag_one false = refl

-- one turn of the search for the lowest open run
module _ (m : Meaning) (s end : ℕ) (rec : List ℕ) (lt : s < end) (read : rec ≡ record_at m s) where
  one : lowest (λ j. is_open (record_at m j)) s (end - s) ≡ cond (is_open rec) (Some s) (lowest (λ j. is_open (record_at m j)) (s + 1) (end - (s + 1)))
  one =
      let k : end - s ≡ suc (end - (s + 1)) = omega arith in
      ap (lowest (λ j. is_open (record_at m j)) s) k ∙ ap (λ r. cond (is_open r) (Some s) (lowest (λ j. is_open (record_at m j)) (s + 1) (end - (s + 1)))) (sym read)

  pub search_stops : is_open rec ≡ true → lowest (λ j. is_open (record_at m j)) s (end - s) ≡ Some s
  search_stops e = one ∙ ap (λ b. cond b (Some s) (lowest (λ j. is_open (record_at m j)) (s + 1) (end - (s + 1)))) e

  pub search_goes : is_open rec ≡ false → lowest (λ j. is_open (record_at m j)) (s + 1) (end - (s + 1)) ≡ lowest (λ j. is_open (record_at m j)) s (end - s)
  search_goes e = sym (one ∙ ap (λ b. cond b (Some s) (lowest (λ j. is_open (record_at m j)) (s + 1) (end - (s + 1)))) e)

pub search_ends : (t : ℕ → Bool) (s end : ℕ) → end ≤ s → lowest t s (end - s) ≡ None
search_ends t s end le = let k : end - s ≡ 0 = omega arith in ap (lowest t s) k

module _ (S : Algebra) (ls : List Line) (atoms limit : ℕ) (h : History) (r : ℕ) where
  abbrev next : History
  next = close r ∷ h

  record_other : (j : ℕ) → (j ≡ r → ⊥) → record_of S ls next j ≡ record_of S ls h j
  record_other j ne = rw (ne_eqb j r ne, row_close_stays S ls h r j)

  pub record_closed : set (record_of S ls h r) 0 0 ≡ record_of S ls next r
  record_closed = rw (eq-eqb r r refl, row_close_stays S ls h r r)

  less : (j : ℕ) → opened next j ≡ true → opened h j ≡ true
  less j e = elim (cases_eq j r) [
    | inl same ↦ absurd (false≢true (sym (ap (λ b. cond b false (opened h j)) (eq-eqb j r same)) ∙ e))
    | inr other ↦ sym (ap (λ b. cond b false (opened h j)) (ne_eqb j r other)) ∙ e
  ]

  pub low_more : low h ≤ low next
  low_more = low_fewer next h refl less

  below_closed : (j : ℕ) → 1 ≤ j → j < low h → opened next j ≡ false
  below_closed j a b = elim (cases_Bool (opened next j)) [
    | inl e ↦ let le = low_below h in let k = (low_open h j a (omega arith) (less j e)).0 in absurd (omega arith)
    | inr e ↦ e
  ]

  -- once the run's first byte is 0
  pub closed_is : low h ≤ r → r ≤ high h → written (meaning S ls atoms limit h) r (record_of S ls next r) ≡ keeping ls atoms limit h (record_of S ls next)
  closed_is lo hi =
      ap (λ (x : List (List ℕ)). record { width = width atoms ls; limit = limit; low = low h; records = x })
      (sym (listed_set (record_of S ls h) (record_of S ls next) (low h) (high h + 1 - low h) r (record_of S ls next r) lo (omega arith) refl (λ j a b ne. record_other j ne)))

  module _ (m : Meaning) (m-is : m ≡ keeping ls atoms limit h (record_of S ls next)) (sound : Sound m) where
    open_is : (j : ℕ) → low h ≤ j → j ≤ high h → is_open (record_at m j) ≡ opened next j
    open_is j a b = ap is_open (ap (λ (x : Meaning). record_at x j) m-is ∙ kept_is ls atoms limit h (record_of S ls next) j a b) ∙ flag_one (opened next j)

    -- the search over what is kept finds the lowest open run of all
    pub search_is : lowest (λ j. is_open (record_at m j)) m.low (high_of m + 1 - m.low) ≡ lowest_open next
    search_is =
        let t = highs S ls atoms limit h m (record_of S ls next) m-is sound in
        let l = lows S ls atoms limit h m (record_of S ls next) m-is sound in
        let b = low_below h in
        let f : ℕ → Bool = λ j. is_open (record_at m j) in
        let from_one = low_first_is in
        let n : (low h - 1) + (high h + 1 - low h) ≡ high h = omega arith in
        let at : 1 + (low h - 1) ≡ low h = omega arith in
        ap (λ i. lowest f i (high_of m + 1 - i)) l ∙ ap (λ i. lowest f (low h) (i + 1 - low h)) t
        ∙ lowest_same (opened next) f (high h + 1 - low h) (low h) (λ j x y. open_is j x (omega arith))
        ∙ ap (λ i. lowest (opened next) i (high h + 1 - low h)) (sym at)
        ∙ sym (lowest_skip (opened next) (low h - 1) (high h + 1 - low h) 1 (λ j x y. below_closed j x (omega arith)))
        ∙ ap (lowest (opened next) 1) n
      where
        low_first_is : 1 ≤ low h
        low_first_is = low_first h

    -- the runs below the new lowest are dropped
    pub close_drops : (m' : Meaning) → m' ≡ forgotten m (low next) → m' ≡ meaning S ls atoms limit next
    close_drops m' gone =
        let le : low next ≤ high h + 1 = low_below next in
        let more = low_more in
        let at : low h + (low next - low h) ≡ low next = omega arith in
        let n : high h + 1 - low h - (low next - low h) ≡ high h + 1 - low next = omega arith in
        gone ∙ ap (λ (x : Meaning). forgotten x (low next)) m-is
        ∙ ap (λ (x : List (List ℕ)). record { width = width atoms ls; limit = limit; low = low next; records = x })
        (sym (listed_drop (record_of S ls next) (low h) (high h + 1 - low h) (low next - low h) (omega arith))
        ∙ ap (λ i. map (record_of S ls next) (range_with_len i (high h + 1 - low h - (low next - low h)))) at
        ∙ ap (λ k. map (record_of S ls next) (range_with_len (low next) k)) n)

-- a run's first byte set to 0 and written
pub closes : (S : Algebra) (ls : List Line) (atoms : ℕ) (h : History) (run : ℕ) (m m' : Meaning) (rec : List ℕ) (len : ℕ) → Represents S ls atoms m h → Sound m →
    len ≡ width atoms ls → low h ≤ run → run ≤ high h → rec ≡ set (record_of S ls h run) 0 0 → Writes m m' len run rec → m' ≡ keeping ls atoms m.limit h (record_of S ls (close run ∷ h))
closes S ls atoms h run m m' rec len rep sound long lo most is wrote =
    wrote (kept_held S ls atoms h m rep sound run len lo most long)
    ∙ ap (λ (x : Meaning). written x run rec) rep
    ∙ ap (written (meaning S ls atoms m.limit h) run) (is ∙ record_closed S ls atoms m.limit h run)
    ∙ closed_is S ls atoms m.limit h run lo most
