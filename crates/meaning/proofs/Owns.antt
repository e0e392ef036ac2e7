-- The reported run itself, the run below it, and a truth of a run. Assumes nothing.
use Rattle.std.proofs.Common.{◌≡◌, ℕ, zero, suc, ◌-◌, ◌<◌, ◌≤◌, true, List, ◌∷◌, length, get_or, replicate, sym, refl, ap, ◌∙◌, arith}
use Rattle.std.proofs.lemmas.List.{get_or_default}
use Rattle.scales.specs.Algebra.{Algebra}
use Rattle.stores.specs.Meaning.{Meaning, Sound, written}
use Rattle.lines.specs.declared.line.Line.{Line}
use Rattle.logic.specs.History.{History, report, high, present, opened, before, earlier_run}
use Rattle.logic.specs.Rows.{nos, row, step}
use Rattle.logic.proofs.Rows.{length_row, row_at}
use Rattle.meaning.specs.Records.{flag, record_of, width, state_of, truths_of, past_of, with_truths, renewed}
use Rattle.meaning.specs.Kept.{low, meaning, Represents}
use Rattle.meaning.specs.Calls.{line_truth}
use Rattle.meaning.specs.Walking.{Lawful, Held, Reads, Writes, Judged, Reported, Begun, Looking}
use Rattle.meaning.proofs.Lows.{low_open}
use Rattle.meaning.proofs.Reports.{mixed_first, own_record, own_row}
use Rattle.meaning.proofs.Records.{truths_is}
use Rattle.meaning.proofs.Walks.{held, read_is, state_long}

earlier_is : {A : Type 0} (d : A) (f : ℕ → A) (r : ℕ) → 1 < r → earlier_run d f r ≡ f (r - 1)
earlier_is d f zero l = absurd (omega arith)
earlier_is d f (suc zero) l = absurd (omega arith)
earlier_is d f (suc (suc n)) l = let e : suc n ≡ suc (suc n) - 1 = omega arith in ap f e

earlier_none : {A : Type 0} (d : A) (f : ℕ → A) (r : ℕ) → r < 2 → earlier_run d f r ≡ d
earlier_none d f zero l = refl
earlier_none d f (suc zero) l = refl
earlier_none d f (suc (suc n)) l = absurd (omega arith)

-- a run that is open can be reported
pub reported : (S : Algebra) (ls : List Line) (atoms r : ℕ) (h : History) → Lawful S ls atoms → 1 ≤ r → r ≤ high h → opened h r ≡ true → Reported S ls atoms r h
reported S ls atoms r h ok some most up = record { lawful = ok; some = some; most = most; kept = (low_open h r some most up).0 }

module _ (S : Algebra) (ls : List Line) (atoms : ℕ) (h : History) (m : Meaning) (rep : Represents S ls atoms m h) (sound : Sound m) where
  pub kept_held : (j len : ℕ) → low h ≤ j → j ≤ high h → len ≡ width atoms ls → Held m len j
  kept_held = held S ls atoms m.limit h m (record_of S ls h) rep sound

  -- what a read of a kept run gives
  pub kept_record : (j len : ℕ) (rec : List ℕ) → low h ≤ j → j ≤ high h → len ≡ width atoms ls → Reads m len j rec → rec ≡ record_of S ls h j
  kept_record j len rec lo hi long read =
      read (kept_held j len lo hi long) ∙ read_is S ls atoms m.limit h m (record_of S ls h) rep sound j lo hi refl

  pub kept_state : (j : ℕ) → low h ≤ j → j ≤ high h → length (present h j) ≡ atoms
  kept_state j lo hi = state_long S ls atoms m.limit h m (record_of S ls h) rep sound j lo hi refl

  pub kept_truths : (j : ℕ) → low h ≤ j → j ≤ high h → truths_of atoms (length ls) (record_of S ls h j) ≡ row S ls h j
  kept_truths j lo hi =
      truths_is (flag (opened h j)) atoms (length ls) (present h j) (row S ls h j) (before (nos S ls) (row S ls) h j) (kept_state j lo hi) (length_row S ls h j)

  -- the row of the run below, as a record of it has it
  pub below_is : (r len n : ℕ) (rec previous : List ℕ) → 1 < r → low h ≤ r - 1 → r - 1 ≤ high h → len ≡ width atoms ls → n ≡ length ls → Reads m len (r - 1) rec →
      previous ≡ truths_of atoms n rec → previous ≡ earlier_run (nos S ls) (row S ls h) r
  below_is r len n rec previous some lo hi long lines read is =
      is ∙ ap (λ k. truths_of atoms k rec) lines ∙ ap (truths_of atoms (length ls)) (kept_record (r - 1) len rec lo hi long read)
      ∙ kept_truths (r - 1) lo hi ∙ sym (earlier_is (nos S ls) (row S ls h) r some)

  pub below_none : (r n code : ℕ) (previous : List ℕ) → r < 2 → n ≡ length ls → code ≡ S.no → previous ≡ replicate n code → previous ≡ earlier_run (nos S ls) (row S ls h) r
  below_none r n code previous few long none is = is ∙ (λ i. replicate (long i) (none i)) ∙ sym (earlier_none (nos S ls) (row S ls h) r few)

  -- the reported run
  module _ (r : ℕ) (q : List ℕ) (ok : Reported S ls atoms r h) (long : length q ≡ atoms) (x previous out rec : List ℕ)
      (x-is : x ≡ renewed (length ls) q (record_of S ls h r)) (previous_is : previous ≡ earlier_run (nos S ls) (row S ls h) r) (judged : Judged S ls atoms x previous out rec) where
    state : length (present h r) ≡ atoms
    state = kept_state r ok.kept ok.most

    pub own_truths : out ≡ row S ls (report r q ∷ h) r
    own_truths =
        judged.row_is ∙ ap (λ y. step S ls (state_of atoms y) (past_of atoms (length ls) y) previous) x-is
        ∙ own_row S ls atoms m.limit h r q ok.lawful long state previous previous_is

    pub own_is : rec ≡ record_of S ls (report r q ∷ h) r
    own_is =
        judged.rec_is ∙ ap (λ o. with_truths atoms o x) own_truths ∙ ap (with_truths atoms (row S ls (report r q ∷ h) r)) x-is
        ∙ own_record S ls atoms m.limit h r q ok.lawful long state

    pub looking : (previous' : List ℕ) → previous' ≡ out → Looking S ls atoms m rec previous' r h q
    looking previous' copied = record { reported = ok; model_is = rep; rec_is = own_is; previous_is = copied ∙ own_truths }

-- once the reported run's record is written, the walk that writes begins
pub begun : (S : Algebra) (ls : List Line) (atoms : ℕ) (m m' : Meaning) (rec previous : List ℕ) (r : ℕ) (h : History) (q : List ℕ) (len : ℕ) → Sound m → len ≡ width atoms ls →
    Looking S ls atoms m rec previous r h q → Writes m m' len r rec → Begun S ls atoms m' rec previous r m.limit h q
begun S ls atoms m m' rec previous r h q len sound long b wrote =
    let ok = b.reported in
    record {
      reported = ok;
      model_is =
          wrote (kept_held S ls atoms h m b.model_is sound r len ok.kept ok.most long)
          ∙ ap (λ (y : Meaning). written y r rec) b.model_is
          ∙ ap (written (meaning S ls atoms m.limit h) r) b.rec_is
          ∙ mixed_first S ls atoms m.limit h r q ok.kept ok.most;
      rec_is = b.rec_is;
      previous_is = b.previous_is;
    }

-- a truth read from a record, by its line
pub line_is : (S : Algebra) (ls : List Line) (atoms : ℕ) (h : History) (j line : ℕ) (rec : List ℕ) → line < length ls → truths_of atoms (length ls) (record_of S ls h j) ≡ row S ls h j →
    rec ≡ record_of S ls h j → get_or (truths_of atoms (length ls) rec) line 0 ≡ line_truth S ls h j line
line_is S ls atoms h j line rec lt truths is =
    let l = length_row S ls h j in
    ap (λ x. get_or x line 0) (ap (truths_of atoms (length ls)) is ∙ truths)
    ∙ get_or_default (row S ls h j) line 0 S.no (omega arith) ∙ row_at S ls h j line
