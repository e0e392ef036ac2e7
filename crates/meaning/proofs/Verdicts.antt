-- The verdict, read from the newest run's record. Assumes nothing.
use Rattle.std.proofs.Common.{◌≡◌, ℕ, ◌+◌, ◌-◌, ◌≤◌, min, Bool, true, false, cond, eqb, List, ◌∷◌, length, get_or, sym, refl, ap, ◌∙◌, arith}
use Rattle.scales.specs.Algebra.{Algebra}
use Rattle.stores.specs.Meaning.{Meaning, Sound, high_of, record_at}
use Rattle.lines.specs.declared.line.Line.{Line}
use Rattle.logic.specs.History.{History, report, high, present, opened, before}
use Rattle.logic.specs.Rows.{nos, row, verdict}
use Rattle.logic.proofs.Rows.{length_row}
use Rattle.meaning.specs.Records.{flag, record_of, width, truths_of}
use Rattle.meaning.specs.Kept.{low, Represents}
use Rattle.meaning.specs.Walking.{Reads, Done, Looked, Newest}
use Rattle.meaning.proofs.Lows.{low_most}
use Rattle.meaning.proofs.Records.{truths_is}
use Rattle.meaning.proofs.Walks.{highs, read_is}
use Rattle.meaning.proofs.Owns.{kept_held, kept_record, kept_state, kept_truths, line_is}
use Rattle.meaning.proofs.Refusals.{represents}

long_either : (b : Bool) (p q : List ℕ) (n : ℕ) → length p ≡ n → length q ≡ n → length (cond b p q) ≡ n
long_either true p q n d e = d
long_either false p q n d e = e

module _ (S : Algebra) (ls : List Line) (atoms : ℕ) (h : History) (m : Meaning) (rep : Represents S ls atoms m h) (sound : Sound m) (one : 1 ≤ high h) where
  is_kept : low h ≤ high h
  is_kept = low_most h one

  pub verdict_is : (len : ℕ) (rec : List ℕ) → 1 ≤ length ls → len ≡ width atoms ls → Reads m len (high_of m) rec → get_or (truths_of atoms (length ls) rec) (length ls - 1) 0 ≡ verdict S ls h
  verdict_is len rec some long read =
      let t = highs S ls atoms m.limit h m (record_of S ls h) rep sound in
      line_is S ls atoms h (high h) (length ls - 1) rec (omega arith) (kept_truths S ls atoms h m rep sound (high h) is_kept (omega arith))
      (kept_record S ls atoms h m rep sound (high h) len rec is_kept (omega arith) long (λ k. read (kept_held S ls atoms h m rep sound (high_of m) len (omega (arith, is_kept)) (omega arith) long) ∙ ap (record_at m) t))

  -- after a report of r with q
  module _ (r : ℕ) (q : List ℕ) (long : length q ≡ atoms) where
    pub verdict_after : 1 ≤ length ls → get_or (truths_of atoms (length ls) (record_of S ls (report r q ∷ h) (high h))) (length ls - 1) 0 ≡ verdict S ls (report r q ∷ h)
    verdict_after some =
        let next = report r q ∷ h in
        line_is S ls atoms next (high h) (length ls - 1) (record_of S ls next (high h)) (omega arith)
        (truths_is (flag (opened h (high h))) atoms (length ls) (present next (high h)) (row S ls next (high h)) (before (nos S ls) (row S ls) next (high h))
        (long_either (eqb (high h) r) q (present h (high h)) atoms long (kept_state S ls atoms h m rep sound (high h) is_kept (omega arith))) (length_row S ls next (high h)))
        refl

    module _ (last len : ℕ) (rec : List ℕ) (wide : len ≡ width atoms ls) where
      -- the walk has written what the report moves
      pub newest_done : (m' : Meaning) → Sound m' → Done S ls atoms m' rec r last m.limit h q → Newest m' len last rec (record_of S ls (report r q ∷ h) (high h))
      newest_done m' sound' d =
          let next = report r q ∷ h in
          let rep' = represents S ls atoms m.limit m' next d.model_is in
          let t = highs S ls atoms m'.limit next m' (record_of S ls next) rep' sound' in
          let lo : low next ≤ high h = is_kept in
          record {
            held = kept_held S ls atoms next m' rep' sound' (high_of m') len (omega arith) (omega arith) wide;
            above = λ l. ap (record_at m') t ∙ read_is S ls atoms m'.limit next m' (record_of S ls next) rep' sound' (high h) lo (omega arith) refl;
            here = λ l. let at : min (last + 1) (high h) ≡ high h = omega arith in d.rec_is ∙ ap (record_of S ls next) at;
          }

      -- or has written nothing
      pub newest_looked : Looked S ls rec r last h q → Newest m len last rec (record_of S ls (report r q ∷ h) (high h))
      newest_looked d =
          let next = report r q ∷ h in
          let t = highs S ls atoms m.limit h m (record_of S ls h) rep sound in
          let lo = is_kept in
          record {
            held = kept_held S ls atoms h m rep sound (high_of m) len (omega arith) (omega arith) wide;
            above = λ l. ap (record_at m) t ∙ read_is S ls atoms m.limit h m (record_of S ls h) rep sound (high h) lo (omega arith) refl ∙ sym (d.rest (omega arith));
            here = λ l. let at : min (last + 1) (high h) ≡ high h = omega arith in d.rec_is ∙ ap (record_of S ls next) at;
          }
