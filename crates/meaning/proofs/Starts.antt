-- What a start does to what a store holds. Assumes nothing.
use Rattle.std.proofs.Common.{◌≡◌, ℕ, suc, ◌+◌, ◌-◌, ◌≤◌, List, ◌∷◌, ◌++◌, map, length, sym, refl, ap, ◌∙◌, add-one, arith}
use Rattle.std.proofs.Math.ListN.{length-replicate}
use Rattle.std.specs.List.{range_with_len}
use Rattle.std.proofs.lemmas.Bool.{eq-eqb, ne_eqb}
use Rattle.scales.specs.Algebra.{Algebra}
use Rattle.stores.specs.Meaning.{appended}
use Rattle.lines.specs.declared.line.Line.{Line}
use Rattle.logic.specs.History.{History, start, high, earlier_run}
use Rattle.logic.specs.Rows.{nos, row, step}
use Rattle.logic.proofs.Rows.{length_row}
use Rattle.logic.proofs.Events.{start_row, row_start_stays}
use Rattle.meaning.specs.Records.{record_of, width, state_of, past_of, with_truths}
use Rattle.meaning.specs.Kept.{low, meaning}
use Rattle.meaning.specs.Walking.{Lawful, Judged}
use Rattle.meaning.proofs.Listed.{listed_push}
use Rattle.meaning.proofs.Lows.{low_below, low_opened}
use Rattle.meaning.proofs.Records.{state_is, past_is, with_is}

module _ (S : Algebra) (ls : List Line) (atoms limit : ℕ) (h : History) (q : List ℕ) where
  abbrev next : History
  next = start q ∷ h

  low_start : low next ≡ low h
  low_start =
      low_opened next h refl (λ j a b. rw (ne_eqb j (suc (high h)) (λ e. omega arith)))
      (let e : 1 + high h ≡ suc (high h) = omega arith in rw (eq-eqb (1 + high h) (suc (high h)) e))

  old_record : (j : ℕ) → j ≤ high h → record_of S ls next j ≡ record_of S ls h j
  old_record j le = rw (ne_eqb j (suc (high h)) (λ e. omega arith), row_start_stays S ls h q j le)

  pub meaning_start : appended (meaning S ls atoms limit h) (record_of S ls next (high h + 1)) ≡ meaning S ls atoms limit next
  meaning_start =
      let lo = low_below h in
      let n : suc (high h) + 1 - low h ≡ high h + 1 - low h + 1 = omega arith in
      let at : low h + (high h + 1 - low h) ≡ high h + 1 = omega arith in
      ap (λ (x : List (List ℕ)). record { width = width atoms ls; limit = limit; low = low h; records = x })
      (sym (ap (λ k. map (record_of S ls next) (range_with_len (low h) k)) n
      ∙ listed_push (record_of S ls h) (record_of S ls next) (low h) (high h + 1 - low h) (record_of S ls next (high h + 1)) (ap (record_of S ls next) at) (λ j a b. old_record j (omega arith))))
      ∙ ap (λ l. record { width = width atoms ls; limit = limit; low = l; records = map (record_of S ls next) (range_with_len l (suc (high h) + 1 - l)) }) (sym low_start)

  new_record : record_of S ls next (high h + 1) ≡ 1 ∷ (q ++ (row S ls next (high h + 1) ++ nos S ls))
  new_record = rw (eq-eqb (high h + 1) (suc (high h)) (add-one (high h)))

  module _ (ok : Lawful S ls atoms) (long : length q ≡ atoms) (x previous out rec : List ℕ) (laid : x ≡ 1 ∷ (q ++ (nos S ls ++ nos S ls)))
      (previous_is : previous ≡ earlier_run (nos S ls) (row S ls h) (high h + 1)) (judged : Judged S ls atoms x previous out rec) where
    nos_long : length (nos S ls) ≡ length ls
    nos_long = length-replicate (length ls) S.no

    fresh_truths : out ≡ row S ls next (high h + 1)
    fresh_truths =
        let a = ap (state_of atoms) laid ∙ state_is 1 atoms (length ls) q (nos S ls) (nos S ls) long nos_long in
        let b = ap (past_of atoms (length ls)) laid ∙ past_is 1 atoms (length ls) q (nos S ls) (nos S ls) long nos_long in
        judged.row_is ∙ (λ i. step S ls (a i) (b i) (previous_is i)) ∙ ap (λ n. step S ls q (nos S ls) (earlier_run (nos S ls) (row S ls h) n)) (add-one (high h))
        ∙ sym (start_row S ok.laws atoms ls ok.formed h q).0 ∙ ap (row S ls next) (sym (add-one (high h)))

    pub fresh_record : rec ≡ record_of S ls next (high h + 1)
    fresh_record =
        judged.rec_is ∙ ap (λ o. with_truths atoms o x) fresh_truths ∙ ap (with_truths atoms (row S ls next (high h + 1))) laid
        ∙ with_is 1 atoms (length ls) q (nos S ls) (nos S ls) long nos_long (row S ls next (high h + 1)) (length_row S ls next (high h + 1)) ∙ sym new_record
