-- Calls with clearer codes are refused alike: refusals go by lengths, by which bytes are codes, and by which runs there are,
-- are open and are kept, and in all these two histories of the same events agree. Assumes nothing.
use Rattle.std.proofs.Common.{◌≡◌, ℕ, suc, ◌+◌, ◌-◌, Bool, true, false, cond, eqb, ltb, List, length, Some, None, Option, sym, refl, ap, ap₂, inl, inr}
use Rattle.std.proofs.lemmas.Option.{none-some}
use mathlib.Core.List.Forall₂
use Rattle.scales.specs.Algebra.{Algebra, Laws}
use Rattle.lines.specs.declared.line.Line.{Line}
use Rattle.logic.specs.History.{History, high, opened}
use Rattle.logic.specs.Clear.{ClearCodes, clear_none, clear_next, Clearer}
use Rattle.logic.proofs.Related.{same_high, same_opened}
use Rattle.stores.specs.declared.fault.StoreFault.TheVariants.{Last, Full}
use Rattle.meaning.specs.declared.fault.BookFault.{BookFault}
use Rattle.meaning.specs.declared.fault.BookFault.TheVariants.{Count, Code, Closed, NoRuns, Gone, NoLine, Store}
use Rattle.meaning.specs.Kept.{lowest, low_by, low}
use Rattle.meaning.specs.Refusals.{or_else, first_bad, codes_refusal, run_refusal, open_refusal, report_refusal, room_refusal, start_refusal, verdict_refusal, truth_refusal}
use Rattle.meaning.proofs.Refusals.{or_none}
use Rattle.clearness.specs.Clearness.{ClearerByte, ClearerBytes}

-- what is known where nothing is refused
passed : (t : Bool) (o : Option BookFault) (f : BookFault) → cond t o (Some f) ≡ None → (t ≡ true) × (o ≡ None)
passed true o f e = (refl, e)
passed false o f e = absurd (none-some f (sym e))

-- codes
module _ (S : Algebra) (L : Laws S) where
  same_code : (a b : ℕ) → ClearerByte S a b → S.code a ≡ S.code b
  same_code a b (inl e) = sym (ap S.code e)
  same_code a b (inr k) = let both = L.clear_codes b a k in cc

  clear_byte : (a b : ℕ) → ClearerByte S a b → S.code a ≡ true → S.clear b a ≡ true
  clear_byte a b (inl e) c = rw e (L.clear_same a c)
  clear_byte a b (inr k) c = k

  same_length : {p q : List ℕ} → ClearerBytes S p q → length p ≡ length q
  same_length Forall₂.nil = refl
  same_length (Forall₂.cons e t) = ap suc (same_length t)

  same_bad : {p q : List ℕ} → ClearerBytes S p q → (i : ℕ) → first_bad S p i ≡ first_bad S q i
  same_bad Forall₂.nil i = refl
  same_bad (Forall₂.cons {a = a} {b = b} e t) i = ap₂ (λ c o. cond c o (Some (Code i))) (same_code a b e) (same_bad t (i + 1))

  -- codes that are accepted are the clearer ones
  clear_bytes : {p q : List ℕ} → ClearerBytes S p q → (i : ℕ) → first_bad S p i ≡ None → ClearCodes S q p
  clear_bytes Forall₂.nil i k = clear_none
  clear_bytes (Forall₂.cons {a = a} {b = b} {l₁ = p} e t) i k =
      let both = passed (S.code a) (first_bad S p (i + 1)) (Code i) k in
      clear_next (clear_byte a b e both.0) (clear_bytes t (i + 1) both.1)

  module _ (atoms : ℕ) {p q : List ℕ} (c : ClearerBytes S p q) where
    same_codes : codes_refusal S atoms p ≡ codes_refusal S atoms q
    same_codes = ap₂ (λ n o. cond (eqb n atoms) o (Some (Count n))) (same_length c) (same_bad c 0)

    clear_codes : codes_refusal S atoms p ≡ None → ClearCodes S q p
    clear_codes k = clear_bytes c 0 (passed (eqb (length p) atoms) (first_bad S p 0) (Count (length p)) k).1

    module _ (g : History) where
      pub report_codes : (run : ℕ) → report_refusal S atoms g run p ≡ None → ClearCodes S q p
      report_codes run k = clear_codes ((or_none (open_refusal g run) (codes_refusal S atoms p) k).1)

      pub start_codes : (limit : ℕ) → start_refusal S atoms limit g p ≡ None → ClearCodes S q p
      start_codes limit k = clear_codes ((or_none (codes_refusal S atoms p) (room_refusal limit g) k).0)

-- runs
module _ (S : Algebra) {g h : History} (c : Clearer S h g) where
  high_is : high g ≡ high h
  high_is = sym (same_high (ClearCodes S) c)

  opened_is : opened g ≡ opened h
  opened_is = λ i s. sym (same_opened (ClearCodes S) c s) i

  pub low_is : low g ≡ low h
  low_is = ap₂ (λ n t. low_by n (lowest t 1 n)) high_is opened_is

  pub next_run : high g + 1 ≡ high h + 1
  next_run = ap (λ n. n + 1) high_is

  pub same_open : (run : ℕ) → open_refusal g run ≡ open_refusal h run
  same_open run = ap₂ (λ n (t : ℕ → Bool). or_else (run_refusal n run) (cond (t run) None (Some (Closed run)))) high_is opened_is

  same_room : (limit : ℕ) → room_refusal limit g ≡ room_refusal limit h
  same_room limit = ap₂ (λ n l. cond (eqb n 999999) (Some (Store Last)) (cond (eqb (n + 1 - l) limit) (Some (Store (Full limit))) None)) high_is low_is

  pub same_verdict : verdict_refusal g ≡ verdict_refusal h
  same_verdict = ap (λ n. cond (eqb n 0) (Some NoRuns) None) high_is

  pub same_truth : (ls : List Line) (run line : ℕ) → truth_refusal ls g run line ≡ truth_refusal ls h run line
  same_truth ls run line =
      ap₂ (λ n l. or_else (run_refusal n run) (cond (ltb run l) (Some (Gone run)) (cond (ltb line (length ls)) None (Some (NoLine line))))) high_is low_is

  module _ (L : Laws S) (atoms : ℕ) {p q : List ℕ} (k : ClearerBytes S p q) where
    pub same_report : (run : ℕ) → report_refusal S atoms g run p ≡ report_refusal S atoms h run q
    same_report run = ap₂ or_else (same_open run) (same_codes S L atoms k)

    pub same_start : (limit : ℕ) → start_refusal S atoms limit g p ≡ start_refusal S atoms limit h q
    same_start limit = ap₂ or_else (same_codes S L atoms k) (same_room limit)
