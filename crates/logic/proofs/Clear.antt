-- Clearer codes, clearer truths; and every truth is a code. Assumes nothing.
use Rattle.std.proofs.Common.{◌≡◌, ℕ, zero, suc, true, List, [], ◌∷◌, get_or, refl, ap, ap₂}
use Rattle.std.proofs.lemmas.Bool.{and_parts}
use Rattle.scales.specs.Algebra.{Algebra, Laws}
use Rattle.scales.proofs.Ands.{not_gives_code, or_gives_code, clear_stays_yes, clear_stays_no}
use Rattle.lines.specs.declared.line.Line.{Line}
use Rattle.lines.specs.Forms.{Form}
use Rattle.lines.specs.Stands.{rule}
use Rattle.logic.specs.History.{History, start, report, close, high}
use Rattle.logic.specs.Truth.{truth}
use Rattle.logic.specs.Rows.{verdict}
use Rattle.logic.specs.Clear.{ClearCodes, clear_none, clear_next, Alike, alike_none, alike_start, alike_report, alike_close, Clearer, ClearStays, all_codes, of_codes, TruthsAreCodes}
use Rattle.logic.proofs.Related.{same_high, truth_related}

-- lists that are equal, and of codes
abbrev pub SameCodes : Algebra → List ℕ → List ℕ → Type 0
SameCodes S p q = (p ≡ q) × (all_codes S q ≡ true)

-- a code, and equal to it
abbrev pub SameCode : Algebra → ℕ → ℕ → Type 0
SameCode S b a = (b ≡ a) × (S.code a ≡ true)

module _ (S : Algebra) (L : Laws S) where
  clear_at : (p q : List ℕ) → ClearCodes S p q → (i : ℕ) → S.clear (get_or p i S.no) (get_or q i S.no) ≡ true
  clear_at _ _ clear_none i = L.clear_same S.no L.no_code
  clear_at _ _ (clear_next e c) zero = e
  clear_at _ _ (clear_next {p = p} {q = q} e c) (suc i) = clear_at p q c i

  pub clear_truth : (f : Form) (g h : History) → Clearer S g h → (s : ℕ) → S.clear (truth S f g s) (truth S f h s) ≡ true
  clear_truth =
      truth_related (ClearCodes S) (λ b a. S.clear b a ≡ true) S (L.clear_same S.no L.no_code) (L.clear_same S.yes L.yes_code) L.clear_not L.clear_or
      clear_none clear_at

  pub clear_verdict : (ls : List Line) (g h : History) → Clearer S g h → S.clear (verdict S ls g) (verdict S ls h) ≡ true
  clear_verdict ls g h c = rw (same_high (ClearCodes S) c) (clear_truth (rule ls) g h c (high h))

  -- of a history of codes, with itself
  pub alike_self : (h : History) → of_codes S h ≡ true → Alike (SameCodes S) h h
  alike_self [] k = alike_none
  alike_self (start q ∷ h) k = let both = and_parts (all_codes S q) (of_codes S h) k in alike_start (refl, both.0) (alike_self h both.1)
  alike_self (report r q ∷ h) k = let both = and_parts (all_codes S q) (of_codes S h) k in alike_report (refl, both.0) (alike_self h both.1)
  alike_self (close r ∷ h) k = alike_close (alike_self h k)

  pub code_at : (q : List ℕ) → all_codes S q ≡ true → (i : ℕ) → S.code (get_or q i S.no) ≡ true
  code_at [] k i = L.no_code
  code_at (a ∷ q) k zero = (and_parts (S.code a) (all_codes S q) k).0
  code_at (a ∷ q) k (suc i) = code_at q (and_parts (S.code a) (all_codes S q) k).1 i

  pub same_at : (p q : List ℕ) → SameCodes S p q → (i : ℕ) → SameCode S (get_or p i S.no) (get_or q i S.no)
  same_at p q e i = (ap (λ x. get_or x i S.no) e.0, code_at q e.1 i)

  pub same_not : (b a : ℕ) → SameCode S b a → SameCode S (S.not b) (S.not a)
  same_not b a e = (ap S.not e.0, not_gives_code S L a)

  pub same_or : (b a d c : ℕ) → SameCode S b a → SameCode S d c → SameCode S (S.or b d) (S.or a c)
  same_or b a d c e f = (ap₂ S.or e.0 f.0, or_gives_code S L a c)

pub clear_stays : ClearStays
clear_stays S L f g h c s =
    let k = clear_truth S L f g h c s in
    (k, clear_stays_yes S L (truth S f g s) (truth S f h s) k, clear_stays_no S L (truth S f g s) (truth S f h s) k)

pub truths_are_codes : TruthsAreCodes
truths_are_codes S L f h k s =
    (truth_related (SameCodes S) (SameCode S) S (refl, L.no_code) (refl, L.yes_code) (same_not S L) (same_or S L)
    (refl, refl) (same_at S L) f h h (alike_self S L h k) s).1
