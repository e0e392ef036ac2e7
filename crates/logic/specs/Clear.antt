-- Clearer codes give clearer truths. Laws of the definitions.
use Rattle.std.specs.Prelude.{◌≡◌, ℕ, Bool, true, ◌&&◌, List, [], ◌∷◌}
use Rattle.scales.specs.Algebra.{Algebra, Laws}
use Rattle.lines.specs.Forms.{Form}
use Rattle.logic.specs.History.{History, start, report, close}
use Rattle.logic.specs.Truth.{truth}

-- as many codes, each of the first list as clear as its partner in the second
pub data ClearCodes (S : Algebra) : List ℕ → List ℕ → Type 0 where
  clear_none : ClearCodes S [] []
  clear_next : {b a : ℕ} {p q : List ℕ} → S.clear b a ≡ true → ClearCodes S p q → ClearCodes S (b ∷ p) (a ∷ q)

-- the same events, the state of each in the first history in the relation Q to its partner in the second
pub data Alike (Q : List ℕ → List ℕ → Type 0) : History → History → Type 0 where
  alike_none : Alike Q [] []
  alike_start : {p q : List ℕ} {g h : History} → Q p q → Alike Q g h → Alike Q (start p ∷ g) (start q ∷ h)
  alike_report : {p q : List ℕ} {r : ℕ} {g h : History} → Q p q → Alike Q g h → Alike Q (report r p ∷ g) (report r q ∷ h)
  alike_close : {r : ℕ} {g h : History} → Alike Q g h → Alike Q (close r ∷ g) (close r ∷ h)

-- the same events, each code of the first history as clear as its partner in the second
abbrev pub Clearer : Algebra → History → History → Type 0
Clearer S = Alike (ClearCodes S)

-- Each truth of the clearer history is as clear, and a yes or no stays.
abbrev pub ClearStays : Type 0
ClearStays = (S : Algebra) → Laws S → (f : Form) (g h : History) → Clearer S g h → (s : ℕ) →
    (S.clear (truth S f g s) (truth S f h s) ≡ true)
    × (truth S f h s ≡ S.yes → truth S f g s ≡ S.yes)
    × (truth S f h s ≡ S.no → truth S f g s ≡ S.no)

-- every byte of the list is a code
abbrev pub all_codes : Algebra → List ℕ → Bool
all_codes S [] = true
all_codes S (a ∷ q) = S.code a && all_codes S q

-- every state of the history is made of codes
abbrev pub of_codes : Algebra → History → Bool
of_codes S [] = true
of_codes S (start q ∷ h) = all_codes S q && of_codes S h
of_codes S (report r q ∷ h) = all_codes S q && of_codes S h
of_codes S (close r ∷ h) = of_codes S h

-- Every truth is a code.
abbrev pub TruthsAreCodes : Type 0
TruthsAreCodes = (S : Algebra) → Laws S → (f : Form) (h : History) → of_codes S h ≡ true → (s : ℕ) → S.code (truth S f h s) ≡ true
