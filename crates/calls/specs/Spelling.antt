-- Which bytes spell a call. Assumes nothing.
use Rattle.std.specs.Prelude.{◌≡◌, ℕ, ◌-◌, ◌<◌, ◌≤◌, List, [], ◌∷◌, ◌++◌, map, length}
use Rattle.std.specs.Str.Parse.{AllDigits, digits_value}
use Rattle.calls.specs.declared.call.Call.{Call}
use Rattle.calls.specs.declared.call.Call.TheVariants.{Start, Report, Preview, Close, Verdict}
use Rattle.calls.specs.declared.call.CodeDigits.{CodeDigits}

-- a digit is byte 48 or up to nine more
abbrev pub digit_value : ℕ → ℕ
digit_value b = b - 48

abbrev pub digit_values : List ℕ → List ℕ
digit_values ds = map digit_value ds

-- 1 to 64 digits, whose values are the codes
pub record Codes (digits codes : List ℕ) : Type 0 where
  pub some : 0 < length digits
  pub few : length digits ≤ 64
  pub all : AllDigits 10 digits
  pub values : codes ≡ digit_values digits

-- 1 to 6 digits, which write n
pub record RunNumber (digits : List ℕ) (n : ℕ) : Type 0 where
  pub some : 0 < length digits
  pub few : length digits ≤ 6
  pub all : AllDigits 10 digits
  pub writes : n ≡ digits_value 10 digits

-- bs is a run number, a blank and codes
pub record RunAndCodes (bs : List ℕ) (n : ℕ) (codes : List ℕ) : Type 0 where
  pub number_digits : List ℕ
  pub code_digits : List ℕ
  pub cut : bs ≡ number_digits ++ (32 ∷ code_digits)
  pub number : RunNumber number_digits n
  pub coded : Codes code_digits codes

-- what a line asks: a start with codes, a report or a preview at a run with codes, a run's close, the verdict
pub data Said : Type 0 where
  start : List ℕ → Said
  report : ℕ → List ℕ → Said
  preview : ℕ → List ℕ → Said
  close : ℕ → Said
  verdict : Said

abbrev pub codes_in : Said → List ℕ
codes_in (start cs) = cs
codes_in (report n cs) = cs
codes_in (preview n cs) = cs
codes_in (close n) = []
codes_in verdict = []

-- the codes that digits of a line stand for
abbrev pub codes_of : CodeDigits → List ℕ
codes_of d = digit_values d.digits.now

abbrev pub said : Call → Said
said (Start d) = start (codes_of d)
said (Report n d) = report n (codes_of d)
said (Preview n d) = preview n (codes_of d)
said (Close n) = close n
said Verdict = verdict

-- N, U, P, E and V are the bytes 78, 85, 80, 69 and 86, and a blank is 32
abbrev pub Spells : Said → List ℕ → Type 0
Spells (start cs) bs = (rest : List ℕ) × (bs ≡ 78 ∷ 32 ∷ rest) × Codes rest cs
Spells (report n cs) bs = (rest : List ℕ) × (bs ≡ 85 ∷ 32 ∷ rest) × RunAndCodes rest n cs
Spells (preview n cs) bs = (rest : List ℕ) × (bs ≡ 80 ∷ 32 ∷ rest) × RunAndCodes rest n cs
Spells (close n) bs = (rest : List ℕ) × (bs ≡ 69 ∷ 32 ∷ rest) × RunNumber rest n
Spells verdict bs = bs ≡ 86 ∷ []

-- bytes spell at most one call
abbrev pub OneCall : Type 0
OneCall = (bs : List ℕ) (s t : Said) → Spells s bs → Spells t bs → s ≡ t
