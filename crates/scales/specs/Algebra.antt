-- What a scale is, and the laws that every scale keeps. Assumes nothing.
use Rattle.std.specs.Prelude.{◌≡◌, ℕ, ◌<◌, Bool, true, false}

-- A scale is a truth-value algebra, and a code is a truth value of it.
pub record Algebra : Type 0 where
  -- which numbers are codes
  pub code : ℕ → Bool
  pub no : ℕ
  pub yes : ℕ
  pub not : ℕ → ℕ
  pub or : ℕ → ℕ → ℕ
  -- clear b a says that b is as clear as a
  pub clear : ℕ → ℕ → Bool

-- "a and b" on every scale
abbrev pub and : Algebra → ℕ → ℕ → ℕ
and S a b = S.not (S.or (S.not a) (S.not b))

-- The laws. Nothing says that the sides of `or` may change places or be grouped otherwise.
pub record Laws (S : Algebra) : Type 0 where
  -- codes are bytes; no and yes are two of them
  pub code_byte : (a : ℕ) → S.code a ≡ true → a < 256
  pub no_code : S.code S.no ≡ true
  pub yes_code : S.code S.yes ≡ true
  pub apart : S.no ≡ S.yes → ⊥
  -- not and or of codes give codes, with anything else they give no
  pub not_code : (a : ℕ) → S.code a ≡ true → S.code (S.not a) ≡ true
  pub or_code : (a b : ℕ) → S.code a ≡ true → S.code b ≡ true → S.code (S.or a b) ≡ true
  pub not_other : (a : ℕ) → S.code a ≡ false → S.not a ≡ S.no
  pub or_other_left : (a b : ℕ) → S.code a ≡ false → S.or a b ≡ S.no
  pub or_other_right : (a b : ℕ) → S.code b ≡ false → S.or a b ≡ S.no
  -- not
  pub not_yes : S.not S.yes ≡ S.no
  pub not_not : (a : ℕ) → S.code a ≡ true → S.not (S.not a) ≡ a
  -- or with no and with yes, on either side
  pub or_no : (a : ℕ) → S.code a ≡ true → S.or a S.no ≡ a
  pub no_or : (a : ℕ) → S.code a ≡ true → S.or S.no a ≡ a
  pub or_yes : (a : ℕ) → S.code a ≡ true → S.or a S.yes ≡ S.yes
  pub yes_or : (a : ℕ) → S.code a ≡ true → S.or S.yes a ≡ S.yes
  -- "as clear as" is a relation of codes, reflexive and transitive, which not and or keep
  pub clear_codes : (b a : ℕ) → S.clear b a ≡ true → (S.code b ≡ true) × (S.code a ≡ true)
  pub clear_same : (a : ℕ) → S.code a ≡ true → S.clear a a ≡ true
  pub clear_trans : (c b a : ℕ) → S.clear c b ≡ true → S.clear b a ≡ true → S.clear c a ≡ true
  pub clear_not : (b a : ℕ) → S.clear b a ≡ true → S.clear (S.not b) (S.not a) ≡ true
  pub clear_or : (b a d c : ℕ) → S.clear b a ≡ true → S.clear d c ≡ true → S.clear (S.or b d) (S.or a c) ≡ true
  -- only yes is as clear as yes, and only no as clear as no
  pub clear_yes : (b : ℕ) → S.clear b S.yes ≡ true → b ≡ S.yes
  pub clear_no : (b : ℕ) → S.clear b S.no ≡ true → b ≡ S.no
