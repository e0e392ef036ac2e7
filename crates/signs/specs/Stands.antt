-- The law of signs: what it means that a sign, or a fault, stands at a place. It says nothing of how
-- signs are found: blanks and spellings, put together, are the text, and a word is a longest stretch.
use Rattle.std.specs.Prelude.{◌≡◌, ℕ, ◌+◌, ◌<◌, ◌≤◌, true, false, List, [], length, ◌≢◌, slice_index, slice_range}
use Rattle.signs.specs.declared.sign.Mark.{Mark}
use Rattle.signs.specs.declared.sign.SignFault.TheVariants.{NoSign, LongName}
use Rattle.signs.specs.Marks.{mark_spelling}
use Rattle.signs.specs.Signs.{is_blank, is_letter, is_name_byte, Kind, mark, name, end, Found, found, fault}

abbrev pub spelling : Kind → List ℕ
spelling (mark m) = mark_spelling m
spelling (name w) = w
spelling end = []

-- the bytes of the text from the place a up to b
abbrev pub part : List ℕ → ℕ → ℕ → List ℕ
part text a b = slice_range text a b

-- from the place a up to b there are blanks and nothing else
pub record Blanks (text : List ℕ) (a b : ℕ) : Type 0 where
  pub order : a ≤ b
  pub within : b ≤ length text
  pub each : (i : ℕ) → a ≤ i → i < b → is_blank (slice_index text i) ≡ true

-- from f up to e stands a longest stretch of a letter and then letters or digits
pub record Word (text : List ℕ) (f e : ℕ) : Type 0 where
  pub order : f < e
  pub within : e ≤ length text
  pub first : is_letter (slice_index text f) ≡ true
  pub each : (i : ℕ) → f ≤ i → i < e → is_name_byte (slice_index text i) ≡ true
  pub longest : e < length text → is_name_byte (slice_index text e) ≡ false

-- a word of at most 16 bytes that is not reserved
pub record Name (text : List ℕ) (w : List ℕ) (f e : ℕ) : Type 0 where
  pub word : Word text f e
  pub short : e ≤ f + 16
  pub free : (m : Mark) → w ≢ mark_spelling m

-- a mark of letters is a whole word; at the end nothing is left
abbrev pub Whole : List ℕ → Kind → ℕ → ℕ → Type 0
Whole text (mark m) f e = is_letter (slice_index text f) ≡ true → Word text f e
Whole text (name w) f e = Name text w f e
Whole text end f e = f ≡ length text

-- `Stands text at r`: after blanks from the place `at` on stands what r says
pub data Stands (text : List ℕ) (at : ℕ) : Found → Type 0 where
  sign_stands : {k : Kind} {f e : ℕ} → Blanks text at f → f ≤ e → e ≤ length text → part text f e ≡ spelling k → Whole text k f e → Stands text at (found k f e)
  no_sign : {f : ℕ} → Blanks text at f → f < length text → is_blank (slice_index text f) ≡ false → is_letter (slice_index text f) ≡ false → ((m : Mark) → part text f (f + length (mark_spelling m)) ≢ mark_spelling m) → Stands text at (fault (NoSign f))
  long_name : {f e : ℕ} → Blanks text at f → Word text f e → f + 16 < e → Stands text at (fault (LongName f))
