-- Which sign stands at a place of a text. Assumes nothing.
use Rattle.std.specs.Prelude.{◌≡◌, ℕ, ◌+◌, ◌-◌, Bool, cond, ◌&&◌, ◌||◌, List, length, drop, Some, None, Ok, Err, codes, Option, Result, ◌==◌, nat_le, nat_lt, slice_index, slice_range}
use Rattle.std.specs.List.{prefix_len}
use Rattle.std.specs.Str.{bytes_eq}
use Rattle.refusals.specs.declared.refusal.Refusal.{Refusal}
use Rattle.refusals.specs.declared.refusal.Layer.TheVariants as layer
use Rattle.signs.specs.declared.sign.Mark.{Mark}
use Rattle.signs.specs.declared.sign.Mark.TheVariants.{Open, Close, Not, And, Or, Arrow, Comma, Semicolon, Stop, YL, SL, OL, HL, YG, SG, OG, HG, Atoms, Rule, True, False}
use Rattle.signs.specs.declared.sign.Sign.{Sign}
use Rattle.signs.specs.declared.sign.Sign.TheVariants as sign
use Rattle.signs.specs.declared.sign.Placed.{Placed}
use Rattle.signs.specs.declared.sign.SignFault.{SignFault}
use Rattle.signs.specs.declared.sign.SignFault.TheVariants.{TooLong, NoSign, LongName}

abbrev pub is_blank : ℕ → Bool
is_blank b = b == 9 || b == 10 || b == 13 || b == 32

abbrev pub is_letter : ℕ → Bool
is_letter b = nat_le 97 b && nat_le b 122

-- what a name may go on with
abbrev pub is_name_byte : ℕ → Bool
is_name_byte b = is_letter b || (nat_le 48 b && nat_le b 57)

-- a call that answers by a test: what comes back of each byte is what the test says
abbrev pub Answers : (ℕ → Bool → Type 0) → (ℕ → Bool) → Type 0
Answers gives test = (b : ℕ) (r : Bool) → gives b r → r ≡ test b

-- A sign without its places; a name goes by its bytes.
pub data Kind : Type 0 where
  mark : Mark → Kind
  name : List ℕ → Kind
  end : Kind

abbrev pub kind_of : Sign → Kind
kind_of (sign.Mark m) = mark m
kind_of (sign.Name w) = name w.now
kind_of sign.End = end

-- the mark that begins with the byte b, before the byte a, and its length
abbrev pub mark_at : ℕ → ℕ → Option (Mark × ℕ)
mark_at b a =
    cond (b == 40) (Some (Open, 1))
    (cond (b == 41) (Some (Close, 1))
    (cond (b == 126) (Some (Not, 1))
    (cond (b == 38) (Some (And, 1))
    (cond (b == 124) (Some (Or, 1))
    (cond (b == 44) (Some (Comma, 1))
    (cond (b == 59) (Some (Semicolon, 1))
    (cond (b == 46) (Some (Stop, 1))
    (cond (b == 45) (cond (a == 62) (Some (Arrow, 2)) None)
    (cond (b == 89) (cond (a == 76) (Some (YL, 2)) (cond (a == 71) (Some (YG, 2)) None))
    (cond (b == 83) (cond (a == 76) (Some (SL, 2)) (cond (a == 71) (Some (SG, 2)) None))
    (cond (b == 79) (cond (a == 76) (Some (OL, 2)) (cond (a == 71) (Some (OG, 2)) None))
    (cond (b == 72) (cond (a == 76) (Some (HL, 2)) (cond (a == 71) (Some (HG, 2)) None))
    None))))))))))))

-- the sign that the bytes of a word are: a reserved word or a name
abbrev pub word_of : List ℕ → Kind
word_of w =
    cond (bytes_eq w (codes "atoms")) (mark Atoms)
    (cond (bytes_eq w (codes "rule")) (mark Rule)
    (cond (bytes_eq w (codes "true")) (mark True)
    (cond (bytes_eq w (codes "false")) (mark False)
    (name w))))

-- What a reader finds: a sign, its first byte's place and the place behind it; or a fault.
pub data Found : Type 0 where
  found : Kind → ℕ → ℕ → Found
  fault : SignFault → Found

abbrev pub found_mark : ℕ → Option (Mark × ℕ) → Found
found_mark f (Some m) = found (mark m.0) f (f + m.1)
found_mark f None = fault (NoSign f)

abbrev pub found_word : List ℕ → ℕ → ℕ → Found
found_word text f e = cond (nat_lt 16 (e - f)) (fault (LongName f)) (found (word_of (slice_range text f e)) f e)

-- what stands at the place f, which has no blank
abbrev pub found_at : List ℕ → ℕ → Found
found_at text f =
    cond (nat_le (length text) f) (found end f f)
    (cond (is_letter (slice_index text f)) (found_word text f (f + prefix_len is_name_byte (drop f text)))
    (found_mark f (mark_at (slice_index text f) (slice_index text (f + 1)))))

-- the next sign from the place `at` on
abbrev pub next_sign : List ℕ → ℕ → Found
next_sign text at = found_at text (at + prefix_len is_blank (drop at text))

-- what the code's answer says
abbrev pub told : Result Placed SignFault → Found
told (Ok p) = found (kind_of p.sign) p.from p.to
told (Err e) = fault e

-- the reader's place once it has found a sign; at a fault it stays
abbrev pub place_after : ℕ → Found → ℕ
place_after at (found k f e) = e
place_after at (fault e) = at

-- a text has at most 8,192 bytes
abbrev pub length_answer : List ℕ → Result (Unit {0}) SignFault
length_answer text = cond (nat_lt 8192 (length text)) (Err TooLong) (Ok tt)

-- number, layer and place of a fault
abbrev pub refusal_of : SignFault → Refusal
refusal_of TooLong = record { number = 1; layer = layer.Signs; place = 8192 }
refusal_of (NoSign f) = record { number = 2; layer = layer.Signs; place = f }
refusal_of (LongName f) = record { number = 4; layer = layer.Signs; place = f }
