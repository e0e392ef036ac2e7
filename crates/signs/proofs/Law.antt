-- The law of signs: what `next_sign` finds does stand there.
use Rattle.std.proofs.Common.{◌≡◌, ℕ, suc, ◌+◌, ◌-◌, ◌<◌, ◌≤◌, Bool, true, false, cond, ◌&&◌, ◌||◌, eqb, ltb, leb, ◌⊎◌, List, [], ◌∷◌, length, get_or, take, drop, Some, None, codes, Option, sym, refl, ap, ◌∙◌, subst, inl, inr, add-zero, arith, drop-cons, ltb-false, ltb-true}
use native.Mathlib.Nat.{sub_self}
use Rattle.std.specs.List.{prefix_len}
use Rattle.std.specs.Str.{bytes_eq}
use Rattle.std.proofs.lemmas.List.{get_or-drop, get_or-take, get_or_past}
use Rattle.std.proofs.lemmas.Slice.Eq.{bytes_eq-Decides}
use Rattle.std.proofs.lemmas.Bool.{cases_lt, cond_both, leb-true, leb-false}
use Rattle.std.proofs.lemmas.Bool.Decides.{nat_tests, not_from_Decides}
use Rattle.signs.specs.declared.sign.Mark.{Mark}
use Rattle.signs.specs.declared.sign.Mark.TheVariants.{Open, Close, Not, And, Or, Arrow, Comma, Semicolon, Stop, YL, SL, OL, HL, YG, SG, OG, HG, Atoms, Rule, True, False}
use Rattle.signs.specs.Marks.{mark_spelling}
use Rattle.signs.specs.Signs.{is_blank, is_letter, is_name_byte, Kind, mark, name, end, Found, mark_at, word_of, found, found_mark, found_at, next_sign}
use Rattle.signs.specs.Stands.{spelling, part, Blanks, Word, Whole, Stands, sign_stands, no_sign, long_name}
use Rattle.signs.proofs.Stretches.{Stretch, stretch}

-- a test on numbers, by its two cases
by_eq : {A : Type 0} (P : A → Type 0) (a b : ℕ) (x y : A) → (a ≡ b → P x) → P y → P (cond (eqb a b) x y)
by_eq P a b x y t f = cond_both (eqb a b) x y P (λ e. t (grind (arith, nat_tests))) (λ _. f)

-- what a mark that begins with the byte b before the byte a is spelled
abbrev Spells : ℕ → ℕ → Option (Mark × ℕ) → Type 0
Spells b a None = Unit {0}
Spells b a (Some p) =
    ((p.1 ≡ 1) × (b ∷ [] ≡ mark_spelling p.0))
    ⊎ ((p.1 ≡ 2) × (b ∷ a ∷ [] ≡ mark_spelling p.0) × (a ≡ 0 → ⊥))

single : (b a c : ℕ) (m : Mark) → c ∷ [] ≡ mark_spelling m → b ≡ c → Spells b a (Some (m, 1))
single b a c m s e = inl (refl, ap (λ v. v ∷ []) e ∙ s)

double : (b a c d : ℕ) (m : Mark) → c ∷ d ∷ [] ≡ mark_spelling m → 0 < d → b ≡ c → a ≡ d → Spells b a (Some (m, 2))
double b a c d m s some e h = inr (refl, ap (λ v. v ∷ a ∷ []) e ∙ ap (λ v. c ∷ v ∷ []) h ∙ s, λ z. omega arith)

-- the two letter pairs that begin with c
pair : (b a c : ℕ) (m n : Mark) → c ∷ 76 ∷ [] ≡ mark_spelling m → c ∷ 71 ∷ [] ≡ mark_spelling n → b ≡ c → Spells b a (cond (eqb a 76) (Some (m, 2)) (cond (eqb a 71) (Some (n, 2)) None))
pair b a c m n s t e = by_eq (Spells b a) a 76 _ _ (double b a c 76 m s (omega arith) e) (by_eq (Spells b a) a 71 _ _ (double b a c 71 n t (omega arith) e) tt)

mark_spells : (b a : ℕ) → Spells b a (mark_at b a)
mark_spells b a =
    let P = Spells b a in
    by_eq P b 40 _ _ (single b a 40 Open refl) (
    by_eq P b 41 _ _ (single b a 41 Close refl) (
    by_eq P b 126 _ _ (single b a 126 Not refl) (
    by_eq P b 38 _ _ (single b a 38 And refl) (
    by_eq P b 124 _ _ (single b a 124 Or refl) (
    by_eq P b 44 _ _ (single b a 44 Comma refl) (
    by_eq P b 59 _ _ (single b a 59 Semicolon refl) (
    by_eq P b 46 _ _ (single b a 46 Stop refl) (
    by_eq P b 45 _ _ (λ e. by_eq P a 62 _ _ (double b a 45 62 Arrow refl (omega arith) e) tt) (
    by_eq P b 89 _ _ (pair b a 89 YL YG refl refl) (
    by_eq P b 83 _ _ (pair b a 83 SL SG refl refl) (
    by_eq P b 79 _ _ (pair b a 79 OL OG refl refl) (
    by_eq P b 72 _ _ (pair b a 72 HL HG refl refl) tt))))))))))))

-- bytes of a part
part_get_or : (text : List ℕ) (f n i : ℕ) → i < n → get_or (part text f (f + n)) i 0 ≡ get_or text (f + i) 0
part_get_or text f n i h = get_or-take (f + n - f) (drop f text) i 0 (omega arith) ∙ get_or-drop f text i 0

part_first : (text : List ℕ) (f n : ℕ) {w : List ℕ} → part text f (f + n) ≡ w → 0 < n → get_or text f 0 ≡ get_or w 0 0
part_first text f n e h = ap (λ v. get_or text v 0) (sym (add-zero f)) ∙ sym (part_get_or text f n 0 h) ∙ ap (λ v. get_or v 0 0) e

part_second : (text : List ℕ) (f n : ℕ) {w : List ℕ} → part text f (f + n) ≡ w → 1 < n → get_or text (f + 1) 0 ≡ get_or w 1 0
part_second text f n e h = sym (part_get_or text f n 1 h) ∙ ap (λ v. get_or v 1 0) e

clash : {A : Type 0} {o : Option A} {x : A} → o ≡ Some x → o ≡ None → ⊥
clash p q = cc

differ : {b : Bool} → b ≡ true → b ≡ false → ⊥
differ p q = cc

-- where no mark is found, none is spelled
module _ (text : List ℕ) (f : ℕ) (low : is_letter (get_or text f 0) ≡ false) (bare : mark_at (get_or text f 0) (get_or text (f + 1) 0) ≡ None) where
  no_single : (c : ℕ) (m : Mark) → mark_at c (get_or text (f + 1) 0) ≡ Some (m, 1) → part text f (f + 1) ≡ c ∷ [] → ⊥
  no_single c m s e = clash (ap (λ v. mark_at v (get_or text (f + 1) 0)) (part_first text f 1 e (omega arith)) ∙ s) bare

  no_double : (c d : ℕ) (m : Mark) → mark_at c d ≡ Some (m, 2) → part text f (f + 2) ≡ c ∷ d ∷ [] → ⊥
  no_double c d m s e = clash (ap (λ v. mark_at v (get_or text (f + 1) 0)) (part_first text f 2 e (omega arith)) ∙ ap (mark_at c) (part_second text f 2 e (omega arith)) ∙ s) bare

  no_word : (w : List ℕ) → is_letter (get_or w 0 0) ≡ true → 0 < length w → part text f (f + length w) ≡ w → ⊥
  no_word w l h e = differ (ap is_letter (part_first text f (length w) e h) ∙ l) low

  no_mark : (m : Mark) → part text f (f + length (mark_spelling m)) ≡ mark_spelling m → ⊥
  no_mark Open e = no_single 40 Open refl e
  no_mark Close e = no_single 41 Close refl e
  no_mark Not e = no_single 126 Not refl e
  no_mark And e = no_single 38 And refl e
  no_mark Or e = no_single 124 Or refl e
  no_mark Arrow e = no_double 45 62 Arrow refl e
  no_mark Comma e = no_single 44 Comma refl e
  no_mark Semicolon e = no_single 59 Semicolon refl e
  no_mark Stop e = no_single 46 Stop refl e
  no_mark YL e = no_double 89 76 YL refl e
  no_mark SL e = no_double 83 76 SL refl e
  no_mark OL e = no_double 79 76 OL refl e
  no_mark HL e = no_double 72 76 HL refl e
  no_mark YG e = no_double 89 71 YG refl e
  no_mark SG e = no_double 83 71 SG refl e
  no_mark OG e = no_double 79 71 OG refl e
  no_mark HG e = no_double 72 71 HG refl e
  no_mark Atoms e = no_word (codes "atoms") refl (omega arith) e
  no_mark Rule e = no_word (codes "rule") refl (omega arith) e
  no_mark True e = no_word (codes "true") refl (omega arith) e
  no_mark False e = no_word (codes "false") refl (omega arith) e

-- the bytes of a part, one by one
drop_get_or : (text : List ℕ) (f : ℕ) → f < length text → drop f text ≡ get_or text f 0 ∷ drop (suc f) text
drop_get_or text f h = drop-cons text f 0 h

one_byte : (text : List ℕ) (f : ℕ) → f < length text → part text f (f + 1) ≡ get_or text f 0 ∷ []
one_byte text f h = let n : f + 1 - f ≡ 1 = omega arith in ap (λ v. take v (drop f text)) n ∙ ap (take 1) (drop_get_or text f h)

two_bytes : (text : List ℕ) (f : ℕ) → suc f < length text → part text f (f + 2) ≡ get_or text f 0 ∷ get_or text (f + 1) 0 ∷ []
two_bytes text f h =
    let n : f + 2 - f ≡ 2 = omega arith in
    let k : suc f ≡ f + 1 = omega arith in
    ap (λ v. take v (drop f text)) n
    ∙ ap (take 2) (drop_get_or text f (omega arith))
    ∙ ap (λ v. get_or text f 0 ∷ take 1 v) (drop_get_or text (suc f) h)
    ∙ ap (λ v. get_or text f 0 ∷ get_or text v 0 ∷ []) k

-- a byte that is not 0 lies in the text
inside : (text : List ℕ) (i : ℕ) → (get_or text i 0 ≡ 0 → ⊥) → i < length text
inside text i apart = elim (cases_lt i (length text)) [ inl h ↦ h | inr h ↦ absurd (apart (get_or_past text i 0 h)) ]

blanks_of : (text : List ℕ) (at : ℕ) {f : ℕ} → Stretch is_blank text at f → Blanks text at f
blanks_of text at s = record { order = s.order; within = s.within; each = s.each }

letter_goes : (b : ℕ) → is_letter b ≡ true → is_name_byte b ≡ true
letter_goes b h = ap (λ v. v || (leb 48 b && leb b 57)) h

module _ (text : List ℕ) (at f : ℕ) (blanks : Stretch is_blank text at f) where
  -- a mark of one byte or two
  mark_stands : f < length text → is_letter (get_or text f 0) ≡ false → (r : Option (Mark × ℕ)) → mark_at (get_or text f 0) (get_or text (f + 1) 0) ≡ r → Spells (get_or text f 0) (get_or text (f + 1) 0) r → Stands text at (found_mark f r)
  mark_stands h low None e s = no_sign (blanks_of text at blanks) h (blanks.stop h) low (no_mark text f low e)
  mark_stands h low (Some p) e (inl s) =
      let long : f + 1 ≡ f + p.1 = omega (arith, s.0) in
      sign_stands (blanks_of text at blanks) (omega arith) (omega arith) (ap (part text f) (sym long) ∙ one_byte text f h ∙ s.1) (λ l. absurd (differ l low))
  mark_stands h low (Some p) e (inr s) =
      let near : f + 1 < length text = inside text (f + 1) s.2 in
      let long : f + 2 ≡ f + p.1 = omega (arith, s.0) in
      sign_stands (blanks_of text at blanks) (omega arith) (omega arith) (ap (part text f) (sym long) ∙ two_bytes text f (omega arith) ∙ s.1) (λ l. absurd (differ l low))

  -- a word, reserved or not
  module _ (e : ℕ) (first : is_letter (get_or text f 0) ≡ true) (word : Word text f e) (short : e ≤ f + 16) where
    reserved : (m : Mark) (r : Kind) → (bytes_eq (part text f e) (mark_spelling m) ≡ false → Stands text at (found r f e)) → Stands text at (found (cond (bytes_eq (part text f e) (mark_spelling m)) (mark m) r) f e)
    reserved m r other =
        cond_both (bytes_eq (part text f e) (mark_spelling m)) (mark m) r (λ k. Stands text at (found k f e))
        (λ same. sign_stands (blanks_of text at blanks) (omega (arith, word.order)) word.within ((bytes_eq-Decides (part text f e) (mark_spelling m)).0 same) (λ _. word))
        other

    begins : get_or (part text f e) 0 0 ≡ get_or text f 0
    begins = let n : f + (e - f) ≡ e = omega (arith, word.order) in ap (λ v. get_or (part text f v) 0 0) (sym n) ∙ part_get_or text f (e - f) 0 (omega (arith, word.order)) ∙ ap (λ v. get_or text v 0) (add-zero f)

    not_sign : (m : Mark) → is_letter (get_or (mark_spelling m) 0 0) ≡ false → part text f e ≡ mark_spelling m → ⊥
    not_sign m low same = differ first (ap is_letter (sym begins) ∙ ap (λ v. is_letter (get_or v 0 0)) same ∙ low)

    apart : (m : Mark) → bytes_eq (part text f e) (mark_spelling m) ≡ false → part text f e ≡ mark_spelling m → ⊥
    apart m differs same = not_from_Decides _ (bytes_eq-Decides (part text f e) (mark_spelling m)) differs same

    free : bytes_eq (part text f e) (codes "atoms") ≡ false → bytes_eq (part text f e) (codes "rule") ≡ false → bytes_eq (part text f e) (codes "true") ≡ false → bytes_eq (part text f e) (codes "false") ≡ false → (m : Mark) → part text f e ≡ mark_spelling m → ⊥
    free a b c d Open = not_sign Open refl
    free a b c d Close = not_sign Close refl
    free a b c d Not = not_sign Not refl
    free a b c d And = not_sign And refl
    free a b c d Or = not_sign Or refl
    free a b c d Arrow = not_sign Arrow refl
    free a b c d Comma = not_sign Comma refl
    free a b c d Semicolon = not_sign Semicolon refl
    free a b c d Stop = not_sign Stop refl
    free a b c d YL = not_sign YL refl
    free a b c d SL = not_sign SL refl
    free a b c d OL = not_sign OL refl
    free a b c d HL = not_sign HL refl
    free a b c d YG = not_sign YG refl
    free a b c d SG = not_sign SG refl
    free a b c d OG = not_sign OG refl
    free a b c d HG = not_sign HG refl
    free a b c d Atoms = apart Atoms a
    free a b c d Rule = apart Rule b
    free a b c d True = apart True c
    free a b c d False = apart False d

    word_stands : Stands text at (found (word_of (part text f e)) f e)
    word_stands =
        reserved Atoms _ (λ a. reserved Rule _ (λ b. reserved True _ (λ c. reserved False _ (λ d.
        sign_stands (blanks_of text at blanks) (omega (arith, word.order)) word.within refl (record { word = word; short = short; free = free a b c d })))))

  -- the letters and digits from f on
  word_at : is_letter (get_or text f 0) ≡ true → {e : ℕ} → Stretch is_name_byte text f e → f < length text → Word text f e
  word_at first {e} s h = record {
    order = elim (cases_lt f e) [ inl l ↦ l | inr l ↦ let z : f ≡ e = omega (arith, s.order) in absurd (differ (letter_goes (get_or text f 0) first) (subst (λ v. is_name_byte (get_or text v 0) ≡ false) (sym z) (s.stop (omega arith)))) ];
    within = s.within;
    first = first;
    each = s.each;
    longest = s.stop;
  }

  stands_at : Stands text at (found_at text f)
  stands_at =
      cond_both (leb (length text) f) _ _ (Stands text at)
      (λ past. let last : f ≡ length text = omega (arith, leb-true _ _ past, blanks.within) in
      sign_stands (blanks_of text at blanks) (omega arith) (omega arith) (ap (λ v. take v (drop f text)) (sub_self f)) last)
      (λ before. let h : f < length text = leb-false _ _ before in
      cond_both (is_letter (get_or text f 0)) _ _ (Stands text at)
      (λ first. let s = stretch is_name_byte text f (omega arith) in
      cond_both (ltb 16 (f + prefix_len is_name_byte (drop f text) - f)) _ _ (Stands text at)
      (λ long. long_name (blanks_of text at blanks) (word_at first s h) (omega (arith, ltb-true, long)))
      (λ short. word_stands (f + prefix_len is_name_byte (drop f text)) first (word_at first s h) (omega (arith, ltb-false, short))))
      (λ low. mark_stands h low _ refl (mark_spells (get_or text f 0) (get_or text (f + 1) 0))))

-- After blanks from any place on stands what `next_sign` says.
pub signs_stand : (text : List ℕ) (at : ℕ) → at ≤ length text → Stands text at (next_sign text at)
signs_stand text at h = stands_at text at (at + prefix_len is_blank (drop at text)) (stretch is_blank text at h)

pub found_stands : {text : List ℕ} {at : ℕ} {r : Found} → at ≤ length text → r ≡ next_sign text at → Stands text at r
found_stands {text} {at} h e = subst (Stands text at) (sym e) (signs_stand text at h)

-- a sign that stands ends in the text, behind the place that it was sought from
pub record Onward (text : List ℕ) (at : ℕ) (k : Kind) (f e : ℕ) : Type 0 where
  pub from_on : at ≤ f
  pub up : f ≤ e
  pub within : e ≤ length text
  pub more : (k ≡ end → ⊥) → f < e

some : {x : ℕ} {xs : List ℕ} → x ∷ xs ≡ [] → ⊥
some e = cc

mark_some : (m : Mark) → mark_spelling m ≡ [] → ⊥
mark_some Open e = some e
mark_some Close e = some e
mark_some Not e = some e
mark_some And e = some e
mark_some Or e = some e
mark_some Arrow e = some e
mark_some Comma e = some e
mark_some Semicolon e = some e
mark_some Stop e = some e
mark_some YL e = some e
mark_some SL e = some e
mark_some OL e = some e
mark_some HL e = some e
mark_some YG e = some e
mark_some SG e = some e
mark_some OG e = some e
mark_some HG e = some e
mark_some Atoms e = some e
mark_some Rule e = some e
mark_some True e = some e
mark_some False e = some e

spelled_some : (k : Kind) → (k ≡ end → ⊥) → (text : List ℕ) (f e : ℕ) → f ≤ e → part text f e ≡ spelling k → Whole text k f e → f < e
spelled_some (name w) other text f e h s whole = whole.word.order
spelled_some end other text f e h s whole = absurd (other refl)
spelled_some (mark m) other text f e h s whole =
    elim (cases_lt f e) [ inl l ↦ l | inr l ↦ let z : e - f ≡ 0 = omega arith in absurd (mark_some m (sym s ∙ ap (λ v. take v (drop f text)) z)) ]

pub onward : {text : List ℕ} {at : ℕ} {k : Kind} {f e : ℕ} → Stands text at (found k f e) → Onward text at k f e
onward {text} {at} {k} {f} {e} (sign_stands b up within s whole) = record { from_on = b.order; up = up; within = within; more = λ other. spelled_some k other text f e up s whole }
