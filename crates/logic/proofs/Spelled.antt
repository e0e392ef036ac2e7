-- The rule of a form's table is the form with `&`, `->`, O and H spelled by the other operations. Assumes nothing.
use Rattle.std.proofs.Common.{◌≡◌, ℕ, ◌+◌, ◌-◌, ◌<◌, List, [], ◌∷◌, ◌++◌, length, get_or, refl, ap, ◌∙◌, ap₂, add-zero, arith, length-append}
use Rattle.std.proofs.lemmas.List.{get_or_append_left, get_or_push}
use Rattle.lines.specs.declared.line.Prefix.{Prefix}
use Rattle.lines.specs.declared.line.Prefix.TheVariants as single
use Rattle.lines.specs.declared.line.Infix.{Infix}
use Rattle.lines.specs.declared.line.Infix.TheVariants as pair
use Rattle.lines.specs.declared.line.Line.{Line}
use Rattle.lines.specs.declared.line.Line.TheVariants.{Not, SL, SG}
use Rattle.lines.specs.Forms.{Form, atom, no, yes, prefixed, joined}
use Rattle.lines.specs.Stands.{form_of, forms_below, forms, rule}
use Rattle.lines.specs.Tables.{leading_lines, closing_lines, middle_lines, ending_lines, leading_count, closing_count, middle_count, ending_count, before_last, lines, table}
use Rattle.logic.proofs.Rows.{forms_keep, length_forms_below}

abbrev pub spell_prefix : Prefix → Form → Form
spell_prefix single.Not f = prefixed single.Not f
spell_prefix single.YL f = prefixed single.YL f
spell_prefix single.OL f = joined pair.SL yes f
spell_prefix single.HL f = prefixed single.Not (joined pair.SL yes (prefixed single.Not f))
spell_prefix single.YG f = prefixed single.YG f
spell_prefix single.OG f = joined pair.SG yes f
spell_prefix single.HG f = prefixed single.Not (joined pair.SG yes (prefixed single.Not f))

abbrev pub spell_infix : Infix → Form → Form → Form
spell_infix pair.SL f g = joined pair.SL f g
spell_infix pair.SG f g = joined pair.SG f g
spell_infix pair.And f g = prefixed single.Not (joined pair.Or (prefixed single.Not f) (prefixed single.Not g))
spell_infix pair.Or f g = joined pair.Or f g
spell_infix pair.Implies f g = joined pair.Or (prefixed single.Not f) g

abbrev pub spelled : Form → Form
spelled (atom i) = atom i
spelled no = no
spelled yes = yes
spelled (prefixed o f) = spell_prefix o (spelled f)
spelled (joined o f g) = spell_infix o (spelled f) (spelled g)

-- how many lines there are
length_closing : (o : Prefix) (k i : ℕ) → length (closing_lines o k i) ≡ closing_count o
length_closing single.Not k i = refl
length_closing single.YL k i = refl
length_closing single.OL k i = refl
length_closing single.HL k i = refl
length_closing single.YG k i = refl
length_closing single.OG k i = refl
length_closing single.HG k i = refl

length_middle : (o : Infix) (i : ℕ) → length (middle_lines o i) ≡ middle_count o
length_middle pair.SL i = refl
length_middle pair.SG i = refl
length_middle pair.And i = refl
length_middle pair.Or i = refl
length_middle pair.Implies i = refl

length_ending : (o : Infix) (i j : ℕ) → length (ending_lines o i j) ≡ ending_count o
length_ending pair.SL i j = refl
length_ending pair.SG i j = refl
length_ending pair.And i j = refl
length_ending pair.Or i j = refl
length_ending pair.Implies i j = refl

pub length_lines : (f : Form) (k : ℕ) → length (lines k f) ≡ before_last f + 1
length_lines (atom i) k = refl
length_lines no k = refl
length_lines yes k = refl
length_lines (prefixed o f) k =
    let part = length_lines f (k + leading_count o) in
    let close = length_closing o k (k + leading_count o + before_last f) in
    simp length-append (omega arith)
length_lines (joined o f g) k =
    let left = length_lines f k in
    let right = length_lines g (k + before_last f + 1 + middle_count o) in
    let mid = length_middle o (k + before_last f) in
    let end = length_ending o (k + before_last f + middle_count o) (k + before_last f + 1 + middle_count o + before_last g) in
    simp length-append (omega arith)

-- more lines, below the forms of those before
forms_more : (xs ys : List Line) (above : List Form) → forms_below above (xs ++ ys) ≡ forms_below (forms_below above xs) ys
forms_more [] ys above = refl
forms_more (x ∷ xs) ys above = forms_more xs ys (above ++ (form_of above x ∷ []))

length_push : {A : Type 0} (xs : List A) (x : A) → length (xs ++ (x ∷ [])) ≡ length xs + 1
length_push xs x = length-append xs (x ∷ [])

-- a list to which x is added at the place i, and what stood before it
pushed : (xs : List Form) (x : Form) (i : ℕ) → length xs ≡ i → get_or (xs ++ (x ∷ [])) i no ≡ x
pushed xs x i e = get_or_push xs x no i e

kept : (xs : List Form) (x : Form) (i : ℕ) → i < length xs → get_or (xs ++ (x ∷ [])) i no ≡ get_or xs i no
kept xs x i l = get_or_append_left xs (x ∷ []) no i l

-- the last form that closing lines write, where line k is yes and line i, the last above, is x
module _ (above : List Form) (k i : ℕ) (x : Form) (long : length above ≡ i + 1) (is : get_or above i no ≡ x) where
  -- H by its since, of the one kind or the other
  always : (o : Infix) (line : ℕ → ℕ → Line) → ((fs : List Form) (a b : ℕ) → form_of fs (line a b) ≡ joined o (get_or fs a no) (get_or fs b no)) →
      k < i + 1 → get_or above k no ≡ yes →
      get_or (forms_below above (Not i ∷ line k (i + 1) ∷ Not (i + 2) ∷ [])) (i + 3) no ≡ prefixed single.Not (joined o yes (prefixed single.Not x))
  always o line reads l y =
      let denied : Form = prefixed single.Not (get_or above i no) in
      let two : List Form = above ++ (denied ∷ []) in
      let since : Form = form_of two (line k (i + 1)) in
      let three : List Form = two ++ (since ∷ []) in
      let n2 : length two ≡ i + 2 = length_push above denied ∙ omega arith in
      let n3 : length three ≡ i + 3 = length_push two since ∙ omega arith in
      pushed three (prefixed single.Not (get_or three (i + 2) no)) (i + 3) n3
      ∙ ap (prefixed single.Not) (
      pushed two since (i + 2) n2
      ∙ reads two k (i + 1)
      ∙ ap₂ (joined o) (kept above denied k (omega arith) ∙ y) (pushed above denied (i + 1) long ∙ ap (prefixed single.Not) is)
      )

  last_closing : (o : Prefix) → (0 < leading_count o → (k < i + 1) × (get_or above k no ≡ yes)) →
      get_or (forms_below above (closing_lines o k i)) (i + closing_count o) no ≡ spell_prefix o x
  last_closing single.Not y = pushed above _ (i + 1) long ∙ ap (prefixed single.Not) is
  last_closing single.YL y = pushed above _ (i + 1) long ∙ ap (prefixed single.YL) is
  last_closing single.OL y = pushed above _ (i + 1) long ∙ ap₂ (joined pair.SL) (y (omega arith)).1 is
  last_closing single.HL y = always pair.SL SL (λ fs a b. refl) (y (omega arith)).0 (y (omega arith)).1
  last_closing single.YG y = pushed above _ (i + 1) long ∙ ap (prefixed single.YG) is
  last_closing single.OG y = pushed above _ (i + 1) long ∙ ap₂ (joined pair.SG) (y (omega arith)).1 is
  last_closing single.HG y = always pair.SG SG (λ fs a b. refl) (y (omega arith)).0 (y (omega arith)).1

-- the left side of an infix, where line i, the last above, is x
abbrev left_side : Infix → Form → Form
left_side pair.SL x = x
left_side pair.SG x = x
left_side pair.And x = prefixed single.Not x
left_side pair.Or x = x
left_side pair.Implies x = prefixed single.Not x

last_middle : (above : List Form) (i : ℕ) (x : Form) → length above ≡ i + 1 → get_or above i no ≡ x → (o : Infix) →
    get_or (forms_below above (middle_lines o i)) (i + middle_count o) no ≡ left_side o x
last_middle above i x long is pair.SL = rw (add-zero i) is
last_middle above i x long is pair.SG = rw (add-zero i) is
last_middle above i x long is pair.And = pushed above _ (i + 1) long ∙ ap (prefixed single.Not) is
last_middle above i x long is pair.Or = rw (add-zero i) is
last_middle above i x long is pair.Implies = pushed above _ (i + 1) long ∙ ap (prefixed single.Not) is

-- the last form that ending lines write, where line i is the left side of x and line j, the last above, is y
last_ending : (above : List Form) (i j : ℕ) (x y : Form) (o : Infix) → length above ≡ j + 1 → i < j + 1 → get_or above i no ≡ left_side o x → get_or above j no ≡ y →
    get_or (forms_below above (ending_lines o i j)) (j + ending_count o) no ≡ spell_infix o x y
last_ending above i j x y pair.SL long l a b = pushed above _ (j + 1) long ∙ ap₂ (joined pair.SL) a b
last_ending above i j x y pair.SG long l a b = pushed above _ (j + 1) long ∙ ap₂ (joined pair.SG) a b
last_ending above i j x y pair.And long l a b =
    let denied : Form = prefixed single.Not (get_or above j no) in
    let two : List Form = above ++ (denied ∷ []) in
    let either : Form = joined pair.Or (get_or two i no) (get_or two (j + 1) no) in
    let three : List Form = two ++ (either ∷ []) in
    let n2 : length two ≡ j + 2 = length_push above denied ∙ omega arith in
    let n3 : length three ≡ j + 3 = length_push two either ∙ omega arith in
    pushed three (prefixed single.Not (get_or three (j + 2) no)) (j + 3) n3
    ∙ ap (prefixed single.Not) (
    pushed two either (j + 2) n2
    ∙ ap₂ (joined pair.Or) (kept above denied i (omega arith) ∙ a) (pushed above denied (j + 1) long ∙ ap (prefixed single.Not) b)
    )
last_ending above i j x y pair.Or long l a b = pushed above _ (j + 1) long ∙ ap₂ (joined pair.Or) a b
last_ending above i j x y pair.Implies long l a b = pushed above _ (j + 1) long ∙ ap₂ (joined pair.Or) a b

-- the yes before the part of an O or an H
leading_yes : (o : Prefix) (above : List Form) (k : ℕ) → length above ≡ k → 0 < leading_count o → get_or (forms_below above (leading_lines o)) k no ≡ yes
leading_yes single.Not above k e l = absurd (omega arith)
leading_yes single.YL above k e l = absurd (omega arith)
leading_yes single.OL above k e l = pushed above yes k e
leading_yes single.HL above k e l = pushed above yes k e
leading_yes single.YG above k e l = absurd (omega arith)
leading_yes single.OG above k e l = pushed above yes k e
leading_yes single.HG above k e l = pushed above yes k e

last_form : (f : Form) (above : List Form) (k : ℕ) → length above ≡ k → get_or (forms_below above (lines k f)) (k + before_last f) no ≡ spelled f
last_form (atom i) above k e = rw (add-zero k) (pushed above (atom i) k e)
last_form no above k e = rw (add-zero k) (pushed above no k e)
last_form yes above k e = rw (add-zero k) (pushed above yes k e)
last_form (prefixed o f) above k e =
    let i : ℕ = k + leading_count o + before_last f in
    let led : List Form = forms_below above (leading_lines o) in
    let part : List Form = forms_below led (lines (k + leading_count o) f) in
    let n1 : length led ≡ k + leading_count o = length_forms_below (leading_lines o) above ∙ ap (λ m. m + leading_count o) e in
    let n2 : length part ≡ i + 1 = let n = length_lines f (k + leading_count o) in length_forms_below (lines (k + leading_count o) f) led ∙ omega arith in
    let place : k + (leading_count o + before_last f + closing_count o) ≡ i + closing_count o = omega arith in
    ap₂ (λ fs m. get_or fs m no) (
    forms_more (leading_lines o) (lines (k + leading_count o) f ++ closing_lines o k i) above
    ∙ forms_more (lines (k + leading_count o) f) (closing_lines o k i) led
    ) place
    ∙ last_closing part k i (spelled f) n2 (last_form f led (k + leading_count o) n1) o (λ l. (
      omega arith,
      forms_keep (lines (k + leading_count o) f) led k (omega arith) ∙ leading_yes o above k e l,
    ))
last_form (joined o f g) above k e =
    let a : ℕ = k + before_last f in
    let b : ℕ = a + 1 + middle_count o in
    let j : ℕ = b + before_last g in
    let first : List Form = forms_below above (lines k f) in
    let mid : List Form = forms_below first (middle_lines o a) in
    let both : List Form = forms_below mid (lines b g) in
    let n1 : length first ≡ a + 1 = let n = length_lines f k in length_forms_below (lines k f) above ∙ omega arith in
    let n2 : length mid ≡ b = let n = length_middle o a in length_forms_below (middle_lines o a) first ∙ omega arith in
    let n3 : length both ≡ j + 1 = let n = length_lines g b in length_forms_below (lines b g) mid ∙ omega arith in
    let place : k + (before_last f + 1 + middle_count o + before_last g + ending_count o) ≡ j + ending_count o = omega arith in
    ap₂ (λ fs m. get_or fs m no) (
    forms_more (lines k f) (middle_lines o a ++ (lines b g ++ ending_lines o (a + middle_count o) j)) above
    ∙ forms_more (middle_lines o a) (lines b g ++ ending_lines o (a + middle_count o) j) first
    ∙ forms_more (lines b g) (ending_lines o (a + middle_count o) j) mid
    ) place
    ∙ last_ending both (a + middle_count o) j (spelled f) (spelled g) o n3 (omega arith)
    (forms_keep (lines b g) mid (a + middle_count o) (omega arith) ∙ last_middle first a (spelled f) n1 (last_form f above k e) o)
    (last_form g mid b n2)

pub rule_is_spelled : (f : Form) → rule (table f) ≡ spelled f
rule_is_spelled f =
    let n : length (table f) - 1 ≡ 0 + before_last f = let m = length_lines f 0 in omega arith in
    ap (λ i. get_or (forms (table f)) i no) n ∙ last_form f [] 0 refl
