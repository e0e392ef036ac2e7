-- A row comes line by line: each line's judging gives the truth of the form that it stands for. Assumes nothing.
use Rattle.std.proofs.Common.{◌≡◌, ℕ, zero, suc, ◌+◌, ◌-◌, ◌<◌, true, List, [], ◌∷◌, ◌++◌, map, length, get_or, replicate, sym, refl, ap, ◌∙◌, ap₂, zero-add, add-one, arith, length-append}
use Rattle.std.proofs.lemmas.List.{map-append}
use Rattle.std.proofs.Math.ListN.{length-map, length-replicate, get_or-map}
use Rattle.std.proofs.lemmas.List.{get_or_append_left, get_or_push}
use Rattle.std.proofs.lemmas.Bool.{and_parts, ltb-true}
use Rattle.scales.specs.Algebra.{Algebra, Laws, and}
use Rattle.lines.specs.declared.line.Line.{Line}
use Rattle.lines.specs.declared.line.Line.TheVariants.{Atom, No, Yes, Not, Or, YL, SL, YG, SG}
use Rattle.lines.specs.Forms.{Form, no}
use Rattle.lines.specs.Stands.{form_of, forms_below, forms, rule, fits, well_formed}
use Rattle.logic.specs.History.{History, present, before, earlier_run}
use Rattle.logic.specs.Truth.{truth}
use Rattle.logic.specs.Rows.{row, nos, judged, judged_below}
use Rattle.logic.specs.Steps.{RowStep}
use Rattle.logic.proofs.Back.{before_reads, earlier_run_reads, before_always, SL_reads, SG_reads}

get_d_replicate : (n i d : ℕ) → get_or (replicate n d) i d ≡ d
get_d_replicate zero i d = refl
get_d_replicate (suc n) zero d = refl
get_d_replicate (suc n) (suc i) d = get_d_replicate n i d

length_push : {A : Type 0} (xs : List A) (x : A) → length (xs ++ (x ∷ [])) ≡ suc (length xs)
length_push xs x = length-append xs (x ∷ []) ∙ add-one (length xs)

-- the forms of the lines above stay as lines are added, and a line's own is then behind them
pub forms_keep : (ls : List Line) (above : List Form) (i : ℕ) → i < length above → get_or (forms_below above ls) i no ≡ get_or above i no
forms_keep [] above i h = refl
forms_keep (l ∷ ls) above i h =
    forms_keep ls (above ++ (form_of above l ∷ [])) i (rw (length_push above (form_of above l)) (omega arith))
    ∙ get_or_append_left above (form_of above l ∷ []) no i h

forms_new : (l : Line) (ls : List Line) (above : List Form) → get_or (forms_below above (l ∷ ls)) (length above) no ≡ form_of above l
forms_new l ls above =
    forms_keep ls (above ++ (form_of above l ∷ [])) (length above) (rw (length_push above (form_of above l)) (omega arith))
    ∙ get_or_push above (form_of above l) no (length above) refl

pub length_forms_below : (ls : List Line) (above : List Form) → length (forms_below above ls) ≡ length above + length ls
length_forms_below [] above = omega arith
length_forms_below (l ∷ ls) above =
    let pushed = length_push above (form_of above l) in length_forms_below ls (above ++ (form_of above l ∷ [])) ∙ omega arith

pub length_forms : (ls : List Line) → length (forms ls) ≡ length ls
length_forms ls = length_forms_below ls [] ∙ zero-add (length ls)

-- how long rows are
pub length_row : (S : Algebra) (ls : List Line) (h : History) (s : ℕ) → length (row S ls h s) ≡ length ls
length_row S ls h s = length-map (forms ls) (λ f. truth S f h s) ∙ length_forms ls

pub length_before : (S : Algebra) (ls : List Line) (h : History) (s : ℕ) → length (before (nos S ls) (row S ls) h s) ≡ length ls
length_before S ls h s =
    before_reads length (nos S ls) (length ls) (row S ls) (λ _ _. length ls) (length-replicate (length ls) S.no) (length_row S ls) h s
    ∙ before_always (length ls) h s

-- a line's truth stands at its place in the row, the rule's in the last
pub row_at : (S : Algebra) (ls : List Line) (h : History) (s i : ℕ) → get_or (row S ls h s) i S.no ≡ truth S (get_or (forms ls) i no) h s
row_at S ls h s i = get_or-map (λ f. truth S f h s) (forms ls) i no

pub rule_at : (S : Algebra) (ls : List Line) (h : History) (s : ℕ) → get_or (row S ls h s) (length ls - 1) S.no ≡ truth S (rule ls) h s
rule_at S ls h s = row_at S ls h s (length ls - 1)

module _ (S : Algebra) (L : Laws S) (n : ℕ) (h : History) (s : ℕ) (all : List Form) (past previous : List ℕ)
    (past_is : (i : ℕ) → get_or past i S.no ≡ before S.no (truth S (get_or all i no)) h s)
    (previous_is : (i : ℕ) → get_or previous i S.no ≡ earlier_run S.no (truth S (get_or all i no) h) s) where
  at : (fs : List Form) (i : ℕ) → get_or (map (λ f. truth S f h s) fs) i S.no ≡ truth S (get_or fs i no) h s
  at fs i = get_or-map (λ f. truth S f h s) fs i no

  module _ (fs : List Form) (keep : (i : ℕ) → i < length fs → get_or all i no ≡ get_or fs i no) where
    -- the truths of since, from what it reads at its own place
    own_past : (f : Form) → get_or all (length fs) no ≡ f → get_or past (length (map (λ f. truth S f h s) fs)) S.no ≡ before S.no (truth S f) h s
    own_past f new =
        ap (λ k. get_or past k S.no) (length-map fs (λ f. truth S f h s)) ∙ past_is (length fs) ∙ ap (λ f. before S.no (truth S f) h s) new

    own_previous : (f : Form) → get_or all (length fs) no ≡ f → get_or previous (length (map (λ f. truth S f h s) fs)) S.no ≡ earlier_run S.no (truth S f h) s
    own_previous f new =
        ap (λ k. get_or previous k S.no) (length-map fs (λ f. truth S f h s)) ∙ previous_is (length fs) ∙ ap (λ f. earlier_run S.no (truth S f h) s) new

    line_judged : (l : Line) → get_or all (length fs) no ≡ form_of fs l → fits n (length fs) l ≡ true →
        judged S (present h s) past previous (map (λ f. truth S f h s) fs) l ≡ truth S (form_of fs l) h s
    line_judged (Atom i) new ok = refl
    line_judged No new ok = refl
    line_judged Yes new ok = refl
    line_judged (Not i) new ok = ap S.not (at fs i)
    line_judged (Or i j) new ok = ap₂ S.or (at fs i) (at fs j)
    line_judged (YL i) new ok = past_is i ∙ ap (λ f. before S.no (truth S f) h s) (keep i (ltb-true i (length fs) ok))
    line_judged (SL i j) new ok =
        ap₂ S.or (at fs j) (ap₂ (and S) (at fs i) (own_past (form_of fs (SL i j)) new))
        ∙ sym (SL_reads S L (truth S (get_or fs i no)) (truth S (get_or fs j no)) h s)
    line_judged (YG i) new ok = previous_is i ∙ ap (λ f. earlier_run S.no (truth S f h) s) (keep i (ltb-true i (length fs) ok))
    line_judged (SG i j) new ok =
        ap₂ S.or (at fs j) (ap₂ (and S) (at fs i) (own_previous (form_of fs (SG i j)) new))
        ∙ sym (SG_reads S L (truth S (get_or fs i no)) (truth S (get_or fs j no)) h s)

  lines_judged : (ls : List Line) (fs : List Form) → forms_below fs ls ≡ all → well_formed n (length fs) ls ≡ true →
      judged_below S (present h s) past previous (map (λ f. truth S f h s) fs) ls ≡ map (λ f. truth S f h s) (forms_below fs ls)
  lines_judged [] fs e ok = refl
  lines_judged (l ∷ ls) fs e ok =
      let fit = and_parts (fits n (length fs) l) (well_formed n (suc (length fs)) ls) ok in
      let new : judged S (present h s) past previous (map (λ f. truth S f h s) fs) l ≡ truth S (form_of fs l) h s =
      line_judged fs (λ i lt. ap (λ a. get_or a i no) (sym e) ∙ forms_keep (l ∷ ls) fs i lt) l
      (ap (λ a. get_or a (length fs) no) (sym e) ∙ forms_new l ls fs) fit.0 in
      let pushed : map (λ f. truth S f h s) fs ++ (judged S (present h s) past previous (map (λ f. truth S f h s) fs) l ∷ []) ≡ map (λ f. truth S f h s) (fs ++ (form_of fs l ∷ [])) =
      ap (λ x. map (λ f. truth S f h s) fs ++ (x ∷ [])) new ∙ sym (map-append (λ f. truth S f h s) fs (form_of fs l ∷ [])) in
      ap (λ a. judged_below S (present h s) past previous a ls) pushed
      ∙ lines_judged ls (fs ++ (form_of fs l ∷ [])) e (ap (λ k. well_formed n k ls) (length_push fs (form_of fs l)) ∙ fit.1)

pub row_step : RowStep
row_step S L n ls ok h s =
    sym (lines_judged S L n h s (forms ls) (before (nos S ls) (row S ls) h s) (earlier_run (nos S ls) (row S ls h) s)
    (λ i. before_reads (λ xs. get_or xs i S.no) (nos S ls) S.no (row S ls) (truth S (get_or (forms ls) i no)) (get_d_replicate (length ls) i S.no)
    (λ g t. row_at S ls g t i) h s)
    (λ i. earlier_run_reads (λ xs. get_or xs i S.no) (nos S ls) S.no (row S ls h) (truth S (get_or (forms ls) i no) h) (get_d_replicate (length ls) i S.no)
    (λ t. row_at S ls h t i) s)
    ls [] refl ok)
