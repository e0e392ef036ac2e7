-- A form spelled by other operations has its truth. Assumes nothing.
use Rattle.std.proofs.Common.{◌≡◌, ℕ, true, sym, refl, ap, ◌∙◌, ap₂}
use Rattle.scales.specs.Algebra.{Algebra, Laws, and}
use Rattle.scales.proofs.Ands.{not_gives_code, or_gives_code, and_gives_code, yes_and}
use Rattle.lines.specs.declared.line.Prefix.{Prefix}
use Rattle.lines.specs.declared.line.Prefix.TheVariants as single
use Rattle.lines.specs.declared.line.Infix.{Infix}
use Rattle.lines.specs.declared.line.Infix.TheVariants as pair
use Rattle.lines.specs.Forms.{Form, atom, no, yes, prefixed, joined}
use Rattle.logic.specs.Truth.{Truths, prefix_truth, infix_truth, truth}
use Rattle.logic.specs.TableMeans.{TableMeans}
use Rattle.logic.proofs.Related.{Both, prefix_related, infix_related, over_runs_related, over_states_related, present_related}
use Rattle.logic.proofs.Clear.{SameCodes, SameCode, alike_self, same_at, same_not, same_or}
use Rattle.logic.proofs.Spelled.{spell_prefix, spell_infix, spelled, rule_is_spelled}

module _ (S : Algebra) (L : Laws S) where
  -- the same codes at every run after like histories of codes
  abbrev Same : Truths → Truths → Type 0
  Same = Both (SameCodes S) (SameCode S)

  -- a code of which the other is the not
  abbrev Denied : ℕ → ℕ → Type 0
  Denied b a = SameCode S (S.not b) a × (S.code b ≡ true)

  -- one step of once and of always, by true since
  once_first : (b a : ℕ) → SameCode S b a → SameCode S (S.or b S.no) a
  once_first b a e = (L.or_no b (ap S.code e.0 ∙ e.1) ∙ e.0, e.1)

  once_next : (b a x y : ℕ) → SameCode S b a → SameCode S x y → SameCode S (S.or b (and S S.yes x)) (S.or a y)
  once_next b a x y e r = (ap₂ S.or e.0 (yes_and S L x (ap S.code r.0 ∙ r.1) ∙ r.0), or_gives_code S L a y)

  always_first : (b a : ℕ) → SameCode S b a → Denied (S.or (S.not b) S.no) a
  always_first b a e =
      ((ap S.not (L.or_no (S.not b) (not_gives_code S L b)) ∙ L.not_not b (ap S.code e.0 ∙ e.1) ∙ e.0, e.1), or_gives_code S L (S.not b) S.no)

  always_next : (b a x y : ℕ) → SameCode S b a → Denied x y → Denied (S.or (S.not b) (and S S.yes x)) (and S a y)
  always_next b a x y e r =
      let x-is : x ≡ S.not y = sym (L.not_not x r.1) ∙ ap S.not r.0.0 in (
        (ap₂ (λ u w. S.not (S.or (S.not u) w)) e.0 (yes_and S L x r.1 ∙ x-is), and_gives_code S L a y),
        or_gives_code S L (S.not b) (and S S.yes x),
      )

  prefix_means : (o : Prefix) (f : Form) (w : Truths) → Same (truth S f) w → Same (truth S (spell_prefix o f)) (prefix_truth S o w)
  prefix_means single.Not f w e g h c s = same_not S L _ _ (e g h c s)
  prefix_means single.YL f w e g h c s =
      prefix_related (SameCodes S) (SameCode S) S (refl, L.no_code) (refl, L.yes_code) (same_not S L) (same_or S L) single.YL (truth S f) w e g h c s
  prefix_means single.OL f w e g h c s =
      over_states_related (SameCodes S) (SameCode S) _ w _ _ (λ g h c s. once_first _ _ (e g h c s)) (λ g h c s x y r. once_next _ _ x y (e g h c s) r) g h c s
  prefix_means single.HL f w e g h c s =
      (over_states_related (SameCodes S) Denied _ w _ _ (λ g h c s. always_first _ _ (e g h c s)) (λ g h c s x y r. always_next _ _ x y (e g h c s) r) g h c s).0
  prefix_means single.YG f w e g h c s =
      prefix_related (SameCodes S) (SameCode S) S (refl, L.no_code) (refl, L.yes_code) (same_not S L) (same_or S L) single.YG (truth S f) w e g h c s
  prefix_means single.OG f w e g h c s =
      over_runs_related (SameCodes S) (SameCode S) _ (w h) _ _ (λ s. once_first _ _ (e g h c s)) (λ s x y r. once_next _ _ x y (e g h c s) r) s
  prefix_means single.HG f w e g h c s =
      (over_runs_related (SameCodes S) Denied _ (w h) _ _ (λ s. always_first _ _ (e g h c s)) (λ s x y r. always_next _ _ x y (e g h c s) r) s).0

  infix_means : (o : Infix) (f f' : Form) (w w' : Truths) → Same (truth S f) w → Same (truth S f') w' → Same (truth S (spell_infix o f f')) (infix_truth S o w w')
  infix_means pair.SL f f' w w' d e g h c s =
      infix_related (SameCodes S) (SameCode S) S (refl, L.no_code) (refl, L.yes_code) (same_not S L) (same_or S L) pair.SL (truth S f) w (truth S f') w' d e g h c s
  infix_means pair.SG f f' w w' d e g h c s =
      infix_related (SameCodes S) (SameCode S) S (refl, L.no_code) (refl, L.yes_code) (same_not S L) (same_or S L) pair.SG (truth S f) w (truth S f') w' d e g h c s
  infix_means pair.And f f' w w' d e g h c s = same_not S L _ _ (same_or S L _ _ _ _ (same_not S L _ _ (d g h c s)) (same_not S L _ _ (e g h c s)))
  infix_means pair.Or f f' w w' d e g h c s = same_or S L _ _ _ _ (d g h c s) (e g h c s)
  infix_means pair.Implies f f' w w' d e g h c s = same_or S L _ _ _ _ (same_not S L _ _ (d g h c s)) (e g h c s)

  spelled_means : (f : Form) → Same (truth S (spelled f)) (truth S f)
  spelled_means (atom i) g h c s = same_at S L _ _ (present_related (SameCodes S) (refl, refl) c s) i
  spelled_means no g h c s = (refl, L.no_code)
  spelled_means yes g h c s = (refl, L.yes_code)
  spelled_means (prefixed o f) g h c s = prefix_means o (spelled f) (truth S f) (spelled_means f) g h c s
  spelled_means (joined o f f') g h c s = infix_means o (spelled f) (spelled f') (truth S f) (truth S f') (spelled_means f) (spelled_means f') g h c s

pub table_means : TableMeans
table_means S L f h k s = ap (λ x. truth S x h s) (rule_is_spelled f) ∙ (spelled_means S L f h h (alike_self S L h k) s).0
