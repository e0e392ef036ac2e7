-- What each operation says, one step back at a time: the logic in sentences. A law of the definitions.
use Rattle.std.specs.Prelude.{◌≡◌, ℕ, suc, Some, None}
use Rattle.scales.specs.Algebra.{Algebra, and}
use Rattle.lines.specs.declared.line.Prefix.TheVariants as single
use Rattle.lines.specs.declared.line.Infix.TheVariants as pair
use Rattle.lines.specs.Forms.{Form, prefixed, joined}
use Rattle.logic.specs.History.{History, earlier}
use Rattle.logic.specs.Truth.{truth}

-- At a run s after h that has no earlier state, or one after g.
pub record Local (S : Algebra) (a b : Form) (h : History) (s : ℕ) : Type 0 where
  pub YL_first : earlier h s ≡ None → truth S (prefixed single.YL a) h s ≡ S.no
  pub YL_later : (g : History) → earlier h s ≡ Some g → truth S (prefixed single.YL a) h s ≡ truth S a g s
  pub SL_first : earlier h s ≡ None → truth S (joined pair.SL a b) h s ≡ S.or (truth S b h s) S.no
  pub SL_later : (g : History) → earlier h s ≡ Some g →
      truth S (joined pair.SL a b) h s ≡ S.or (truth S b h s) (and S (truth S a h s) (truth S (joined pair.SL a b) g s))
  pub OL_first : earlier h s ≡ None → truth S (prefixed single.OL a) h s ≡ truth S a h s
  pub OL_later : (g : History) → earlier h s ≡ Some g →
      truth S (prefixed single.OL a) h s ≡ S.or (truth S a h s) (truth S (prefixed single.OL a) g s)
  pub HL_first : earlier h s ≡ None → truth S (prefixed single.HL a) h s ≡ truth S a h s
  pub HL_later : (g : History) → earlier h s ≡ Some g →
      truth S (prefixed single.HL a) h s ≡ and S (truth S a h s) (truth S (prefixed single.HL a) g s)

-- At run 1, and at run n + 2 from what run n + 1 has after the same history.
pub record Global (S : Algebra) (a b : Form) (h : History) (n : ℕ) : Type 0 where
  pub YG_first : truth S (prefixed single.YG a) h 1 ≡ S.no
  pub YG_later : truth S (prefixed single.YG a) h (suc (suc n)) ≡ truth S a h (suc n)
  pub SG_first : truth S (joined pair.SG a b) h 1 ≡ S.or (truth S b h 1) S.no
  pub SG_later : truth S (joined pair.SG a b) h (suc (suc n))
      ≡ S.or (truth S b h (suc (suc n))) (and S (truth S a h (suc (suc n))) (truth S (joined pair.SG a b) h (suc n)))
  pub OG_first : truth S (prefixed single.OG a) h 1 ≡ truth S a h 1
  pub OG_later : truth S (prefixed single.OG a) h (suc (suc n)) ≡ S.or (truth S a h (suc (suc n))) (truth S (prefixed single.OG a) h (suc n))
  pub HG_first : truth S (prefixed single.HG a) h 1 ≡ truth S a h 1
  pub HG_later : truth S (prefixed single.HG a) h (suc (suc n)) ≡ and S (truth S a h (suc (suc n))) (truth S (prefixed single.HG a) h (suc n))

abbrev pub LocalReadings : Type 0
LocalReadings = (S : Algebra) (a b : Form) (h : History) (s : ℕ) → Local S a b h s

abbrev pub GlobalReadings : Type 0
GlobalReadings = (S : Algebra) (a b : Form) (h : History) (n : ℕ) → Global S a b h n
