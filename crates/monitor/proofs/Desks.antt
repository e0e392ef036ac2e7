-- What holds by rules holds by the same rules under another name. Assumes nothing.
use Rattle.std.proofs.Common.{◌≡◌, ℕ, ◌+◌, ◌*◌, Bool, List, length, subst}
use Rattle.scales.specs.Algebra.{Algebra}
use Rattle.lines.specs.declared.line.Line.{Line}
use Rattle.stores.specs.Meaning.{Meaning, record_at}
use Rattle.meaning.specs.Records.{width}
use Rattle.meaning.specs.Walking.{Held, Turned}
use Rattle.monitor.specs.declared.rules.Rules.{Rules}
use Rattle.monitor.specs.declared.desk.Desk.{Desk}

module _ {K : Type 0} (r : Rules K) (e : Desk K) (same : e.rules ≡ r) where
  pub by_rules : (P : List Line → ℕ → Type 0) → P e.rules.table.now e.rules.atoms → P r.table.now r.atoms
  by_rules P p = subst (λ (x : Rules K). P x.table.now x.atoms) same p

  pub wide_by : length e.rec.now ≡ width r.atoms r.table.now
  wide_by = by_rules (λ ls a. length e.rec.now ≡ 1 + a + 2 * length ls) e.fits.0

  pub turned_by : (S : Algebra) (m : Meaning) (len run : ℕ) (previous out rec : List ℕ) (stays : Bool) →
      (Held m len run → Turned S e.rules.table.now e.rules.atoms (record_at m run) previous out rec stays) → Held m len run → Turned S r.table.now r.atoms (record_at m run) previous out rec stays
  turned_by S m len run previous out rec stays = by_rules (λ ls a. Held m len run → Turned S ls a (record_at m run) previous out rec stays)
