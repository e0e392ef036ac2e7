-- Lent room for one record and two rows. Assumes nothing.
use Rattle.std.specs.Prelude.{◌≡◌, ℕ, ◌+◌, ◌*◌, List, length}
use Rattle.monitor.specs.declared.rules.Rules.{Rules}

-- it fits the rules
abbrev pub Fits : {K : Type 0} → Rules K → List ℕ → List ℕ → List ℕ → Type 0
Fits r rec previous row =
    (length rec ≡ 1 + r.atoms + 2 * length r.table.now) × (length previous ≡ length r.table.now) × (length row ≡ length r.table.now)
