-- One bracket or prefix more: what comes of it at a depth. Assumes nothing.
use Rattle.std.specs.Prelude.{◌≡◌, ℕ, suc, ◌<◌, ◌≤◌, Ok, Err, Result}
use Rattle.grammar.specs.declared.fault.GrammarFault.{GrammarFault}
use Rattle.grammar.specs.declared.fault.GrammarFault.TheVariants.{TooDeep}
use Rattle.rules.specs.declared.depth.Depth.{Depth}

-- 32 may be open; the 33rd, whose sign is at f, is refused there
abbrev pub Deeper : Depth → ℕ → Result Depth GrammarFault → Type 0
Deeper d f (Ok e) = (d.count < 32) × (e.count ≡ suc d.count)
Deeper d f (Err y) = (32 ≤ d.count) × (y ≡ TooDeep f)
