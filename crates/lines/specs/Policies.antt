-- What a policy holds, and when a table is none. Assumes nothing.
use Rattle.std.specs.Prelude.{◌≡◌, ℕ, ◌<◌, ◌≤◌, List, Ok, Err, Result}
use Rattle.refusals.specs.declared.refusal.Refusal.{Refusal}
use Rattle.refusals.specs.declared.refusal.Layer.TheVariants as layer
use Rattle.lines.specs.declared.fault.LineFault.{LineFault}
use Rattle.lines.specs.declared.fault.LineFault.TheVariants.{ManyLines}
use Rattle.lines.specs.declared.line.Line.{Line}
use Rattle.lines.specs.declared.policy.Policy.{Policy}
use Rattle.lines.specs.declared.table.Table.{Table}
use Rattle.lines.specs.Written.{kept_lines}

abbrev pub lines_of : Policy → List Line
lines_of p = kept_lines p.table

-- a table of up to 128 lines makes a policy, and no other does
abbrev pub Makes : ℕ → Table → ℕ → Result Policy LineFault → Type 0
Makes atoms t n (Ok p) = (t.count ≤ 128) × (p.atoms ≡ atoms) × (p.table ≡ t)
Makes atoms t n (Err e) = (128 < t.count) × (e ≡ ManyLines n)

-- number, layer and place of a fault
abbrev pub refusal_of : LineFault → Refusal
refusal_of (ManyLines n) = record { number = 9; layer = layer.Lines; place = n }
