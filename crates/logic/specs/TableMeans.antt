-- The table of a form means what the form means. A law of the definitions.
use Rattle.std.specs.Prelude.{◌≡◌, ℕ, true}
use Rattle.scales.specs.Algebra.{Algebra, Laws}
use Rattle.lines.specs.Forms.{Form}
use Rattle.lines.specs.Stands.{rule}
use Rattle.lines.specs.Tables.{table}
use Rattle.logic.specs.History.{History}
use Rattle.logic.specs.Truth.{truth}
use Rattle.logic.specs.Clear.{of_codes}

-- The rule of a form's table has the form's truth, by each operation's own reading: for `&`, `->`, O and H too, which
-- the table spells by others.
abbrev pub TableMeans : Type 0
TableMeans = (S : Algebra) → Laws S → (f : Form) (h : History) → of_codes S h ≡ true → (s : ℕ) → truth S (rule (table f)) h s ≡ truth S f h s
