-- What a rule says: a form (a formula). Assumes nothing.
use Rattle.std.specs.Prelude.{ℕ, Bool, true, ◌&&◌, nat_lt}
use Rattle.lines.specs.declared.line.Prefix.{Prefix}
use Rattle.lines.specs.declared.line.Infix.{Infix}

-- An atom goes by its number, from 0 in the order of declaration.
pub data Form : Type 0 where
  atom : ℕ → Form
  no : Form
  yes : Form
  prefixed : Prefix → Form → Form
  joined : Infix → Form → Form → Form

-- every atom of the form is one of the first n
abbrev pub declared : ℕ → Form → Bool
declared n (atom i) = nat_lt i n
declared n no = true
declared n yes = true
declared n (prefixed o f) = declared n f
declared n (joined o f g) = declared n f && declared n g
