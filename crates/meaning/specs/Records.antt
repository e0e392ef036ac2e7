-- The record that a store keeps of a run: its bytes, and the parts that they are taken apart into. Assumes nothing.
--
--   record of a run, W = 1 + A + 2·L bytes
--   +------+-----------------+------------------+-----------------------+
--   | open | present state A | truths now, L    | truths of the earlier |
--   | 0/1  | one code an atom| one code a line  | state, L              |
--   +------+-----------------+------------------+-----------------------+
use Rattle.std.specs.Prelude.{ℕ, ◌+◌, ◌*◌, Bool, true, false, List, ◌∷◌, ◌++◌, length, take, drop}
use Rattle.scales.specs.Algebra.{Algebra}
use Rattle.lines.specs.declared.line.Line.{Line}
use Rattle.logic.specs.History.{History, present, opened, before}
use Rattle.logic.specs.Rows.{row, nos}

-- how many bytes a record has, by the policy's atoms and lines
abbrev pub width : ℕ → List Line → ℕ
width atoms ls = 1 + atoms + 2 * length ls

-- the first byte: 1 while the run is open, 0 after its close
abbrev pub flag : Bool → ℕ
flag true = 1
flag false = 0

-- The record of the run s after h. Where the run had no earlier state, the truths of that are all no.
abbrev pub record_of : Algebra → List Line → History → ℕ → List ℕ
record_of S ls h s = flag (opened h s) ∷ (present h s ++ (row S ls h s ++ before (nos S ls) (row S ls) h s))

-- What lies behind the first byte x: the state, the truths, and those of the earlier state, for so many atoms and lines.
abbrev pub state_in : ℕ → List ℕ → List ℕ
state_in atoms x = take atoms x

abbrev pub truths_in : ℕ → ℕ → List ℕ → List ℕ
truths_in atoms lines x = take lines (drop atoms x)

abbrev pub past_in : ℕ → ℕ → List ℕ → List ℕ
past_in atoms lines x = drop (atoms + lines) x

-- the same of a whole record
abbrev pub state_of : ℕ → List ℕ → List ℕ
state_of atoms r = state_in atoms (drop 1 r)

abbrev pub truths_of : ℕ → ℕ → List ℕ → List ℕ
truths_of atoms lines r = truths_in atoms lines (drop 1 r)

abbrev pub past_of : ℕ → ℕ → List ℕ → List ℕ
past_of atoms lines r = past_in atoms lines (drop 1 r)

-- the record r with these truths
abbrev pub with_truths : ℕ → List ℕ → List ℕ → List ℕ
with_truths atoms truths r = take 1 r ++ (state_of atoms r ++ (truths ++ past_of atoms (length truths) r))

-- the record r with the next state: its truths so far are those of the earlier state, and the truths now stay to be judged
abbrev pub renewed : ℕ → List ℕ → List ℕ → List ℕ
renewed lines codes r = take 1 r ++ (codes ++ (truths_of (length codes) lines r ++ truths_of (length codes) lines r))
