-- What has been written into a table of which only the first 128 lines are kept. Assumes nothing.
use Rattle.std.specs.Prelude.{◌≡◌, ℕ, ◌+◌, List, ◌++◌, take}
use Rattle.lines.specs.declared.line.Line.{Line}
use Rattle.lines.specs.declared.table.Table.{Table}
use Rattle.lines.specs.Forms.{Form}
use Rattle.lines.specs.Tables.{before_last, lines}

-- the lines that a table keeps
abbrev pub kept_lines : Table → List Line
kept_lines t = take t.count t.kept

-- ys is xs with the lines ls behind it, up to the 128th
pub record Adds (xs ls ys : List Line) : Type 0 where
  pub is : ys ≡ take 128 (xs ++ ls)

-- A table of n lines that keeps ys is one of k lines that kept xs with the lines of the form f behind it, the
-- last of which is line r.
pub record Written (k : ℕ) (xs ys : List Line) (n : ℕ) (f : Form) (r : ℕ) : Type 0 where
  pub lines_are : Adds xs (lines k f) ys
  pub count : n ≡ k + before_last f + 1
  pub last : r ≡ k + before_last f
