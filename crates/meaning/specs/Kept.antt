-- What a store holds after a history: which runs, and of each its record. Read this first. Assumes nothing.
use Rattle.std.specs.Prelude.{◌≡◌, ℕ, zero, suc, ◌+◌, ◌-◌, max, Bool, cond, List, map, Some, None, Option}
use Rattle.std.specs.List.{range_with_len}
use Rattle.scales.specs.Algebra.{Algebra}
use Rattle.lines.specs.declared.line.Line.{Line}
use Rattle.logic.specs.History.{History, high, opened}
use Rattle.stores.specs.Meaning.{Meaning}
use Rattle.meaning.specs.Records.{width, record_of}

-- the lowest of the k numbers from n on that passes the test, if one does
abbrev pub lowest : (ℕ → Bool) → ℕ → ℕ → Option ℕ
lowest t n zero = None
lowest t n (suc k) = cond (t n) (Some n) (lowest t (n + 1) k)

-- the lowest open run, if there is one
abbrev pub lowest_open : History → Option ℕ
lowest_open h = lowest (opened h) 1 (high h)

-- The lowest run that is kept, by the newest run and the lowest open one: one less than that, since the next
-- global step reads it; with no run open the newest. It is at least 1.
abbrev pub low_by : ℕ → Option ℕ → ℕ
low_by newest (Some run) = max 1 (run - 1)
low_by newest None = max 1 newest

abbrev pub low : History → ℕ
low h = low_by (high h) (lowest_open h)

-- a store that keeps f of each of the runs that it keeps after h
abbrev pub keeping : List Line → ℕ → ℕ → History → (ℕ → List ℕ) → Meaning
keeping ls atoms limit h f = record {
  width = width atoms ls;
  limit = limit;
  low = low h;
  records = map f (range_with_len (low h) (high h + 1 - low h));
}

-- The meaning that a store of this limit has after h: just the records of the runs low to high.
abbrev pub meaning : Algebra → List Line → ℕ → ℕ → History → Meaning
meaning S ls atoms limit h = keeping ls atoms limit h (record_of S ls h)

-- A store represents h (abstraction relation) where its meaning is that of h, under the limit that it has.
abbrev pub Represents : Algebra → List Line → ℕ → Meaning → History → Type 0
Represents S ls atoms m h = m ≡ meaning S ls atoms m.limit h
