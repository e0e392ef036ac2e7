-- The bytes of a stretch table, by its meaning. Assumes nothing.
use Rattle.std.specs.Prelude.{ℕ, ◌-◌, ◌/◌, ◌%◌, List, [], ◌∷◌, ◌++◌, length, replicate}
use Rattle.std.specs.List.{flat_map}
use Rattle.stores.specs.Meaning.{Meaning}
use Rattle.stretch_table.specs.Stretches.{Stretch, stretches}

-- a number in four bytes, the highest first
abbrev pub four : ℕ → List ℕ
four n = (n / 16777216 % 256) ∷ (n / 65536 % 256) ∷ (n / 256 % 256) ∷ (n % 256) ∷ []

-- a stretch in memory: its first run, how many runs it has, their record
abbrev pub entry : Stretch → List ℕ
entry s = four s.first ++ (four s.count ++ s.kept)

-- the entries one after another, and then zeros
abbrev pub filled : List Stretch → ℕ → List ℕ
filled ss size = flat_map entry ss ++ replicate (size - length (flat_map entry ss)) 0

-- every byte of a stretch table in `size` bytes of memory
abbrev pub image : Meaning → ℕ → List ℕ
image m size = filled (stretches m.low m.records) size
