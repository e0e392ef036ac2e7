-- Room for one record and two rows, cut to a policy. Assumes nothing.
use Rattle.std.specs.Prelude.{◌≡◌, ℕ, ◌+◌, ◌*◌, vec_len}
use Rattle.book.specs.declared.book.Room.{Room}

-- it fits so many atoms and lines
abbrev pub Fits : Room → ℕ → ℕ → Type 0
Fits r atoms lines = (vec_len r.rec ≡ 1 + atoms + 2 * lines) × (vec_len r.previous ≡ lines) × (vec_len r.row ≡ lines)
