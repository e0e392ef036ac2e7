-- What entries hold, and how a step changes it. Assumes nothing.
use Rattle.std.specs.Prelude.{◌≡◌, ℕ, ◌+◌, ◌*◌, ◌≤◌, List, ◌∷◌, ◌++◌, length, vec_items}
use Rattle.stretch_table.specs.Stretches.{Stretch}
use Rattle.stretch_table.specs.Entries.{stretch_at, stretches_in}
use Rattle.stretch_table.specs.declared.entries.Entries.{Entries}

-- the stretches, from the front on
abbrev pub held : Entries → List Stretch
held es = stretches_in es.bounds.width es.used (vec_items es.bytes)

-- the one at place i
abbrev pub entry_at : Entries → ℕ → Stretch
entry_at es i = stretch_at es.bounds.width (vec_items es.bytes) i

-- one entry more finds place
abbrev pub HasRoom : Entries → Type 0
HasRoom es = es.used * (es.bounds.width + 8) + (es.bounds.width + 8) ≤ length (vec_items es.bytes)

-- the numbers stay, and so does the size of the memory
abbrev pub SameRoom : Entries → Entries → Type 0
SameRoom old new = (new.bounds ≡ old.bounds) × (length (vec_items new.bytes) ≡ length (vec_items old.bytes))

-- for the stretch at place i stand those that f makes of it
abbrev pub Turns : Entries → Entries → ℕ → (Stretch → List Stretch) → Type 0
Turns old new i f = (A B : List Stretch) (e : Stretch) → held old ≡ A ++ (e ∷ B) → length A ≡ i → held new ≡ A ++ (f e ++ B)
