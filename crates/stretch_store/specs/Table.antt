-- What a stretch table means, and its bytes. Assumes nothing.
use Rattle.std.specs.Prelude.{ℕ, List, vec_items}
use Rattle.stores.specs.Meaning.{Meaning}
use Rattle.stretch_table.specs.Entries.{meaning_of}
use Rattle.stretch_store.specs.declared.table.StretchTable.{StretchTable}

abbrev pub bytes_of : StretchTable → List ℕ
bytes_of t = vec_items t.records.entries.bytes

abbrev pub means : StretchTable → Meaning
means t = meaning_of t.records.entries.bounds t.records.entries.used (bytes_of t)
