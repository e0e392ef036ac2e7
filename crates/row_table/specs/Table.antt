-- What a row table means. Assumes nothing.
use Rattle.std.specs.Prelude.{vec_items}
use Rattle.stores.specs.Meaning.{Meaning}
use Rattle.row_table.specs.declared.table.RowTable.{RowTable}
use Rattle.row_table.specs.Image.{meaning_of}

abbrev pub means : RowTable → Meaning
means t = meaning_of t.bounds (vec_items t.memory)
