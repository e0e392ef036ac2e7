-- What the records kept in entries mean, and that it is what holds of every store. Assumes nothing.
use Rattle.std.specs.Prelude.{ℕ, List, vec_items}
use Rattle.std.proofs.Common.{sym, subst}
use Rattle.stores.specs.Bounds.{Sizes, Window}
use Rattle.stores.specs.Meaning.{Meaning, Sound}
use Rattle.stores.proofs.Bytes.{bytes_from}
use Rattle.stores.proofs.Sounds.{sound_from}
use Rattle.stretch_table.specs.Entries.{meaning_of}
use Rattle.stretch_table.specs.Records.{bounds_are, records_fit}
use Rattle.stretch_table.specs.declared.table.StretchRecords.{StretchRecords}

abbrev pub bytes_of : StretchRecords → List ℕ
bytes_of s = vec_items s.entries.bytes

abbrev pub means : StretchRecords → Meaning
means s = meaning_of s.entries.bounds s.entries.used (bytes_of s)

pub means_sound : (s : StretchRecords) → Sound (means s)
means_sound s =
    let es = s.entries in
    let same = sym (bounds_are es.bounds es.used (bytes_of s) s.kept) in
    sound_from (means s) (subst Sizes same es.sizes) (subst Window same s.kept.window) (records_fit es.bounds.width es.used (bytes_of s) (bytes_from (bytes_of s) es.values) es.fits)
