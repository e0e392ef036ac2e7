-- What is known of a stretch table, and of its memory as it stands and as a step leaves it. Assumes nothing.
use Rattle.std.specs.Prelude.{◌≡◌, ℕ, List, length, vec_items}
use Rattle.std.proofs.Common.{sym, ap, subst, ◌∙◌}
use Rattle.std.specs.Vec.{with_items}
use Rattle.std.proofs.lemmas.List.{with_items_is}
use Rattle.stores.specs.Meaning.{Meaning, Sound}
use Rattle.stores.specs.declared.bounds.Bounds.{Bounds}
use Rattle.stretch_table.specs.Entries.{meaning_of, Kept}
use Rattle.stretch_table.specs.Means.{means_sound}
use Rattle.stretch_store.specs.declared.table.StretchTable.{StretchTable}
use Rattle.stretch_store.specs.Table.{means, bytes_of}

pub table_kept : (t : StretchTable) → Kept t.records.entries.bounds t.records.entries.used (bytes_of t)
table_kept t = t.records.kept

pub table_sound : (t : StretchTable) → Sound (means t)
table_sound t = means_sound t.records

-- a step leaves the bytes `ws`, in `used` entries; `f` is what the call makes of the table's numbers
module _ (t : StretchTable) (ws : List ℕ) (long : length ws ≡ length (bytes_of t)) (used : ℕ) (f : Bounds → Bounds) (b : Bounds) (is : b ≡ t.records.entries.bounds) where
  abbrev items : List ℕ
  items = vec_items (with_items t.records.entries.bytes ws)

  items_are : items ≡ ws
  items_are = with_items_is t.records.entries.bytes ws (long ∙ sym t.records.entries.bytes.ok.0)

  pub kept_after : Kept (f b) used ws → Kept (f t.records.entries.bounds) used items
  kept_after k = subst (λ x. Kept (f x) used items) is (subst (Kept (f b) used) (sym items_are) k)

  pub means_after : (g : Meaning → Meaning) (old : List ℕ) → old ≡ bytes_of t → meaning_of (f b) used ws ≡ g (meaning_of b t.records.entries.used old) → meaning_of (f t.records.entries.bounds) used items ≡ g (means t)
  means_after g old from step = (λ i. meaning_of (f (sym is i)) used (items_are i)) ∙ step ∙ (λ i. g (meaning_of (is i) t.records.entries.used (from i)))

  pub length_after : length items ≡ length (bytes_of t)
  length_after = ap length items_are ∙ long
