-- Rule 1, on the catalogue's layout.
use Rattle.std.specs.Prelude.{◌≡◌, ◌⊎◌, ◌&&◌, Bool, false, not, codes}
use Rattle.std.specs.Str.{bytes_eq}
use Rattle.cat_rows.specs.Batches.{holds}
use Rattle.cat_rows.specs.Tables.{Tables}
use Rattle.cat_rows.specs.declared.batch.Key.{Key}
use Rattle.cat_rows.specs.declared.batch.Key.TheVariants as key
use Rattle.cat_rows.specs.declared.history.MetadataRow.{MetadataRow}
use Rattle.cat_rules.specs.Places.{of_metadata}
use Rattle.cat_rules.specs.Rows.{NamesIf}

abbrev pub is_layout : MetadataRow → Bool
is_layout r = bytes_eq r.key (codes "layout") && bytes_eq r.value (codes "1")

-- another entry than `layout`, or another layout than 1
abbrev pub is_other_entry : MetadataRow → Bool
is_other_entry r = not (is_layout r)

abbrev pub layout_key : Key
layout_key = key.Metadata (codes "layout")

-- there is no row of this key
abbrev pub Misses : Tables → Key → Key → Type 0
Misses t j k = (holds t j ≡ false) × (j ≡ k)

-- `layout` is 1, and there is no other entry.
abbrev pub IsLayoutBad : Tables → Key → Type 0
IsLayoutBad t k = NamesIf of_metadata is_other_entry t.metadata k ⊎ Misses t layout_key k
