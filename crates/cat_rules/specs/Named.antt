-- How a bad row is told: by its table, its key and the number of its rule.
use Rattle.std.specs.Prelude.{◌≡◌, ℕ, List, [], ◌∷◌, codes, decimal, map}
use Rattle.std.specs.List.{join_with_byte}
use Rattle.cat_rows.specs.declared.batch.Key.{Key}
use Rattle.cat_rows.specs.declared.batch.Key.TheVariants as key
use Rattle.cat_rules.specs.declared.bad_row.BadRow.{BadRow}

abbrev pub table_name : Key → List ℕ
table_name (key.Metadata a) = codes "ducklake_metadata"
table_name (key.Snapshot a) = codes "ducklake_snapshot"
table_name (key.SnapshotChanges a) = codes "ducklake_snapshot_changes"
table_name (key.Schema a) = codes "ducklake_schema"
table_name (key.Table a) = codes "ducklake_table"
table_name (key.Column a b c) = codes "ducklake_column"
table_name (key.DataFile a) = codes "ducklake_data_file"
table_name (key.DeleteFile a) = codes "ducklake_delete_file"
table_name (key.FileColumnStats a b) = codes "ducklake_file_column_stats"
table_name (key.TableStats a) = codes "ducklake_table_stats"
table_name (key.Inlined a b c) = codes "ducklake_inlined_row"
table_name (key.ScheduledFile a) = codes "ducklake_scheduled_file"

-- joined by commas
abbrev pub numbers_text : List ℕ → List ℕ
numbers_text numbers = join_with_byte 44 (map decimal numbers)

-- the key's columns in the table's order, or its text
abbrev pub key_text : Key → List ℕ
key_text (key.Metadata a) = a
key_text (key.Snapshot a) = numbers_text (a ∷ [])
key_text (key.SnapshotChanges a) = numbers_text (a ∷ [])
key_text (key.Schema a) = numbers_text (a ∷ [])
key_text (key.Table a) = numbers_text (a ∷ [])
key_text (key.Column a b c) = numbers_text (a ∷ b ∷ c ∷ [])
key_text (key.DataFile a) = numbers_text (a ∷ [])
key_text (key.DeleteFile a) = numbers_text (a ∷ [])
key_text (key.FileColumnStats a b) = numbers_text (a ∷ b ∷ [])
key_text (key.TableStats a) = numbers_text (a ∷ [])
key_text (key.Inlined a b c) = numbers_text (a ∷ b ∷ c ∷ [])
key_text (key.ScheduledFile a) = a

abbrev pub Tells : BadRow → ℕ → Key → Type 0
Tells b rule k = (b.table ≡ table_name k) × (b.key ≡ key_text k) × (b.rule ≡ rule)
