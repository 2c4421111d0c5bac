-- Which numbers stand in a batch, and whether a database has them.
use Rattle.std.specs.Prelude.{◌&&◌, ℕ, Bool, List, [], ◌∷◌, Option, Some, None, nat_le}
use Rattle.std.specs.List.{list_all}
use Rattle.cat_rows.specs.declared.batch.Batch.{Batch}
use Rattle.cat_rows.specs.declared.batch.CatRow.{CatRow}
use Rattle.cat_rows.specs.declared.batch.CatRow.TheVariants as row
use Rattle.cat_rows.specs.declared.batch.Key.{Key}
use Rattle.cat_rows.specs.declared.batch.Key.TheVariants as key

-- a database has integers of 64 bits with a sign
abbrev pub is_storable : ℕ → Bool
is_storable n = nat_le n 9223372036854775807

-- where there is no number, 0 stands for it, which every database has
abbrev pub number_or_zero : Option ℕ → ℕ
number_or_zero None = 0
number_or_zero (Some n) = n

abbrev pub numbers_of_key : Key → List ℕ
numbers_of_key (key.Metadata text) = []
numbers_of_key (key.Snapshot a) = a ∷ []
numbers_of_key (key.SnapshotChanges a) = a ∷ []
numbers_of_key (key.Schema a) = a ∷ []
numbers_of_key (key.Table a) = a ∷ []
numbers_of_key (key.Column a b c) = a ∷ b ∷ c ∷ []
numbers_of_key (key.DataFile a) = a ∷ []
numbers_of_key (key.DeleteFile a) = a ∷ []
numbers_of_key (key.FileColumnStats a b) = a ∷ b ∷ []
numbers_of_key (key.TableStats a) = a ∷ []
numbers_of_key (key.Inlined a b c) = a ∷ b ∷ c ∷ []
numbers_of_key (key.ScheduledFile path) = []

-- without a snapshot's time, which has a sign
abbrev pub numbers_of : CatRow → List ℕ
numbers_of (row.Metadata r) = []
numbers_of (row.Snapshot r) = r.snapshot_id ∷ r.next_catalog_id ∷ r.next_file_id ∷ []
numbers_of (row.SnapshotChanges r) = r.snapshot_id ∷ []
numbers_of (row.Schema r) = r.schema_id ∷ r.begin_snapshot ∷ number_or_zero r.end_snapshot ∷ []
numbers_of (row.Table r) = r.table_id ∷ r.begin_snapshot ∷ number_or_zero r.end_snapshot ∷ r.schema_id ∷ []
numbers_of (row.Column r) = r.table_id ∷ r.column_id ∷ r.begin_snapshot ∷ number_or_zero r.end_snapshot ∷ r.column_order ∷ []
numbers_of (row.DataFile r) = r.data_file_id ∷ r.begin_snapshot ∷ number_or_zero r.end_snapshot ∷ r.table_id
    ∷ r.record_count ∷ r.file_size_bytes ∷ number_or_zero r.row_id_start ∷ r.weight ∷ []
numbers_of (row.DeleteFile r) = r.delete_file_id ∷ r.begin_snapshot ∷ number_or_zero r.end_snapshot ∷ r.table_id
    ∷ r.data_file_id ∷ r.delete_count ∷ r.file_size_bytes ∷ []
numbers_of (row.FileColumnStats r) = r.data_file_id ∷ r.column_id ∷ r.null_count ∷ []
numbers_of (row.TableStats r) = r.table_id ∷ r.record_count ∷ r.next_row_id ∷ r.next_field_id ∷ r.file_size_bytes ∷ []
numbers_of (row.Inlined r) = r.table_id ∷ r.row_id ∷ r.begin_snapshot ∷ number_or_zero r.end_snapshot ∷ []
numbers_of (row.ScheduledFile r) = []

abbrev pub key_fits : Key → Bool
key_fits k = list_all is_storable (numbers_of_key k)

abbrev pub end_fits : Key × ℕ → Bool
end_fits e = key_fits e.0 && is_storable e.1

abbrev pub row_fits : CatRow → Bool
row_fits r = list_all is_storable (numbers_of r)

-- whether a database has all numbers of a batch
abbrev pub are_storable : Batch → Bool
are_storable batch = list_all key_fits batch.removes && (list_all end_fits batch.ends && list_all row_fits batch.adds)
