-- How the keys of a batch's removals are those of a table's rows.
use Rattle.std.specs.Prelude.{◌≡◌, ℕ, List, [], ◌∷◌, Option, false, refl}
use Rattle.std.proofs.Common.{ap, ◌∙◌}
use Rattle.std.proofs.lemmas.Cmp.{nat_list_cmp_total}
use Rattle.std.specs.Option.{option_map_or}
use Rattle.std.specs.Ordering.{is_eq, ordering_reverse}
use Rattle.std.specs.declared.cmp.Ordering.{Ordering}
use Rattle.std.specs.declared.cmp.Ordering.TheVariants.{Less, Equal, Greater}
use Rattle.cat_tables.specs.Table.{has_key, key_cmp}
use Rattle.cat_rows.specs.ByTable.{metadata_parts, snapshot_parts, snapshot_changes_parts, schema_parts, table_parts, column_parts, data_file_parts, delete_file_parts, file_column_stats_parts, table_stats_parts, inlined_row_parts, scheduled_file_parts}
use Rattle.cat_rows.specs.Keys.{metadata_key, snapshot_key, snapshot_changes_key, schema_key, table_key, column_key, data_file_key, delete_file_key, file_column_stats_key, table_stats_key, inlined_row_key, scheduled_file_key}
use Rattle.cat_rows.specs.Places.{place}
use Rattle.cat_rows.specs.declared.history.MetadataRow.{MetadataRow}
use Rattle.cat_rows.specs.declared.history.SnapshotRow.{SnapshotRow}
use Rattle.cat_rows.specs.declared.history.SnapshotChangesRow.{SnapshotChangesRow}
use Rattle.cat_rows.specs.declared.schemas.SchemaRow.{SchemaRow}
use Rattle.cat_rows.specs.declared.schemas.TableRow.{TableRow}
use Rattle.cat_rows.specs.declared.schemas.ColumnRow.{ColumnRow}
use Rattle.cat_rows.specs.declared.files.DataFileRow.{DataFileRow}
use Rattle.cat_rows.specs.declared.files.DeleteFileRow.{DeleteFileRow}
use Rattle.cat_rows.specs.declared.files.FileColumnStatsRow.{FileColumnStatsRow}
use Rattle.cat_rows.specs.declared.files.TableStatsRow.{TableStatsRow}
use Rattle.cat_rows.specs.declared.inlined.InlinedRow.{InlinedRow}
use Rattle.cat_rows.specs.declared.files.ScheduledFileRow.{ScheduledFileRow}
use Rattle.cat_rows.specs.declared.batch.Key.{Key}
use Rattle.cat_rows.specs.declared.batch.Key.TheVariants as key

-- a row stands at the place of a key exactly where the key is one of its table, and its own
abbrev pub PlacesAgree : {R : Type 0} → (R → List ℕ) → (R → List ℕ) → (Key → Option (List ℕ)) → Type 0
PlacesAgree {R} key_in place_of parts =
    (r : R) (k : Key) → is_eq (key_cmp (place k) (place_of r)) ≡ option_map_or (λ p. has_key key_in p r) (parts k) false

equal_turned : (o : Ordering) → is_eq (ordering_reverse o) ≡ is_eq o
equal_turned Less = refl
equal_turned Equal = refl
equal_turned Greater = refl

turned : (a b : List ℕ) → is_eq (key_cmp a b) ≡ is_eq (key_cmp b a)
turned a b = ap is_eq (nat_list_cmp_total.antisymm a b) ∙ equal_turned (key_cmp b a)

abbrev pub metadata_place : MetadataRow → List ℕ
metadata_place r = 0 ∷ metadata_key r

pub metadata_agrees : PlacesAgree metadata_key metadata_place metadata_parts
metadata_agrees r (key.Metadata a) = turned a (metadata_key r)
metadata_agrees r k = refl

abbrev pub snapshot_place : SnapshotRow → List ℕ
snapshot_place r = 1 ∷ snapshot_key r

pub snapshot_agrees : PlacesAgree snapshot_key snapshot_place snapshot_parts
snapshot_agrees r (key.Snapshot a) = turned (a ∷ []) (snapshot_key r)
snapshot_agrees r k = refl

abbrev pub snapshot_changes_place : SnapshotChangesRow → List ℕ
snapshot_changes_place r = 2 ∷ snapshot_changes_key r

pub snapshot_changes_agrees : PlacesAgree snapshot_changes_key snapshot_changes_place snapshot_changes_parts
snapshot_changes_agrees r (key.SnapshotChanges a) = turned (a ∷ []) (snapshot_changes_key r)
snapshot_changes_agrees r k = refl

abbrev pub schema_place : SchemaRow → List ℕ
schema_place r = 3 ∷ schema_key r

pub schema_agrees : PlacesAgree schema_key schema_place schema_parts
schema_agrees r (key.Schema a) = turned (a ∷ []) (schema_key r)
schema_agrees r k = refl

abbrev pub table_place : TableRow → List ℕ
table_place r = 4 ∷ table_key r

pub table_agrees : PlacesAgree table_key table_place table_parts
table_agrees r (key.Table a) = turned (a ∷ []) (table_key r)
table_agrees r k = refl

abbrev pub column_place : ColumnRow → List ℕ
column_place r = 5 ∷ column_key r

pub column_agrees : PlacesAgree column_key column_place column_parts
column_agrees r (key.Column a b c) = turned (a ∷ b ∷ c ∷ []) (column_key r)
column_agrees r k = refl

abbrev pub data_file_place : DataFileRow → List ℕ
data_file_place r = 6 ∷ data_file_key r

pub data_file_agrees : PlacesAgree data_file_key data_file_place data_file_parts
data_file_agrees r (key.DataFile a) = turned (a ∷ []) (data_file_key r)
data_file_agrees r k = refl

abbrev pub delete_file_place : DeleteFileRow → List ℕ
delete_file_place r = 7 ∷ delete_file_key r

pub delete_file_agrees : PlacesAgree delete_file_key delete_file_place delete_file_parts
delete_file_agrees r (key.DeleteFile a) = turned (a ∷ []) (delete_file_key r)
delete_file_agrees r k = refl

abbrev pub file_column_stats_place : FileColumnStatsRow → List ℕ
file_column_stats_place r = 8 ∷ file_column_stats_key r

pub file_column_stats_agrees : PlacesAgree file_column_stats_key file_column_stats_place file_column_stats_parts
file_column_stats_agrees r (key.FileColumnStats a b) = turned (a ∷ b ∷ []) (file_column_stats_key r)
file_column_stats_agrees r k = refl

abbrev pub table_stats_place : TableStatsRow → List ℕ
table_stats_place r = 9 ∷ table_stats_key r

pub table_stats_agrees : PlacesAgree table_stats_key table_stats_place table_stats_parts
table_stats_agrees r (key.TableStats a) = turned (a ∷ []) (table_stats_key r)
table_stats_agrees r k = refl

abbrev pub inlined_row_place : InlinedRow → List ℕ
inlined_row_place r = 10 ∷ inlined_row_key r

pub inlined_row_agrees : PlacesAgree inlined_row_key inlined_row_place inlined_row_parts
inlined_row_agrees r (key.Inlined a b c) = turned (a ∷ b ∷ c ∷ []) (inlined_row_key r)
inlined_row_agrees r k = refl

abbrev pub scheduled_file_place : ScheduledFileRow → List ℕ
scheduled_file_place r = 11 ∷ scheduled_file_key r

pub scheduled_file_agrees : PlacesAgree scheduled_file_key scheduled_file_place scheduled_file_parts
scheduled_file_agrees r (key.ScheduledFile a) = turned a (scheduled_file_key r)
scheduled_file_agrees r k = refl
