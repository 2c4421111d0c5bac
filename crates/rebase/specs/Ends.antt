-- The keys of rows that end, with the snapshot at which they end.
use Rattle.std.specs.Prelude.{ℕ, List, map}
use Rattle.cat_rows.specs.declared.batch.Key.{Key}
use Rattle.cat_rows.specs.declared.batch.Key.TheVariants as key
use Rattle.cat_rows.specs.declared.files.DataFileRow.{DataFileRow}
use Rattle.cat_rows.specs.declared.files.DeleteFileRow.{DeleteFileRow}
use Rattle.cat_rows.specs.declared.inlined.InlinedRow.{InlinedRow}
use Rattle.cat_rows.specs.declared.schemas.ColumnRow.{ColumnRow}
use Rattle.cat_rows.specs.declared.schemas.SchemaRow.{SchemaRow}
use Rattle.cat_rows.specs.declared.schemas.TableRow.{TableRow}

abbrev pub schema_named : SchemaRow → Key
schema_named r = key.Schema r.schema_id

abbrev pub table_named : TableRow → Key
table_named r = key.Table r.table_id

abbrev pub column_named : ColumnRow → Key
column_named r = key.Column r.table_id r.column_id r.begin_snapshot

abbrev pub data_file_named : DataFileRow → Key
data_file_named r = key.DataFile r.data_file_id

abbrev pub delete_file_named : DeleteFileRow → Key
delete_file_named r = key.DeleteFile r.delete_file_id

abbrev pub inlined_named : InlinedRow → Key
inlined_named r = key.Inlined r.table_id r.row_id r.begin_snapshot

abbrev pub ended : {R : Type 0} → (R → Key) → ℕ → List R → List (Key × ℕ)
ended named at rows = map {B = Key × ℕ} (λ r. (named r, at)) rows
