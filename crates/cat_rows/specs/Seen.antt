-- What a snapshot sees of the tables whose rows have a validity interval, and which batches leave that as it is.
use Rattle.std.specs.Prelude.{◌≡◌, ◌<◌, ℕ, List, [], ◌∷◌}
use Rattle.std.specs.List.{AllByRecursion}
use Rattle.cat_tables.specs.Validity.{visible_at, IsUnseen}
use Rattle.cat_rows.specs.Keys.{schema_key, table_key, column_key, data_file_key, delete_file_key, inlined_row_key}
use Rattle.cat_rows.specs.Validities.{schema_validity, table_validity, column_validity, data_file_validity, delete_file_validity, inlined_row_validity}
use Rattle.cat_rows.specs.Tables.{Tables}
use Rattle.cat_rows.specs.declared.schemas.SchemaRow.{SchemaRow}
use Rattle.cat_rows.specs.declared.schemas.TableRow.{TableRow}
use Rattle.cat_rows.specs.declared.schemas.ColumnRow.{ColumnRow}
use Rattle.cat_rows.specs.declared.files.DataFileRow.{DataFileRow}
use Rattle.cat_rows.specs.declared.files.DeleteFileRow.{DeleteFileRow}
use Rattle.cat_rows.specs.declared.inlined.InlinedRow.{InlinedRow}
use Rattle.cat_rows.specs.declared.batch.Batch.{Batch}
use Rattle.cat_rows.specs.declared.batch.CatRow.{CatRow}
use Rattle.cat_rows.specs.declared.batch.CatRow.TheVariants as row
use Rattle.cat_rows.specs.declared.batch.Key.{Key}
use Rattle.cat_rows.specs.declared.batch.Key.TheVariants as key

-- the rows that a snapshot sees, without their ends
pub record Seen : Type 0 where
  pub schema : List SchemaRow
  pub table : List TableRow
  pub column : List ColumnRow
  pub data_file : List DataFileRow
  pub delete_file : List DeleteFileRow
  pub inlined_row : List InlinedRow

abbrev pub seen_at : ℕ → Tables → Seen
seen_at s t = record {
  schema = visible_at schema_validity s t.schema;
  table = visible_at table_validity s t.table;
  column = visible_at column_validity s t.column;
  data_file = visible_at data_file_validity s t.data_file;
  delete_file = visible_at delete_file_validity s t.delete_file;
  inlined_row = visible_at inlined_row_validity s t.inlined_row;
}

-- the row begins past s, if it has a begin
abbrev pub BeginsPast : ℕ → CatRow → Type 0
BeginsPast s (row.Schema r) = s < r.begin_snapshot
BeginsPast s (row.Table r) = s < r.begin_snapshot
BeginsPast s (row.Column r) = s < r.begin_snapshot
BeginsPast s (row.DataFile r) = s < r.begin_snapshot
BeginsPast s (row.DeleteFile r) = s < r.begin_snapshot
BeginsPast s (row.Inlined r) = s < r.begin_snapshot
BeginsPast s r = Unit {0}

-- s doesn't see the row of this key
abbrev pub HidesKey : ℕ → Tables → Key → Type 0
HidesKey s t (key.Schema a) = IsUnseen schema_validity schema_key s (a ∷ []) t.schema
HidesKey s t (key.Table a) = IsUnseen table_validity table_key s (a ∷ []) t.table
HidesKey s t (key.Column a b c) = IsUnseen column_validity column_key s (a ∷ b ∷ c ∷ []) t.column
HidesKey s t (key.DataFile a) = IsUnseen data_file_validity data_file_key s (a ∷ []) t.data_file
HidesKey s t (key.DeleteFile a) = IsUnseen delete_file_validity delete_file_key s (a ∷ []) t.delete_file
HidesKey s t (key.Inlined a b c) = IsUnseen inlined_row_validity inlined_row_key s (a ∷ b ∷ c ∷ []) t.inlined_row
HidesKey s t k = Unit {0}

-- A batch is past s: it begins and ends rows past s, and takes away none that s sees.
pub record IsPast (s : ℕ) (t : Tables) (b : Batch) : Type 0 where
  pub begins : AllByRecursion (BeginsPast s) b.adds
  pub ends : AllByRecursion (λ e. s < e.1) b.ends
  pub removes : AllByRecursion (HidesKey s t) b.removes

-- what the snapshots see that a batch is past
abbrev pub KeepsEarlier : Batch → Tables → Tables → Type 0
KeepsEarlier b old new = (s : ℕ) → IsPast s old b → seen_at s new ≡ seen_at s old
