-- What the rows of the catalogue belong to: a column, a data file and an inlined row to its table, a delete file and
-- statistics to their data file.
use Rattle.std.specs.Prelude.{ℕ, Bool, Option, Some, None, if◌then◌else◌}
use Rattle.cat_tables.specs.Validity.{is_visible}
use Rattle.cat_rows.specs.Validities.{column_validity, data_file_validity, delete_file_validity, inlined_row_validity}
use Rattle.cat_rows.specs.declared.schemas.ColumnRow.{ColumnRow}
use Rattle.cat_rows.specs.declared.files.DataFileRow.{DataFileRow}
use Rattle.cat_rows.specs.declared.files.DeleteFileRow.{DeleteFileRow}
use Rattle.cat_rows.specs.declared.files.FileColumnStatsRow.{FileColumnStatsRow}
use Rattle.cat_rows.specs.declared.inlined.InlinedRow.{InlinedRow}

abbrev pub owner_if : Bool → ℕ → Option ℕ
owner_if is_seen owner = if is_seen then Some owner else None

abbrev pub column_owner : ℕ → ColumnRow → Option ℕ
column_owner s r = owner_if (is_visible column_validity s r) r.table_id

abbrev pub data_file_owner : ℕ → DataFileRow → Option ℕ
data_file_owner s r = owner_if (is_visible data_file_validity s r) r.table_id

abbrev pub inlined_owner : ℕ → InlinedRow → Option ℕ
inlined_owner s r = owner_if (is_visible inlined_row_validity s r) r.table_id

abbrev pub delete_file_owner : ℕ → DeleteFileRow → Option ℕ
delete_file_owner s r = owner_if (is_visible delete_file_validity s r) r.data_file_id

-- statistics have no interval: they go with their data file
abbrev pub stats_owner : ℕ → FileColumnStatsRow → Option ℕ
stats_owner s r = Some r.data_file_id
