-- The validity intervals of the tables that have them.
use Rattle.std.specs.Prelude.{refl}
use Rattle.std.proofs.Common.{sym, ap}
use Rattle.cat_tables.specs.Validity.{Validity, IsValidity}
use Rattle.cat_rows.specs.Keys.{schema_key, table_key, column_key, data_file_key, delete_file_key, inlined_row_key}
use Rattle.cat_rows.specs.declared.schemas.SchemaRow.{SchemaRow}
use Rattle.cat_rows.specs.declared.schemas.TableRow.{TableRow}
use Rattle.cat_rows.specs.declared.schemas.ColumnRow.{ColumnRow}
use Rattle.cat_rows.specs.declared.files.DataFileRow.{DataFileRow}
use Rattle.cat_rows.specs.declared.files.DeleteFileRow.{DeleteFileRow}
use Rattle.cat_rows.specs.declared.inlined.InlinedRow.{InlinedRow}

abbrev pub schema_validity : Validity SchemaRow
schema_validity = record { begin = λ r. r.begin_snapshot; end = λ r. r.end_snapshot; with_end = λ e r. record r { end_snapshot = e } }

pub schema_laws : IsValidity schema_validity schema_key
schema_laws = record { begin_stays = λ e r. refl; end_is = λ e r. refl; last_end = λ e f r. refl; key_stays = λ e r. refl; opens = λ r e. ap (λ x. record r { end_snapshot = x }) (sym e) }

abbrev pub table_validity : Validity TableRow
table_validity = record { begin = λ r. r.begin_snapshot; end = λ r. r.end_snapshot; with_end = λ e r. record r { end_snapshot = e } }

pub table_laws : IsValidity table_validity table_key
table_laws = record { begin_stays = λ e r. refl; end_is = λ e r. refl; last_end = λ e f r. refl; key_stays = λ e r. refl; opens = λ r e. ap (λ x. record r { end_snapshot = x }) (sym e) }

abbrev pub column_validity : Validity ColumnRow
column_validity = record { begin = λ r. r.begin_snapshot; end = λ r. r.end_snapshot; with_end = λ e r. record r { end_snapshot = e } }

pub column_laws : IsValidity column_validity column_key
column_laws = record { begin_stays = λ e r. refl; end_is = λ e r. refl; last_end = λ e f r. refl; key_stays = λ e r. refl; opens = λ r e. ap (λ x. record r { end_snapshot = x }) (sym e) }

abbrev pub data_file_validity : Validity DataFileRow
data_file_validity = record { begin = λ r. r.begin_snapshot; end = λ r. r.end_snapshot; with_end = λ e r. record r { end_snapshot = e } }

pub data_file_laws : IsValidity data_file_validity data_file_key
data_file_laws = record { begin_stays = λ e r. refl; end_is = λ e r. refl; last_end = λ e f r. refl; key_stays = λ e r. refl; opens = λ r e. ap (λ x. record r { end_snapshot = x }) (sym e) }

abbrev pub delete_file_validity : Validity DeleteFileRow
delete_file_validity = record { begin = λ r. r.begin_snapshot; end = λ r. r.end_snapshot; with_end = λ e r. record r { end_snapshot = e } }

pub delete_file_laws : IsValidity delete_file_validity delete_file_key
delete_file_laws = record { begin_stays = λ e r. refl; end_is = λ e r. refl; last_end = λ e f r. refl; key_stays = λ e r. refl; opens = λ r e. ap (λ x. record r { end_snapshot = x }) (sym e) }

abbrev pub inlined_row_validity : Validity InlinedRow
inlined_row_validity = record { begin = λ r. r.begin_snapshot; end = λ r. r.end_snapshot; with_end = λ e r. record r { end_snapshot = e } }

pub inlined_row_laws : IsValidity inlined_row_validity inlined_row_key
inlined_row_laws = record { begin_stays = λ e r. refl; end_is = λ e r. refl; last_end = λ e f r. refl; key_stays = λ e r. refl; opens = λ r e. ap (λ x. record r { end_snapshot = x }) (sym e) }
