-- What is asked of each row for the version that a snapshot sees to be readable.
use Rattle.std.specs.Prelude.{ℕ, List}
use Rattle.cat_rows.specs.Seen.{Seen}
use Rattle.cat_rows.specs.Tables.{Tables}
use Rattle.cat_rows.specs.declared.files.DataFileRow.{DataFileRow}
use Rattle.cat_rows.specs.declared.files.DeleteFileRow.{DeleteFileRow}
use Rattle.cat_rows.specs.declared.inlined.InlinedRow.{InlinedRow}
use Rattle.cat_rows.specs.declared.schemas.ColumnRow.{ColumnRow}
use Rattle.cat_rows.specs.declared.schemas.TableRow.{TableRow}
use Rattle.cat_rules.specs.EachKept.{SeesTable}
use Rattle.cat_view.specs.Building.{HasCountersOf}
use Rattle.cat_view.specs.Columns.{SpellsColumn}
use Rattle.cat_view.specs.Held.{IsHeld}
use Rattle.cat_view.specs.Inlined.{SpellsCells}
use Rattle.cat_view.specs.declared.held.HeldFile.{HeldFile}

-- a table has statistics
abbrev pub IsCounted : Tables → TableRow → Type 0
IsCounted t r = HasCountersOf t r.table_id

-- where its table is seen, a column is spelled, and so are the cells of an inlined row
abbrev pub IsColumnRead : Seen → ColumnRow → Type 0
IsColumnRead seen r = SeesTable seen r.table_id → SpellsColumn r

abbrev pub IsInlinedRead : Seen → InlinedRow → Type 0
IsInlinedRead seen r = SeesTable seen r.table_id → SpellsCells r

-- files are held
abbrev pub IsDataHeld : {F : Type 0} → (F → List ℕ) → List (HeldFile F) → DataFileRow → Type 0
IsDataHeld name held f = IsHeld name held f.path

abbrev pub IsDeleteHeld : {F : Type 0} → (F → List ℕ) → List (HeldFile F) → DeleteFileRow → Type 0
IsDeleteHeld name held d = IsHeld name held d.path
