-- When the version that a snapshot sees can be read: what it asks of the rows and of the files that are held.
use Rattle.std.specs.Prelude.{◌≡◌, ◌<◌, ◌^◌, ◌==◌, ℕ, List, filter, Option, Some}
use Rattle.std.specs.Arc.{arc_value}
use Rattle.std.specs.List.{AllByRecursion}
use Rattle.lake_types.specs.declared.value.Column.{Column}
use Rattle.cat_rows.specs.Seen.{seen_at}
use Rattle.cat_rows.specs.Tables.{Tables}
use Rattle.cat_rows.specs.declared.files.DataFileRow.{DataFileRow}
use Rattle.cat_rows.specs.declared.files.DeleteFileRow.{DeleteFileRow}
use Rattle.cat_rows.specs.declared.files.FileColumnStatsRow.{FileColumnStatsRow}
use Rattle.cat_rows.specs.declared.files.TableStatsRow.{TableStatsRow}
use Rattle.cat_rows.specs.declared.inlined.InlinedRow.{InlinedRow}
use Rattle.cat_rows.specs.declared.schemas.ColumnRow.{ColumnRow}
use Rattle.cat_rows.specs.declared.schemas.TableRow.{TableRow}
use Rattle.cat_view.specs.Columns.{SpellsColumn}
use Rattle.cat_view.specs.Held.{AreCopies, IsHeld}
use Rattle.cat_view.specs.Inlined.{SpellsCells}
use Rattle.cat_view.specs.Sight.{stats_row}
use Rattle.cat_view.specs.Stats.{AreRead}
use Rattle.cat_view.specs.declared.held.HeldFile.{HeldFile}
use Rattle.cat_view.specs.declared.live.LiveFile.{LiveFile}
use Rattle.cat_view.specs.declared.live.TableView.{TableView}
use Rattle.cat_view.specs.declared.version.Version.{Version}

abbrev pub file_stats : Tables → ℕ → List FileColumnStatsRow
file_stats t id = filter (λ (r : FileColumnStatsRow). r.data_file_id == id) t.file_column_stats

-- What a snapshot sees of a table is spelled, columns and inlined rows, and the table has statistics, whose next field id has
-- 32 bits.
pub record CanBeViewed (t : Tables) (s : ℕ) (r : TableRow) : Type 0 where
  pub columns : AllByRecursion SpellsColumn (filter (λ (c : ColumnRow). c.table_id == r.table_id) (seen_at s t).column)
  pub inlined : AllByRecursion SpellsCells (filter (λ (q : InlinedRow). q.table_id == r.table_id) (seen_at s t).inlined_row)
  pub stats : TableStatsRow
  pub there : stats_row t r.table_id ≡ Some stats
  pub field : stats.next_field_id < 2 ^ 32

-- so of each table that it sees, and the files that it sees are held
pub record CanBeSeen {F : Type 0} (name : F → List ℕ) (held : List (HeldFile F)) (t : Tables) (s : ℕ) : Type 0 where
  pub tables : AllByRecursion (CanBeViewed t s) (seen_at s t).table
  pub data_files : AllByRecursion (λ (f : DataFileRow). IsHeld name held f.path) (seen_at s t).data_file
  pub delete_files : AllByRecursion (λ (d : DeleteFileRow). IsHeld name held d.path) (seen_at s t).delete_file

-- ---- what a version has besides

-- the statistics of each data file, of the columns that its table has there
abbrev pub TellsFile : {F : Type 0} → Tables → List Column → LiveFile F → Type 0
TellsFile t columns f = AreRead columns f.rows (file_stats t f.id) f.stats

abbrev pub TellsTable : {F : Type 0} → Tables → TableView F → Type 0
TellsTable t x = AllByRecursion (λ f. TellsFile t x.columns (arc_value f)) x.files.items

abbrev pub TellStats : {F : Type 0} → Tables → Version F → Type 0
TellStats t v = AllByRecursion (λ x. TellsTable t (arc_value x)) v.tables.items

-- each file is a further value of a held one
module _ {F : Type 0} (name : F → List ℕ) (size part : F → ℕ) (bytes : F → Option (List ℕ)) (held : List (HeldFile F)) where
  abbrev pub HasHeld : TableView F → Type 0
  HasHeld x = AllByRecursion (λ f. AreCopies name size part bytes held (arc_value f)) x.files.items

  abbrev pub AreHeld : Version F → Type 0
  AreHeld v = AllByRecursion (λ x. HasHeld (arc_value x)) v.tables.items
