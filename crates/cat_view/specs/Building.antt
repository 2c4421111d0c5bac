-- How a version is put together, table by table.
use Rattle.std.specs.Prelude.{◌≡◌, ◌<◌, ◌^◌, ℕ, List, filter, map, Option, Some}
use Rattle.std.specs.Arc.{arc_value}
use Rattle.std.specs.List.{AllByRecursion, AllZip}
use Rattle.std.specs.declared.sync.Arc.{Arc}
use Rattle.lake_types.specs.declared.kind.SchemaName.{SchemaName}
use Rattle.cat_tables.specs.Table.{RisesByKey}
use Rattle.cat_tables.specs.Validity.{is_visible}
use Rattle.cat_rows.specs.Tables.{Tables}
use Rattle.cat_rows.specs.Validities.{schema_validity, table_validity}
use Rattle.cat_rows.specs.declared.files.TableStatsRow.{TableStatsRow}
use Rattle.cat_rows.specs.declared.schemas.SchemaRow.{SchemaRow}
use Rattle.cat_rows.specs.declared.schemas.TableRow.{TableRow}
use Rattle.cat_texts.specs.Spelled.{IsColumnOf}
use Rattle.cat_view.specs.Columns.{SpellsColumn, in_order}
use Rattle.cat_view.specs.Groups.{IsGroup, id_key, rows_of}
use Rattle.cat_view.specs.Inlined.{AreInlined, SpellsCells}
use Rattle.cat_view.specs.LiveFiles.{AreLive}
use Rattle.cat_view.specs.Owners.{column_owner, data_file_owner, inlined_owner}
use Rattle.cat_view.specs.Sight.{schema_of, stats_row}
use Rattle.cat_view.specs.declared.held.HeldFile.{HeldFile}
use Rattle.cat_view.specs.declared.live.TableHead.{TableHead}
use Rattle.cat_view.specs.declared.live.TableView.{TableView}
use Rattle.cat_view.specs.declared.versions.TablePlaces.{TablePlaces}

-- the schemas and the heads of the tables that a snapshot sees
abbrev pub schemas_in : ℕ → List SchemaRow → List SchemaName
schemas_in s rows = map schema_of (filter (is_visible schema_validity s) rows)

abbrev pub head_of : TableRow → TableHead
head_of r = record { id = r.table_id; schema = r.schema_id; name = r.table_name }

abbrev pub heads_in : ℕ → List TableRow → List TableHead
heads_in s rows = map head_of (filter (is_visible table_validity s) rows)

-- for each table the places of its columns, data files and inlined rows
pub record AreTablePlaces (s : ℕ) (t : Tables) (p : TablePlaces) : Type 0 where
  pub rises : RisesByKey id_key p.ids.items
  pub columns_are : AllZip (IsGroup (column_owner s) t.column) p.ids.items p.columns.items
  pub data_files_are : AllZip (IsGroup (data_file_owner s) t.data_file) p.ids.items p.data_files.items
  pub inlined_are : AllZip (IsGroup (inlined_owner s) t.inlined_row) p.ids.items p.inlined.items

-- ---- one table

-- there are statistics of the table, whose next field id has 32 bits
pub record HasCountersOf (t : Tables) (table : ℕ) : Type 0 where
  pub stats : TableStatsRow
  pub there : stats_row t table ≡ Some stats
  pub field : stats.next_field_id < 2 ^ 32

-- a table's rows can be read at a snapshot, and there are statistics of it
pub record IsReady (s : ℕ) (t : Tables) (table : ℕ) : Type 0 where
  pub columns : AllByRecursion SpellsColumn (rows_of (column_owner s) table t.column)
  pub inlined : AllByRecursion SpellsCells (rows_of (inlined_owner s) table t.inlined_row)
  pub counters : HasCountersOf t table

pub record AreCountersOf (t : Tables) (table next_row next_field : ℕ) : Type 0 where
  pub stats : TableStatsRow
  pub there : stats_row t table ≡ Some stats
  pub row_is : next_row ≡ stats.next_row_id
  pub field_is : next_field ≡ stats.next_field_id

-- a table as the snapshot sees it, made of the rows that are its own
pub record IsTableView {F : Type 0} (name : F → List ℕ) (held : List (HeldFile F)) (s : ℕ) (t : Tables) (size part : F → ℕ) (bytes : F → Option (List ℕ)) (head : TableHead) (x : TableView F) : Type 0 where
  pub head_is : x.head ≡ head
  pub columns : AllZip IsColumnOf (in_order (rows_of (column_owner s) head.id t.column)) x.columns
  pub files : AreLive name held s t x.columns size part bytes (rows_of (data_file_owner s) head.id t.data_file) x.files.items
  pub inlined : AreInlined x.columns (rows_of (inlined_owner s) head.id t.inlined_row) x.inlined.items
  pub counters : AreCountersOf t head.id x.next_row x.next_field

-- the tables of some heads
abbrev pub AreTableViews : {F A : Type 0} → (F → List ℕ) → List (HeldFile F) → ℕ → Tables → (F → ℕ) → (F → ℕ) → (F → Option (List ℕ)) → List TableHead → List (Arc (TableView F) A) → Type 0
AreTableViews name held s t size part bytes heads tables = AllZip (IsTableView name held s t size part bytes) heads (map (λ x. arc_value x) tables)
