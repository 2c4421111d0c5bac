-- What a version and its tables tell, with files by their names.
use Rattle.std.specs.Prelude.{◌==◌, ◌&&◌, ℕ, Bool, List, find, map, Option, option_map}
use Rattle.std.specs.Arc.{arc_value}
use Rattle.std.specs.declared.sync.Arc.{Arc}
use Rattle.std.specs.Str.{bytes_eq}
use Rattle.lake_types.specs.declared.kind.SchemaName.{SchemaName}
use Rattle.cat_view.specs.Named.{NamedDeletes, NamedFile, NamedTable, NamedVersion}
use Rattle.cat_view.specs.declared.live.LiveDelete.{LiveDelete}
use Rattle.cat_view.specs.declared.live.LiveFile.{LiveFile}
use Rattle.cat_view.specs.declared.live.TableView.{TableView}
use Rattle.cat_view.specs.declared.version.Version.{Version}
use Rattle.cat_view.specs.declared.version.View.{View}

abbrev pub named_deletes : {F : Type 0} → (F → List ℕ) → LiveDelete F → NamedDeletes
named_deletes name d = record { id = d.id; name = name d.file; count = d.count }

abbrev pub named_file : {F : Type 0} → (F → List ℕ) → LiveFile F → NamedFile
named_file name f = record {
  id = f.id;
  name = name f.file;
  rows = f.rows;
  weight = f.weight;
  first_row = f.first_row;
  deletes = option_map (named_deletes name) f.deletes;
}

abbrev pub named_table : {F : Type 0} → (F → List ℕ) → TableView F → NamedTable
named_table name x = record {
  id = x.head.id;
  schema = x.head.schema;
  name = x.head.name;
  columns = x.columns;
  files = map (λ f. named_file name (arc_value f)) x.files.items;
  inlined = map (λ r. arc_value r) x.inlined.items;
  next_row = x.next_row;
  next_field = x.next_field;
}

abbrev pub named_tables : {F A : Type 0} → (F → List ℕ) → List (Arc (TableView F) A) → List NamedTable
named_tables name tables = map (λ x. named_table name (arc_value x)) tables

abbrev pub named_version : {F : Type 0} → (F → List ℕ) → Version F → NamedVersion
named_version name v = record { schemas = v.schemas; tables = named_tables name v.tables.items }

-- ---- a view: the snapshot that it is of, whether it only reads, and what it sees

abbrev pub base_of : {F : Type 0} → View F → ℕ
base_of v = v.base

abbrev pub only_reads : {F : Type 0} → View F → Bool
only_reads v = v.read_only

abbrev pub version_of : {F : Type 0} → View F → Version F
version_of v = arc_value v.version

abbrev pub named_view : {F : Type 0} → (F → List ℕ) → View F → NamedVersion
named_view name v = named_version name (version_of v)

-- ---- things of a version, by id and by name

abbrev pub schema_id : List SchemaName → List ℕ → Option ℕ
schema_id schemas name = option_map (λ (s : SchemaName). s.id) (find (λ (s : SchemaName). bytes_eq s.name name) schemas)

abbrev pub is_named : ℕ → List ℕ → NamedTable → Bool
is_named schema name x = (x.schema == schema) && bytes_eq x.name name

abbrev pub table_id : List NamedTable → ℕ → List ℕ → Option ℕ
table_id tables schema name = option_map (λ (x : NamedTable). x.id) (find (is_named schema name) tables)

abbrev pub table_at : List NamedTable → ℕ → Option NamedTable
table_at tables id = find (λ (x : NamedTable). x.id == id) tables
