-- What a list of creations, drops and inserts makes of a version, whose new rows lie in new data files.
use Rattle.std.specs.Prelude.{◌≡◌, ℕ, ◌+◌, not, true, List, [], ◌++◌, filter, length, map, IfSome, is_some}
use Rattle.std.specs.List.{AllByRecursion, flat_map}
use Rattle.lake_types.specs.Cells.{laid_cells}
use Rattle.lake_types.specs.declared.kind.SchemaName.{SchemaName}
use Rattle.lake_types.specs.declared.value.Column.{Column}
use Rattle.lake_types.specs.declared.value.Row.{Row}
use Rattle.lake_model.specs.Apply.{Cells, Creation, Draft, left, numbered, schema_id, table_id}
use Rattle.lake_model.specs.Creations.{creations}
use Rattle.lake_model.specs.Growth.{made_tables, new_schemas, rows_for}
use Rattle.lake_model.specs.Kinds.{drops_schema, drops_table}
use Rattle.lake_model.specs.Laws.{RiseBelow}
use Rattle.lake_model.specs.declared.change.Change.{Change}
use Rattle.lake_model.specs.declared.change.Ref.{Ref}
use Rattle.lake_model.specs.declared.change.Ref.TheVariants as ref
use Rattle.cat_view.specs.Files.{Files}
use Rattle.cat_view.specs.Named.{NamedDeletes, NamedFile, NamedTable, NamedVersion, live_rows, table_rows}

-- the new data files of each table
abbrev pub NewFiles : Type 0
NewFiles = Ref → List NamedFile

-- ---- the version after the list

-- a table of the version with its new files behind the others
abbrev pub grown_table : NewFiles → List Change → NamedTable → NamedTable
grown_table news own x = record x {
  files = x.files ++ news (ref.Old x.id);
  next_row = x.next_row + length (rows_for (ref.Old x.id) own);
}

-- a table that the list creates and leaves; its row ids begin at 0
abbrev pub made_table : NewFiles → ℕ → List Creation → Draft → NamedTable
made_table news next created d = record {
  id = table_id next created d.at;
  schema = schema_id next created d.schema;
  name = d.name;
  columns = d.columns;
  files = news d.at;
  inlined = [];
  next_row = length (left d.fresh);
  next_field = d.next_field;
}

abbrev pub kept_schemas : List Change → List SchemaName → List SchemaName
kept_schemas own schemas = filter (λ (x : SchemaName). not (drops_schema own (ref.Old x.id))) schemas

abbrev pub kept_tables : List Change → List NamedTable → List NamedTable
kept_tables own tables = filter (λ (x : NamedTable). not (drops_table own (ref.Old x.id))) tables

-- what the list leaves of the version, and behind it what it makes, with catalogue ids from the next one on
abbrev pub grown_version : NewFiles → ℕ → List Change → NamedVersion → NamedVersion
grown_version news next own v = record {
  schemas = kept_schemas own v.schemas ++ new_schemas next own;
  tables = map (grown_table news own) (kept_tables own v.tables) ++ map (made_table news next (creations 0 0 own)) (made_tables 0 own);
}

-- ---- what it asks of the files

-- a file of the version is there, and so is its delete file
pub record IsThere (files : Files) (f : NamedFile) : Type 0 where
  pub file : is_some (files f.name) ≡ true
  pub deletes : IfSome f.deletes (λ (d : NamedDeletes). is_some (files d.name) ≡ true)

-- a table whose files are there, and whose row ids lie below its next one
pub record CanGrow (files : Files) (x : NamedTable) : Type 0 where
  pub there : AllByRecursion (IsThere files) x.files
  pub ids : RiseBelow x.next_row (map (λ (r : Row). r.id) (table_rows files x))

-- new files hold these rows, laid into columns, with ids from a start on
abbrev pub HoldRows : Files → List Column → ℕ → List Cells → List NamedFile → Type 0
HoldRows more columns start rows news = flat_map (live_rows more columns) news ≡ numbered start (map (laid_cells columns) rows)

-- the new files of a table hold the list's rows for it
pub record IsReady (files more : Files) (news : NewFiles) (own : List Change) (x : NamedTable) : Type 0 where
  pub can_grow : CanGrow files x
  pub hold : HoldRows more x.columns x.next_row (rows_for (ref.Old x.id) own) (news (ref.Old x.id))

-- and so do those of a table that the list creates; its rows are laid
abbrev pub IsMadeReady : Files → NewFiles → Draft → Type 0
IsMadeReady more news d = flat_map (live_rows more d.columns) (news d.at) ≡ numbered 0 (left d.fresh)
