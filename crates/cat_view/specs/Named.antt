-- A version with its files by name, and the plain state that it is over files with their sheets.
use Rattle.std.specs.Prelude.{ℕ, nat_lt, List, [], ◌∷◌, ◌++◌, map, Option, option_map, option_and_then, unwrap_or, if◌then◌else◌}
use Rattle.std.specs.List.{flat_map}
use Rattle.lake_types.specs.declared.kind.SchemaName.{SchemaName}
use Rattle.lake_types.specs.declared.value.Column.{Column}
use Rattle.lake_types.specs.declared.value.Row.{Row}
use Rattle.lake_model.specs.State.{State, Table}
use Rattle.sheet_rows.specs.Live.{laid_rows, left_from, places_in}
use Rattle.cat_view.specs.Files.{Files, sheet_at}

-- ---- a version

-- a delete file: its id and name, and how many places it lists
pub record NamedDeletes : Type 0 where
  pub id : ℕ
  pub name : List ℕ
  pub count : ℕ

-- a data file: its rows count from the first one, or have their ids in a column
pub record NamedFile : Type 0 where
  pub id : ℕ
  pub name : List ℕ
  pub rows : ℕ
  pub weight : ℕ
  pub first_row : Option ℕ
  pub deletes : Option NamedDeletes

-- a table, with the rows that lie in the catalogue itself
pub record NamedTable : Type 0 where
  pub id : ℕ
  pub schema : ℕ
  pub name : List ℕ
  pub columns : List Column
  pub files : List NamedFile
  pub inlined : List Row
  pub next_row : ℕ
  pub next_field : ℕ

-- schemas and tables, both rising by id
pub record NamedVersion : Type 0 where
  pub schemas : List SchemaName
  pub tables : List NamedTable

-- ---- in order of a number

-- past those with a lower number
abbrev pub put_by : {X : Type 0} → (X → ℕ) → X → List X → List X
put_by n x [] = x ∷ []
put_by n x (y ∷ ys) = if nat_lt (n y) (n x) then y ∷ put_by n x ys else x ∷ y ∷ ys

abbrev pub ordered : {X : Type 0} → (X → ℕ) → List X → List X
ordered n [] = []
ordered n (x ∷ xs) = put_by n x (ordered n xs)

-- ---- its rows

-- the places of a data file's rows that are deleted: those that its delete file lists
abbrev pub deleted : Files → Option NamedDeletes → List ℕ
deleted files d = unwrap_or (option_map places_in (option_and_then (λ (x : NamedDeletes). sheet_at files x.name) d)) []

-- the rows of a data file, laid into columns
abbrev pub rows_in : Files → List Column → NamedFile → List Row
rows_in files columns f = unwrap_or (option_and_then (laid_rows f.first_row columns) (sheet_at files f.name)) []

-- those that are left of them
abbrev pub live_rows : Files → List Column → NamedFile → List Row
live_rows files columns f = left_from 0 (deleted files f.deletes) (rows_in files columns f)

-- the rows of a table: those of its files and those in the catalogue, rising by id
abbrev pub table_rows : Files → NamedTable → List Row
table_rows files x = ordered (λ (r : Row). r.id) (flat_map (live_rows files x.columns) x.files ++ x.inlined)

-- ---- the plain state

abbrev pub table_of : Files → NamedTable → Table
table_of files x = record {
  id = x.id;
  schema = x.schema;
  name = x.name;
  columns = x.columns;
  rows = table_rows files x;
  next_row = x.next_row;
  next_field = x.next_field;
}

abbrev pub state_of : Files → ℕ → NamedVersion → State
state_of files next_catalog v = record { schemas = v.schemas; tables = map (table_of files) v.tables; next_catalog = next_catalog }
