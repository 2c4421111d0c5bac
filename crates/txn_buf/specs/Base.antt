-- Which plain states a version is, but for the rows of its tables.
use Rattle.std.specs.Prelude.{◌≡◌, [], map}
use Rattle.lake_model.specs.State.{State, Table}
use Rattle.cat_view.specs.Named.{NamedTable, NamedVersion}

-- a table without its rows
abbrev pub without_rows : Table → Table
without_rows t = record t { rows = []; next_row = 0 }

-- the same of a version's table
abbrev pub head_of : NamedTable → Table
head_of x = record {
  id = x.id;
  schema = x.schema;
  name = x.name;
  columns = x.columns;
  rows = [];
  next_row = 0;
  next_field = x.next_field;
}

-- The state has the version's schemas, and its tables with their names and columns. It may have any rows.
pub record IsBase (v : NamedVersion) (base : State) : Type 0 where
  pub schemas : base.schemas ≡ v.schemas
  pub tables : map without_rows base.tables ≡ map head_of v.tables
