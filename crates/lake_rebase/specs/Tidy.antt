-- A plain state in which everything has its place and its own name. No statement breaks that.
use Rattle.std.specs.Prelude.{◌≡◌, ◌≤◌, ℕ, true, List, Contains, length}
use Rattle.std.specs.List.{AllByRecursion}
use Rattle.lake_types.specs.Fits.{fits}
use Rattle.lake_types.specs.declared.kind.SchemaName.{SchemaName}
use Rattle.lake_types.specs.declared.limits.TheConstants.{MAX_COLUMNS}
use Rattle.lake_types.specs.declared.value.Column.{Column}
use Rattle.lake_model.specs.Fits.{IsColumn}
use Rattle.lake_model.specs.State.{State, Table}

-- names are short, and defaults are short values of the column's type
pub record IsTidyColumn (c : Column) : Type 0 where
  pub sizes : IsColumn c
  pub initial : fits c.initial c.ty ≡ true
  pub default_value : fits c.default_value c.ty ≡ true

-- from 1 column on to the limit, one of a name
pub record AreTidyColumns (columns : List Column) : Type 0 where
  pub some : 1 ≤ length columns
  pub few : length columns ≤ MAX_COLUMNS
  pub names : (c d : Column) → Contains columns c → Contains columns d → c.name ≡ d.name → c.field ≡ d.field
  pub each : AllByRecursion IsTidyColumn columns

-- the schema of this id
abbrev pub HasSchema : List SchemaName → ℕ → Type 0
HasSchema schemas id = (x : SchemaName) × Contains schemas x × (x.id ≡ id)

-- One schema of a name. Each table has its schema, one of a name in it, and tidy columns.
pub record IsTidy (s : State) : Type 0 where
  pub schema_names : (x y : SchemaName) → Contains s.schemas x → Contains s.schemas y → x.name ≡ y.name → x.id ≡ y.id
  pub homes : (t : Table) → Contains s.tables t → HasSchema s.schemas t.schema
  pub table_names : (t u : Table) → Contains s.tables t → Contains s.tables u → t.schema ≡ u.schema → t.name ≡ u.name → t.id ≡ u.id
  pub columns : AllByRecursion (λ (t : Table). AreTidyColumns t.columns) s.tables
