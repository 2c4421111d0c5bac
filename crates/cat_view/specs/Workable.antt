-- A version that a transaction can work on: within the limits that statements, scans and new files have.
use Rattle.std.specs.Prelude.{◌≢◌, ◌≤◌, ◌<◌, ◌+◌, ℕ, List, All, AllPairs, IfSome, length}
use Rattle.std.specs.List.{AllByRecursion}
use Rattle.lake_types.specs.declared.limits.TheConstants.{MAX_COLUMNS, MAX_COUNTER, MAX_FIELD, MAX_NAME_BYTES}
use Rattle.lake_types.specs.declared.value.Column.{Column}
use Rattle.lake_model.specs.Fits.{IsColumn}
use Rattle.cat_view.specs.Named.{NamedFile, NamedTable, NamedVersion}

abbrev pub HasOtherField : Column → Column → Type 0
HasOtherField a b = a.field ≢ b.field

-- the columns of a table; the largest field id is that of row ids in a file
pub record AreColumns (columns : List Column) : Type 0 where
  pub few : length columns ≤ MAX_COLUMNS
  pub names : All (λ (c : Column). length c.name ≤ MAX_NAME_BYTES) columns
  pub fields : All (λ (c : Column). c.field < MAX_FIELD) columns
  pub differ : AllPairs HasOtherField columns

abbrev pub HasOtherId : NamedTable → NamedTable → Type 0
HasOtherId a b = a.id ≢ b.id

-- ids differ, and files can hold the columns
pub record AreTables (tables : List NamedTable) : Type 0 where
  pub ids : AllPairs HasOtherId tables
  pub columns : AllByRecursion (λ (x : NamedTable). AreColumns x.columns) tables

-- names and defaults of columns are small
abbrev pub AreSized : List NamedTable → Type 0
AreSized tables = AllByRecursion (λ (x : NamedTable). AllByRecursion IsColumn x.columns) tables

-- ids that a file's rows have by their places are within the limit
abbrev pub HasIds : NamedFile → Type 0
HasIds f = IfSome f.first_row (λ first. first + f.rows ≤ MAX_COUNTER)

abbrev pub HaveIds : List NamedTable → Type 0
HaveIds tables = AllByRecursion (λ (x : NamedTable). AllByRecursion HasIds x.files) tables

pub record IsWorkable (v : NamedVersion) : Type 0 where
  pub tables : AreTables v.tables
  pub sized : AreSized v.tables
  pub ids : HaveIds v.tables
