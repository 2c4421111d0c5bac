-- Which statements are small: their names, defaults and cells, and a table that they create has a column.
use Rattle.std.specs.Prelude.{◌≢◌, ℕ, List, [], Option, Some, None}
use Rattle.std.specs.List.{AllByRecursion}
use Rattle.lake_types.specs.declared.limits.TheConstants.{MAX_CELL_BYTES, MAX_DEFAULT_BYTES}
use Rattle.lake_types.specs.declared.stmt.Alter.{Alter}
use Rattle.lake_types.specs.declared.stmt.Alter.TheVariants as alter
use Rattle.lake_types.specs.declared.stmt.Cell.{Cell}
use Rattle.lake_types.specs.declared.stmt.Cell.TheVariants as cell
use Rattle.lake_types.specs.declared.stmt.ColumnDef.{ColumnDef}
use Rattle.lake_types.specs.declared.stmt.Stmt.{Stmt}
use Rattle.lake_types.specs.declared.stmt.Stmt.TheVariants as stmt
use Rattle.lake_types.specs.declared.value.Value.{Value}
use Rattle.lake_model.specs.Fits.{IsAtMost, IsName}

abbrev pub IsSizedDefault : Option Value → Type 0
IsSizedDefault None = Unit {0}
IsSizedDefault (Some v) = IsAtMost MAX_DEFAULT_BYTES v

abbrev pub IsSizedDef : ColumnDef → Type 0
IsSizedDef def = IsName def.name × IsSizedDefault def.default_value

abbrev pub IsSizedAlter : Alter → Type 0
IsSizedAlter (alter.Add def) = IsSizedDef def
IsSizedAlter (alter.Rename name to) = IsName to
IsSizedAlter (alter.SetDefault name v) = IsAtMost MAX_DEFAULT_BYTES v
IsSizedAlter x = Unit {0}

-- DEFAULT stands for what a column says
abbrev pub IsSizedCell : Cell → Type 0
IsSizedCell (cell.Given v) = IsAtMost MAX_CELL_BYTES v
IsSizedCell cell.Default = Unit {0}

abbrev pub IsSizedRow : List Cell → Type 0
IsSizedRow row = AllByRecursion IsSizedCell row

abbrev pub IsSizedAssignment : List ℕ × Value → Type 0
IsSizedAssignment a = IsAtMost MAX_CELL_BYTES a.1

abbrev pub IsSizedStmt : Stmt → Type 0
IsSizedStmt (stmt.CreateSchema name) = IsName name
IsSizedStmt (stmt.CreateTable table columns) = IsName table.table × (columns ≢ []) × AllByRecursion IsSizedDef columns
IsSizedStmt (stmt.Change table x) = IsSizedAlter x
IsSizedStmt (stmt.Insert table rows) = AllByRecursion IsSizedRow rows
IsSizedStmt (stmt.Update table set test) = AllByRecursion IsSizedAssignment set
IsSizedStmt x = Unit {0}
