-- The fresh rows that a list leaves which only creates, drops and inserts, table by table.
use Rattle.std.specs.Prelude.{◌≡◌, not, Bool, true, false, List, [], ◌∷◌, ◌++◌, filter, map}
use Rattle.std.specs.List.{AllZip}
use Rattle.lake_types.specs.Cells.{laid_cells}
use Rattle.lake_model.specs.Apply.{Cells, Draft, fields_from, left}
use Rattle.lake_model.specs.Growth.{made_tables, rows_for}
use Rattle.lake_model.specs.Kinds.{drops_table}
use Rattle.lake_model.specs.State.{State, Table}
use Rattle.lake_model.specs.declared.change.Change.{Change}
use Rattle.lake_model.specs.declared.change.Change.TheVariants as change
use Rattle.lake_model.specs.declared.change.Ref.TheVariants as ref
use Rattle.cat_view.specs.Named.{NamedTable, NamedVersion}
use Rattle.row_files.specs.Stages.{FreshTable}

-- ---- the version that is staged on

pub record IsSameTable (t : Table) (x : NamedTable) : Type 0 where
  pub id : t.id ≡ x.id
  pub columns : t.columns ≡ x.columns

-- The state has the version's tables with their columns. It may have any rows, names and schemas.
abbrev pub HasTables : NamedVersion → State → Type 0
HasTables v state = AllZip IsSameTable state.tables v.tables

-- a created table has columns with the field ids 1, 2, ..
abbrev pub HasFields : Change → Type 0
HasFields (change.CreateTable schema name columns) = fields_from 1 columns ≡ columns
HasFields c = Unit {0}

-- ---- fresh rows

abbrev pub is_some_row : List Cells → Bool
is_some_row [] = false
is_some_row (row ∷ rows) = true

abbrev pub has_rows : FreshTable → Bool
has_rows t = is_some_row t.rows

-- those that the list inserts into a table of the version
abbrev pub fresh_of_old : List Change → NamedTable → FreshTable
fresh_of_old own x = record { table = ref.Old x.id; columns = x.columns; rows = map (laid_cells x.columns) (rows_for (ref.Old x.id) own) }

-- those of a table that the list creates
abbrev pub fresh_of : Draft → FreshTable
fresh_of d = record { table = d.at; columns = d.columns; rows = left d.fresh }

-- tables of the version that the list leaves, and behind them the created ones in order of creation
abbrev pub tables_left : NamedVersion → List Change → List FreshTable
tables_left v own =
    map (fresh_of_old own) (filter (λ (x : NamedTable). not (drops_table own (ref.Old x.id))) v.tables) ++ map fresh_of (made_tables 0 own)

-- those of them that have fresh rows
abbrev pub fresh_tables : NamedVersion → List Change → List FreshTable
fresh_tables v own = filter has_rows (tables_left v own)
