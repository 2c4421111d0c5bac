-- What a list of changes makes of a plain state. The changes take effect one after the other, and numbers are given
-- once, at the end.
use Rattle.std.specs.Prelude.{ℕ, ◌+◌, ◌==◌, Bool, false, not, List, [], ◌∷◌, ◌++◌, map, filter, fold, length, Option, Some, None, option_map, unwrap_or, if◌then◌else◌}
use Rattle.std.specs.List.{filter_map, list_any}
use Rattle.lake_types.specs.Cells.{cell_at, laid_cells}
use Rattle.lake_types.specs.declared.kind.SchemaName.{SchemaName}
use Rattle.lake_types.specs.declared.value.ColType.{ColType}
use Rattle.lake_types.specs.declared.value.Column.{Column}
use Rattle.lake_types.specs.declared.value.Row.{Row}
use Rattle.lake_types.specs.declared.value.Value.{Value}
use Rattle.lake_model.specs.State.{State, Table}
use Rattle.lake_model.specs.declared.change.Change.{Change}
use Rattle.lake_model.specs.declared.change.Change.TheVariants as change
use Rattle.lake_model.specs.declared.change.Ref.{Ref}
use Rattle.lake_model.specs.declared.change.Ref.TheVariants as ref
use Rattle.lake_model.specs.declared.change.RowRef.{RowRef}
use Rattle.lake_model.specs.declared.change.RowRef.TheVariants as row_ref

-- cells by field id
abbrev pub Cells : Type 0
Cells = List (ℕ × Value)

-- ---- the work: a state while changes take effect

-- a schema or table that the list creates, by its place among its creations of that sort
pub data Creation : Type 0 where
  NewSchema : ℕ → Creation
  NewTable : ℕ → Creation

pub record SchemaDraft : Type 0 where
  pub at : Ref
  pub name : List ℕ

-- A table with its rows, and the rows that the list inserts, in order; none stands in the place of one that it deletes
-- again.
pub record Draft : Type 0 where
  pub at : Ref
  pub schema : Ref
  pub name : List ℕ
  pub columns : List Column
  pub rows : List Row
  pub fresh : List (Option Cells)
  pub next_row : ℕ
  pub next_field : ℕ

-- the created schemas and tables that are left, in order of creation, and how many there ever were
pub record Work : Type 0 where
  pub schemas : List SchemaDraft
  pub tables : List Draft
  pub created : List Creation
  pub created_schemas : ℕ
  pub created_tables : ℕ

abbrev pub is_ref : Ref → Ref → Bool
is_ref (ref.Old a) (ref.Old b) = a == b
is_ref (ref.New a) (ref.New b) = a == b
is_ref a b = false

abbrev pub is_row : RowRef → RowRef → Bool
is_row (row_ref.Old a) (row_ref.Old b) = a == b
is_row (row_ref.Fresh a) (row_ref.Fresh b) = a == b
is_row a b = false

abbrev pub is_named : List RowRef → RowRef → Bool
is_named rows row = list_any (λ r. is_row r row) rows

-- the base, before the first change
abbrev pub drafted_schema : SchemaName → SchemaDraft
drafted_schema s = record { at = ref.Old s.id; name = s.name }

abbrev pub drafted : Table → Draft
drafted t = record {
  at = ref.Old t.id;
  schema = ref.Old t.schema;
  name = t.name;
  columns = t.columns;
  rows = t.rows;
  fresh = [];
  next_row = t.next_row;
  next_field = t.next_field;
}

abbrev pub begun : State → Work
begun s = record {
  schemas = map drafted_schema s.schemas;
  tables = map drafted s.tables;
  created = [];
  created_schemas = 0;
  created_tables = 0;
}

-- ---- schemas and tables

abbrev pub is_created_schema : Ref → Creation → Bool
is_created_schema (ref.New a) (NewSchema b) = a == b
is_created_schema r c = false

abbrev pub is_created_table : Ref → Creation → Bool
is_created_table (ref.New a) (NewTable b) = a == b
is_created_table r c = false

abbrev pub with_schema : Work → List ℕ → Work
with_schema w name = record w {
  schemas = w.schemas ++ record { at = ref.New w.created_schemas; name = name } ∷ [];
  created = w.created ++ NewSchema w.created_schemas ∷ [];
  created_schemas = w.created_schemas + 1;
}

abbrev pub without_schema : Work → Ref → Work
without_schema w at = record w {
  schemas = filter (λ s. not (is_ref s.at at)) w.schemas;
  created = filter (λ c. not (is_created_schema at c)) w.created;
}

-- the columns of a new table have the field ids 1, 2, .. in their order
abbrev pub fields_from : ℕ → List Column → List Column
fields_from field [] = []
fields_from field (c ∷ columns) = record c { field = field } ∷ fields_from (field + 1) columns

-- a new table has no rows
abbrev pub created : ℕ → Ref → List ℕ → List Column → Draft
created place schema name columns = record {
  at = ref.New place;
  schema = schema;
  name = name;
  columns = fields_from 1 columns;
  rows = [];
  fresh = [];
  next_row = 0;
  next_field = length columns + 1;
}

abbrev pub with_table : Work → Ref → List ℕ → List Column → Work
with_table w schema name columns = record w {
  tables = w.tables ++ created w.created_tables schema name columns ∷ [];
  created = w.created ++ NewTable w.created_tables ∷ [];
  created_tables = w.created_tables + 1;
}

-- its rows go with it
abbrev pub without_table : Work → Ref → Work
without_table w at = record w {
  tables = filter (λ d. not (is_ref d.at at)) w.tables;
  created = filter (λ c. not (is_created_table at c)) w.created;
}

-- ---- one table: a change acts on each table's draft by itself

abbrev pub with_cells_of_rows : (Cells → Cells) → Draft → Draft
with_cells_of_rows f d = record d {
  rows = map (λ (r : Row). record r { cells = f r.cells }) d.rows;
  fresh = map (option_map f) d.fresh;
}

-- the column stands last, and each row has its initial default
abbrev pub with_column : Column → Draft → Draft
with_column column d = with_cells_of_rows (λ cells. cells ++ (column.field, column.initial) ∷ [])
    (record d { columns = d.columns ++ column ∷ []; next_field = column.field + 1 })

abbrev pub without_column : ℕ → Draft → Draft
without_column field d = with_cells_of_rows (λ cells. filter (λ cell. not (cell.0 == field)) cells)
    (record d { columns = filter (λ c. not (c.field == field)) d.columns })

abbrev pub at_field : ℕ → (Column → Column) → Column → Column
at_field field f column = if column.field == field then f column else column

abbrev pub with_columns : (Column → Column) → Draft → Draft
with_columns f d = record d { columns = map f d.columns }

abbrev pub renamed : ℕ → List ℕ → Draft → Draft
renamed field name = with_columns (at_field field (λ c. record c { name = name }))

abbrev pub promoted : ℕ → ColType → Draft → Draft
promoted field ty = with_columns (at_field field (λ c. record c { ty = ty }))

abbrev pub with_default : ℕ → Value → Draft → Draft
with_default field value = with_columns (at_field field (λ c. record c { default_value = value }))

-- rows that are inserted stand after the others, laid into the table's columns
abbrev pub with_rows : List Cells → Draft → Draft
with_rows more d = record d { fresh = d.fresh ++ map (λ cells. Some (laid_cells d.columns cells)) more }

-- the fresh rows, each by its place from n on, with those that are named changed
abbrev pub fresh_from : ℕ → List RowRef → (Cells → Option Cells) → List (Option Cells) → List (Option Cells)
fresh_from n rows f [] = []
fresh_from n rows f (None ∷ fresh) = None ∷ fresh_from (n + 1) rows f fresh
fresh_from n rows f (Some cells ∷ fresh) =
    (if is_named rows (row_ref.Fresh n) then f cells else Some cells) ∷ fresh_from (n + 1) rows f fresh

abbrev pub without_rows : List RowRef → Draft → Draft
without_rows rows d = record d {
  rows = filter (λ r. not (is_named rows (row_ref.Old r.id))) d.rows;
  fresh = fresh_from 0 rows (λ cells. None) d.fresh;
}

-- the given cells are set, and the others stay
abbrev pub set_cell : Cells → ℕ × Value → ℕ × Value
set_cell set cell = (cell.0, unwrap_or (cell_at set cell.0) cell.1)

abbrev pub set_cells : Cells → Cells → Cells
set_cells set cells = map (set_cell set) cells

abbrev pub updated_row : List RowRef → Cells → Row → Row
updated_row rows set r = if is_named rows (row_ref.Old r.id) then record r { cells = set_cells set r.cells } else r

abbrev pub with_updates : List RowRef → Cells → Draft → Draft
with_updates rows set d = record d {
  rows = map (updated_row rows set) d.rows;
  fresh = fresh_from 0 rows (λ cells. Some (set_cells set cells)) d.fresh;
}

-- what a change does at one table; a creation, a drop, a compaction and a flush leave its rows and columns
abbrev pub at_table : Ref → (Draft → Draft) → Draft → Draft
at_table table f d = if is_ref d.at table then f d else d

abbrev pub altered : Change → Draft → Draft
altered (change.AddColumn table column) = at_table table (with_column column)
altered (change.DropColumn table field) = at_table table (without_column field)
altered (change.RenameColumn table field name) = at_table table (renamed field name)
altered (change.PromoteColumn table field ty) = at_table table (promoted field ty)
altered (change.SetDefault table field value) = at_table table (with_default field value)
altered (change.Insert table rows) = at_table table (with_rows rows)
altered (change.Delete table rows) = at_table table (without_rows rows)
altered (change.Update table rows set) = at_table table (with_updates rows set)
altered c = λ d. d

-- ---- the whole list

-- a change does nothing to a thing that is not there
abbrev pub changed : Work → Change → Work
changed w (change.CreateSchema name) = with_schema w name
changed w (change.DropSchema schema) = without_schema w schema
changed w (change.CreateTable schema name columns) = with_table w schema name columns
changed w (change.DropTable table) = without_table w table
changed w c = record w { tables = map (altered c) w.tables }

abbrev pub worked : State → List Change → Work
worked s own = fold changed (begun s) own

-- the created schemas and tables that are left get the next catalogue ids, in order of creation
abbrev pub place_of : (Creation → Bool) → List Creation → ℕ
place_of is [] = 0
place_of is (c ∷ created) = if is c then 0 else place_of is created + 1

abbrev pub schema_id : ℕ → List Creation → Ref → ℕ
schema_id next created (ref.Old id) = id
schema_id next created (ref.New place) = next + place_of (is_created_schema (ref.New place)) created

abbrev pub table_id : ℕ → List Creation → Ref → ℕ
table_id next created (ref.Old id) = id
table_id next created (ref.New place) = next + place_of (is_created_table (ref.New place)) created

-- the fresh rows that are left get the next row ids, in insert order
abbrev pub left : List (Option Cells) → List Cells
left fresh = filter_map (λ row. row) fresh

abbrev pub numbered : ℕ → List Cells → List Row
numbered next [] = []
numbered next (cells ∷ more) = record { id = next; cells = cells } ∷ numbered (next + 1) more

abbrev pub settled_schema : ℕ → List Creation → SchemaDraft → SchemaName
settled_schema next created s = record { id = schema_id next created s.at; name = s.name }

abbrev pub settled_table : ℕ → List Creation → Draft → Table
settled_table next created d = record {
  id = table_id next created d.at;
  schema = schema_id next created d.schema;
  name = d.name;
  columns = d.columns;
  rows = d.rows ++ numbered d.next_row (left d.fresh);
  next_row = d.next_row + length (left d.fresh);
  next_field = d.next_field;
}

abbrev pub settled : ℕ → Work → State
settled next w = record {
  schemas = map (settled_schema next w.created) w.schemas;
  tables = map (settled_table next w.created) w.tables;
  next_catalog = next + length w.created;
}

-- the state after the whole list
abbrev pub apply : State → List Change → State
apply s own = settled s.next_catalog (worked s own)
