-- What a list that only creates, drops and inserts makes of a state, table by table.
use Rattle.std.specs.Prelude.{ℕ, ◌+◌, not, List, [], ◌∷◌, ◌++◌, filter, length, map, if◌then◌else◌}
use Rattle.lake_types.specs.Cells.{laid_cells}
use Rattle.lake_types.specs.declared.kind.SchemaName.{SchemaName}
use Rattle.lake_model.specs.Apply.{Cells, Draft, created, is_ref, numbered, settled_schema, settled_table, with_rows}
use Rattle.lake_model.specs.Creations.{creations, made_schemas}
use Rattle.lake_model.specs.Kinds.{drops_schema, drops_table}
use Rattle.lake_model.specs.State.{State, Table}
use Rattle.lake_model.specs.declared.change.Change.{Change}
use Rattle.lake_model.specs.declared.change.Change.TheVariants as change
use Rattle.lake_model.specs.declared.change.Ref.{Ref}
use Rattle.lake_model.specs.declared.change.Ref.TheVariants as ref

-- a change that creates a thing, drops it whole or inserts rows
abbrev pub IsGrowth : Change → Type 0
IsGrowth (change.CreateSchema name) = Unit {0}
IsGrowth (change.DropSchema schema) = Unit {0}
IsGrowth (change.CreateTable schema name columns) = Unit {0}
IsGrowth (change.DropTable table) = Unit {0}
IsGrowth (change.Insert table rows) = Unit {0}
IsGrowth c = ⊥

-- the rows that a list inserts into a table, in order
abbrev pub inserted_into : Ref → Change → List Cells
inserted_into at (change.Insert table rows) = if is_ref at table then rows else []
inserted_into at c = []

abbrev pub rows_for : Ref → List Change → List Cells
rows_for at [] = []
rows_for at (c ∷ own) = inserted_into at c ++ rows_for at own

-- a table's draft with these rows
abbrev pub with_own_rows : List Change → Draft → Draft
with_own_rows own d = with_rows (rows_for d.at own) d

-- the tables that the list creates and leaves, with their rows; the first has this place among its creations of tables
abbrev pub made_tables : ℕ → List Change → List Draft
made_tables n [] = []
made_tables n (change.CreateTable schema name columns ∷ own) =
    if drops_table own (ref.New n) then made_tables (n + 1) own
    else with_own_rows own (created n schema name columns) ∷ made_tables (n + 1) own
made_tables n (c ∷ own) = made_tables n own

-- a table of the state with the list's rows behind its own
abbrev pub grown : List Change → Table → Table
grown own t = record t {
  rows = t.rows ++ numbered t.next_row (map (laid_cells t.columns) (rows_for (ref.Old t.id) own));
  next_row = t.next_row + length (rows_for (ref.Old t.id) own);
}

-- the state after the list: the old schemas and tables that it leaves, and then the created ones with their ids
abbrev pub left_schemas : State → List Change → List SchemaName
left_schemas s own = filter (λ (x : SchemaName). not (drops_schema own (ref.Old x.id))) s.schemas

abbrev pub left_tables : State → List Change → List Table
left_tables s own = filter (λ (t : Table). not (drops_table own (ref.Old t.id))) s.tables

abbrev pub new_schemas : ℕ → List Change → List SchemaName
new_schemas next own = map (settled_schema next (creations 0 0 own)) (made_schemas 0 own)

abbrev pub new_tables : ℕ → List Change → List Table
new_tables next own = map (settled_table next (creations 0 0 own)) (made_tables 0 own)

abbrev pub grown_state : State → List Change → State
grown_state s own = record {
  schemas = left_schemas s own ++ new_schemas s.next_catalog own;
  tables = map (grown own) (left_tables s own) ++ new_tables s.next_catalog own;
  next_catalog = s.next_catalog + length (creations 0 0 own);
}
