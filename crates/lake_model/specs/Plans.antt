-- What a statement comes to in its transaction: a refusal, or a change. Conditions are tried from the first on, and the
-- first that stands refuses.
use Rattle.std.specs.Prelude.{ℕ, ◌+◌, ◌==◌, ◌&&◌, not, nat_lt, nat_le, Bool, true, false, List, [], ◌∷◌, length, find, is_none, Option, Some, None, option_map, unwrap_or}
use Rattle.std.specs.List.{list_any}
use Rattle.lake_types.specs.Cells.{column_named}
use Rattle.lake_types.specs.Fits.{fits, promotes}
use Rattle.lake_types.specs.declared.limits.TheConstants.{MAX_COLUMNS, MAX_FIELD}
use Rattle.lake_types.specs.declared.stmt.Alter.{Alter}
use Rattle.lake_types.specs.declared.stmt.Alter.TheVariants as alter
use Rattle.lake_types.specs.declared.stmt.ColumnDef.{ColumnDef}
use Rattle.lake_types.specs.declared.stmt.TableName.{TableName}
use Rattle.lake_types.specs.declared.value.ColType.{ColType}
use Rattle.lake_types.specs.declared.value.Column.{Column}
use Rattle.lake_types.specs.declared.value.Value.{Value}
use Rattle.lake_types.specs.declared.value.Value.TheVariants as value
use Rattle.lake_model.specs.Apply.{Draft, Work, is_ref, table_id}
use Rattle.lake_model.specs.Clashes.{same_name}
use Rattle.lake_model.specs.declared.answer.Answer.{Answer}
use Rattle.lake_model.specs.declared.answer.Answer.TheVariants as answer
use Rattle.lake_model.specs.declared.answer.Counter.TheVariants as counter
use Rattle.lake_model.specs.declared.change.Change.{Change}
use Rattle.lake_model.specs.declared.change.Change.TheVariants as change
use Rattle.lake_model.specs.declared.change.Ref.{Ref}

-- what a statement comes to: it is refused, appends its change, or is answered and appends nothing
pub data Plan : Type 0 where
  Refuse : Answer → Plan
  Append : Change → Answer → Plan
  Leave : Answer → Plan

abbrev pub refused_if : Bool → Answer → Option Answer
refused_if true a = Some a
refused_if false a = None

abbrev pub or_else : Option Answer → Option Answer → Option Answer
or_else None later = later
or_else (Some a) later = Some a

abbrev pub unless : Option Answer → Plan → Plan
unless None plan = plan
unless (Some a) plan = Refuse a

-- ---- schemas and tables by name

abbrev pub schema_named : Work → List ℕ → Option Ref
schema_named w name = option_map (λ s. s.at) (find (λ s. same_name s.name name) w.schemas)

abbrev pub table_named : Work → Ref → List ℕ → Option Draft
table_named w schema name = find (λ d. is_ref d.schema schema && same_name d.name name) w.tables

abbrev pub has_tables : Work → Ref → Bool
has_tables w schema = list_any (λ d. is_ref d.schema schema) w.tables

-- the schema that a statement names
abbrev pub in_schema : List ℕ → (Ref → Plan) → Option Ref → Plan
in_schema name plan None = Refuse (answer.NoSchema name)
in_schema name plan (Some schema) = plan schema

abbrev pub of_draft : TableName → (Draft → Plan) → Option Draft → Plan
of_draft table plan None = Refuse (answer.NoTable table)
of_draft table plan (Some d) = plan d

-- the table that a statement names
abbrev pub on_table : Work → TableName → (Draft → Plan) → Plan
on_table w table plan = in_schema table.schema (λ schema. of_draft table plan (table_named w schema table.table)) (schema_named w table.schema)

abbrev pub create_schema : Work → List ℕ → Plan
create_schema w name =
    unless (refused_if (not (is_none (schema_named w name))) (answer.NameUsed name)) (Append (change.CreateSchema name) answer.Done)

abbrev pub drop_schema : Work → List ℕ → Plan
drop_schema w name =
    in_schema name (λ schema. unless (refused_if (has_tables w schema) (answer.NotEmpty name)) (Append (change.DropSchema schema) answer.Done)) (schema_named w name)

abbrev pub drop_table : Work → TableName → Plan
drop_table w table = on_table w table (λ d. Append (change.DropTable d.at) answer.Done)

-- ---- columns

-- without DEFAULT the default is NULL, and it is the initial default
abbrev pub default_of : ColumnDef → Value
default_of def = unwrap_or def.default_value value.Null

abbrev pub column_of : ℕ → ColumnDef → Column
column_of field def = record {
  field = field;
  name = def.name;
  ty = def.ty;
  initial = default_of def;
  default_value = default_of def;
  nulls = def.nulls;
}

abbrev pub columns_from : ℕ → List ColumnDef → List Column
columns_from field [] = []
columns_from field (def ∷ defs) = column_of field def ∷ columns_from (field + 1) defs

abbrev pub is_null : Value → Bool
is_null value.Null = true
is_null v = false

-- a value that is set in a column
abbrev pub value_fault : List ℕ → ColType → Bool → Value → Option Answer
value_fault name ty nulls v =
    or_else (refused_if (not (fits v ty)) (answer.WrongType name)) (refused_if (is_null v && not nulls) (answer.NotNull name))

abbrev pub is_default_null : Option Value → Bool
is_default_null (Some value.Null) = true
is_default_null v = false

-- a column of a new table, behind others; NOT NULL without DEFAULT is allowed
abbrev pub new_column_fault : List ColumnDef → ColumnDef → Option Answer
new_column_fault before def =
    or_else (refused_if (list_any (λ b. same_name b.name def.name) before) (answer.NameUsed def.name))
    (or_else (refused_if (not (fits (default_of def) def.ty)) (answer.WrongType def.name))
    (refused_if (is_default_null def.default_value && not def.nulls) (answer.NotNull def.name)))

abbrev pub new_columns_fault : List ColumnDef → List ColumnDef → Option Answer
new_columns_fault before [] = None
new_columns_fault before (def ∷ defs) = or_else (new_column_fault before def) (new_columns_fault (def ∷ before) defs)

abbrev pub create_in : Work → TableName → List ColumnDef → Ref → Plan
create_in w table defs schema =
    unless (or_else (refused_if (not (is_none (table_named w schema table.table))) (answer.NameUsed table.table))
    (or_else (refused_if (nat_lt MAX_COLUMNS (length defs)) answer.ManyColumns) (new_columns_fault [] defs)))
    (Append (change.CreateTable schema table.table (columns_from 1 defs)) answer.Done)

abbrev pub create_table : Work → TableName → List ColumnDef → Plan
create_table w table defs = in_schema table.schema (create_in w table defs) (schema_named w table.schema)

-- ---- changes of columns

abbrev pub of_column : List ℕ → (Column → Plan) → Option Column → Plan
of_column name plan None = Refuse (answer.NoColumn name)
of_column name plan (Some c) = plan c

abbrev pub on_column : Draft → List ℕ → (Column → Plan) → Plan
on_column d name plan = of_column name plan (column_named d.columns name)

abbrev pub has_column : Draft → List ℕ → Bool
has_column d name = not (is_none (column_named d.columns name))

-- a column of a table that is there: it needs a default where it takes no NULL
abbrev pub added_column_fault : ℕ → Draft → ColumnDef → Option Answer
added_column_fault table d def =
    or_else (refused_if (nat_le MAX_COLUMNS (length d.columns)) answer.ManyColumns)
    (or_else (refused_if (has_column d def.name) (answer.NameUsed def.name))
    (or_else (value_fault def.name def.ty def.nulls (default_of def))
    (refused_if (nat_le MAX_FIELD d.next_field) (answer.Spent (counter.Field table)))))

abbrev pub add_column : ℕ → ColumnDef → Draft → Plan
add_column table def d = unless (added_column_fault table d def) (Append (change.AddColumn d.at (column_of d.next_field def)) answer.Done)

abbrev pub remove_column : List ℕ → Draft → Plan
remove_column name d =
    on_column d name (λ c. unless (refused_if (length d.columns == 1) answer.LastColumn) (Append (change.DropColumn d.at c.field) answer.Done))

abbrev pub rename_column : List ℕ → List ℕ → Draft → Plan
rename_column name to d =
    on_column d name (λ c. unless (refused_if (has_column d to) (answer.NameUsed to)) (Append (change.RenameColumn d.at c.field to) answer.Done))

abbrev pub promote_column : List ℕ → ColType → Draft → Plan
promote_column name ty d =
    on_column d name (λ c. unless (refused_if (not (promotes c.ty ty)) (answer.NoPromotion name)) (Append (change.PromoteColumn d.at c.field ty) answer.Done))

abbrev pub set_default : List ℕ → Value → Draft → Plan
set_default name v d =
    on_column d name (λ c. unless (value_fault name c.ty c.nulls v) (Append (change.SetDefault d.at c.field v) answer.Done))

-- the table of a draft has this id, or would get it if the base were the newest version
abbrev pub id_of : ℕ → Work → Draft → ℕ
id_of next w d = table_id next w.created d.at

abbrev pub alter_column : ℕ → Work → Alter → Draft → Plan
alter_column next w (alter.Add def) d = add_column (id_of next w d) def d
alter_column next w (alter.Remove name) d = remove_column name d
alter_column next w (alter.Rename name to) d = rename_column name to d
alter_column next w (alter.Promote name ty) d = promote_column name ty d
alter_column next w (alter.SetDefault name v) d = set_default name v d

abbrev pub alter_table : ℕ → Work → TableName → Alter → Plan
alter_table next w table alteration = on_table w table (alter_column next w alteration)

-- ---- compactions, which change nothing of what is seen

abbrev pub compact : Work → TableName → Plan
compact w table = on_table w table (λ d. Append (change.Compact d.at) answer.Done)

abbrev pub flush : Work → TableName → Plan
flush w table = on_table w table (λ d. Append (change.Flush d.at) answer.Done)
