-- The kinds of change that a list makes, by which commits are compared.
use Rattle.std.specs.Prelude.{ℕ, zero, suc, ◌+◌, ◌&&◌, ◌||◌, not, Bool, true, false, List, [], ◌∷◌, ◌++◌, length, fold, sum_by, Option, Some, None, unwrap_or, if◌then◌else◌}
use Rattle.std.specs.List.{list_any}
use Rattle.std.specs.declared.cmp.Ordering.{Ordering}
use Rattle.std.specs.declared.cmp.Ordering.TheVariants.{Less, Equal, Greater}
use Rattle.lake_types.specs.declared.kind.Kind.{Kind}
use Rattle.lake_types.specs.declared.kind.Kind.TheVariants as kind
use Rattle.lake_types.specs.declared.kind.SchemaName.{SchemaName}
use Rattle.lake_types.specs.Kinds.{kind_cmp, name_of}
use Rattle.lake_model.specs.Apply.{is_ref, is_named}
use Rattle.lake_model.specs.declared.change.Change.{Change}
use Rattle.lake_model.specs.declared.change.Change.TheVariants as change
use Rattle.lake_model.specs.declared.change.Ref.{Ref}
use Rattle.lake_model.specs.declared.change.Ref.TheVariants as ref
use Rattle.lake_model.specs.declared.change.RowRef.{RowRef}
use Rattle.lake_model.specs.declared.change.RowRef.TheVariants as row_ref

-- ---- what a list does to one thing

abbrev pub is_drop_of_schema : Ref → Change → Bool
is_drop_of_schema at (change.DropSchema schema) = is_ref at schema
is_drop_of_schema at c = false

abbrev pub is_drop_of_table : Ref → Change → Bool
is_drop_of_table at (change.DropTable table) = is_ref at table
is_drop_of_table at c = false

abbrev pub drops_schema : List Change → Ref → Bool
drops_schema own at = list_any (is_drop_of_schema at) own

abbrev pub drops_table : List Change → Ref → Bool
drops_table own at = list_any (is_drop_of_table at) own

-- how many rows one change inserts into a table
abbrev pub inserted_by : Ref → Change → ℕ
inserted_by at (change.Insert table rows) = if is_ref table at then length rows else 0
inserted_by at c = 0

abbrev pub inserted : List Change → Ref → ℕ
inserted own at = sum_by (inserted_by at) own

abbrev pub is_delete_of : Ref → RowRef → Change → Bool
is_delete_of at row (change.Delete table rows) = is_ref table at && is_named rows row
is_delete_of at row c = false

abbrev pub deletes_row : List Change → Ref → RowRef → Bool
deletes_row own at row = list_any (is_delete_of at row) own

-- whether one of the first n rows that the list inserts into a table is left at the end
abbrev pub leaves_among : ℕ → List Change → Ref → Bool
leaves_among zero own at = false
leaves_among (suc n) own at = leaves_among n own at || not (deletes_row own at (row_ref.Fresh n))

abbrev pub leaves_fresh : List Change → Ref → Bool
leaves_fresh own at = leaves_among (inserted own at) own at

abbrev pub is_old : RowRef → Bool
is_old (row_ref.Old id) = true
is_old (row_ref.Fresh place) = false

abbrev pub names_old : List RowRef → Bool
names_old rows = list_any is_old rows

-- ---- the kinds of each change, in a list

-- the name of a schema: an old one's in the base, a created one's where it is created
abbrev pub created_name : ℕ → List Change → Option (List ℕ)
created_name place [] = None
created_name zero (change.CreateSchema name ∷ own) = Some name
created_name (suc place) (change.CreateSchema name ∷ own) = created_name place own
created_name place (c ∷ own) = created_name place own

abbrev pub schema_name : List SchemaName → List Change → Ref → List ℕ
schema_name names own (ref.Old id) = unwrap_or (name_of names id) []
schema_name names own (ref.New place) = unwrap_or (created_name place own) []

abbrev pub only_if : Bool → Kind → List Kind
only_if true k = k ∷ []
only_if false k = []

-- a table of the base that the list drops has no other kind, and one that it creates none of these
abbrev pub of_table : List Change → Ref → (ℕ → List Kind) → List Kind
of_table own (ref.Old id) kinds = if drops_table own (ref.Old id) then [] else kinds id
of_table own (ref.New place) kinds = []

-- a row that is updated is inserted anew and deleted
abbrev pub is_updated : List RowRef → ℕ → List Kind
is_updated rows id = only_if (names_old rows) (kind.InsertedInto id) ++ only_if (names_old rows) (kind.DeletedFrom id)

-- what a change of a table of the base is
abbrev pub kinds_of_old : List Change → Change → ℕ → List Kind
kinds_of_old own (change.AddColumn table column) id = kind.Altered id ∷ []
kinds_of_old own (change.DropColumn table field) id = kind.Altered id ∷ []
kinds_of_old own (change.RenameColumn table field name) id = kind.Altered id ∷ []
kinds_of_old own (change.PromoteColumn table field ty) id = kind.Altered id ∷ []
kinds_of_old own (change.SetDefault table field value) id = kind.Altered id ∷ []
kinds_of_old own (change.Insert table rows) id = only_if (leaves_fresh own (ref.Old id)) (kind.InsertedInto id)
kinds_of_old own (change.Delete table rows) id = only_if (names_old rows) (kind.DeletedFrom id)
kinds_of_old own (change.Update table rows set) id = is_updated rows id
kinds_of_old own (change.Compact table) id = kind.Compacted id ∷ []
kinds_of_old own (change.Flush table) id = kind.Compacted id ∷ []
kinds_of_old own c id = []

-- the table that a change is of, where it stands in the base or was created
abbrev pub table_of : Change → Option Ref
table_of (change.AddColumn table column) = Some table
table_of (change.DropColumn table field) = Some table
table_of (change.RenameColumn table field name) = Some table
table_of (change.PromoteColumn table field ty) = Some table
table_of (change.SetDefault table field value) = Some table
table_of (change.Insert table rows) = Some table
table_of (change.Delete table rows) = Some table
table_of (change.Update table rows set) = Some table
table_of (change.Compact table) = Some table
table_of (change.Flush table) = Some table
table_of c = None

abbrev pub kinds_on : List Change → Change → Option Ref → List Kind
kinds_on own c None = []
kinds_on own c (Some table) = of_table own table (kinds_of_old own c)

abbrev pub kinds_by : List Change → Change → List Kind
kinds_by own c = kinds_on own c (table_of c)

-- a schema or table that the list creates and drops has no kind, and one of the base that it drops the dropped kind
abbrev pub dropped_schema : List SchemaName → Ref → List Kind
dropped_schema names (ref.Old id) = kind.DroppedSchema id (unwrap_or (name_of names id) []) ∷ []
dropped_schema names (ref.New place) = []

abbrev pub dropped_table : Ref → List Kind
dropped_table (ref.Old id) = kind.DroppedTable id ∷ []
dropped_table (ref.New place) = []

-- the kinds that one change of the list makes, before which so many schemas and tables were created
abbrev pub kinds_at : List SchemaName → List Change → ℕ → ℕ → Change → List Kind
kinds_at names own m n (change.CreateSchema name) = only_if (not (drops_schema own (ref.New m))) (kind.CreatedSchema name)
kinds_at names own m n (change.CreateTable schema name columns) =
    only_if (not (drops_table own (ref.New n))) (kind.CreatedTable (schema_name names own schema) name)
kinds_at names own m n (change.DropSchema schema) = dropped_schema names schema
kinds_at names own m n (change.DropTable table) = dropped_table table
kinds_at names own m n c = kinds_by own c

abbrev pub schemas_after : ℕ → Change → ℕ
schemas_after m (change.CreateSchema name) = m + 1
schemas_after m c = m

abbrev pub tables_after : ℕ → Change → ℕ
tables_after n (change.CreateTable schema name columns) = n + 1
tables_after n c = n

-- the kinds of the changes from one on; own is the whole list
abbrev pub kinds_from : List SchemaName → List Change → ℕ → ℕ → List Change → List Kind
kinds_from names own m n [] = []
kinds_from names own m n (c ∷ rest) = kinds_at names own m n c ++ kinds_from names own (schemas_after m c) (tables_after n c) rest

-- ---- in order, each once

abbrev pub put_by : Ordering → Kind → Kind → List Kind → List Kind → List Kind
put_by Less k l rest more = k ∷ l ∷ rest
put_by Equal k l rest more = l ∷ rest
put_by Greater k l rest more = l ∷ more

-- the kinds, with this one at its place, unless it stands there
abbrev pub put : Kind → List Kind → List Kind
put k [] = k ∷ []
put k (l ∷ rest) = put_by (kind_cmp k l) k l rest (put k rest)

abbrev pub put_all : List Kind → List Kind → List Kind
put_all sorted kinds = fold (λ so_far k. put k so_far) sorted kinds

abbrev pub in_order : List Kind → List Kind
in_order kinds = put_all [] kinds

-- The kinds of a list: the base has the schemas of these names.
abbrev pub kinds : List SchemaName → List Change → List Kind
kinds names own = in_order (kinds_from names own 0 0 own)
