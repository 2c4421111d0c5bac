-- What is looked for in a list of kinds that stand in order.
use Rattle.std.specs.Prelude.{ℕ, Bool, false, List, [], ◌∷◌, find, Option, None}
use Rattle.std.specs.Cmp.Lexicographic.{slice_cmp}
use Rattle.std.specs.Option.{option_or}
use Rattle.std.specs.Ordering.{is_eq, nat_cmp}
use Rattle.std.specs.declared.cmp.Ordering.{Ordering}
use Rattle.lake_model.specs.Clashes.{same_name}
use Rattle.lake_types.specs.Kinds.{kind_cmp, rank, subject, then_by}
use Rattle.lake_types.specs.declared.kind.Kind.{Kind}
use Rattle.lake_types.specs.declared.kind.Kind.TheVariants.{CreatedTable, InsertedInto, DeletedFrom, Compacted, DroppedSchema, DroppedTable, Altered}

abbrev pub is_same : Kind → Kind → Bool
is_same kind k = is_eq (kind_cmp k kind)

-- the first of the sought kinds, in their order, that stands among these
abbrev pub first_same : List Kind → List Kind → Option Kind
first_same kinds [] = None
first_same kinds (k ∷ sought) = option_or (find (is_same k) kinds) (first_same kinds sought)

-- by sort, and then by the first name or the id
abbrev pub head_cmp : Kind → Kind → Ordering
head_cmp a b = then_by (nat_cmp (rank a) (rank b)) (slice_cmp nat_cmp (subject a).0 (subject b).0)

-- by sort alone
abbrev pub sort_cmp : Kind → Kind → Ordering
sort_cmp a b = nat_cmp (rank a) (rank b)

-- the created tables of a schema, whatever their names
abbrev pub to_tables_in : List ℕ → Kind → Ordering
to_tables_in schema k = head_cmp k (CreatedTable schema [])

abbrev pub is_table_in : List ℕ → Kind → Bool
is_table_in schema k = is_eq (to_tables_in schema k)

-- the dropped schemas, whatever their ids and names
abbrev pub to_dropped_schemas : Kind → Ordering
to_dropped_schemas k = sort_cmp k (DroppedSchema 0 [])

abbrev pub is_dropped_schema : Kind → Bool
is_dropped_schema k = is_eq (to_dropped_schemas k)

abbrev pub is_drop_of : List ℕ → Kind → Bool
is_drop_of name (DroppedSchema id dropped) = same_name dropped name
is_drop_of name k = false

-- ---- mine that conflict with what theirs does to a table

-- with a deletion or a compaction
abbrev pub rewriters : ℕ → List Kind
rewriters table = DeletedFrom table ∷ Compacted table ∷ []

-- with an alteration
abbrev pub writers : ℕ → List Kind
writers table = InsertedInto table ∷ DeletedFrom table ∷ Altered table ∷ []

-- with a drop
abbrev pub users : ℕ → List Kind
users table = InsertedInto table ∷ DeletedFrom table ∷ Compacted table ∷ DroppedTable table ∷ Altered table ∷ []
