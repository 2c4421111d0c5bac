-- The kinds of change that a snapshot made: their order, and their spelling, which is its changes text.
use Rattle.std.specs.Prelude.{◌≡◌, ℕ, ◌<◌, ◌^◌, ◌==◌, List, [], ◌∷◌, ◌++◌, codes, map, find, decimal, Option, Some, option_map}
use Rattle.std.specs.List.{AllByRecursion, join_with_byte}
use Rattle.std.specs.declared.cmp.Ordering.{Ordering}
use Rattle.std.specs.declared.cmp.Ordering.TheVariants.{Less, Equal}
use Rattle.std.specs.Ordering.{nat_cmp}
use Rattle.std.specs.Cmp.Lexicographic.{slice_cmp}
use Rattle.lake_types.specs.declared.kind.Kind.{Kind}
use Rattle.lake_types.specs.declared.kind.Kind.TheVariants as kind
use Rattle.lake_types.specs.declared.kind.SchemaName.{SchemaName}
use Rattle.lake_types.specs.Texts.{quoted}

-- a schema or table that is created is named, since it has no id yet; all others stand by their ids
abbrev pub kind_text : Kind → List ℕ
kind_text (kind.CreatedSchema name) = codes "created_schema:" ++ quoted name
kind_text (kind.CreatedTable schema name) = codes "created_table:" ++ (quoted schema ++ 46 ∷ quoted name)
kind_text (kind.InsertedInto table) = codes "inserted_into_table:" ++ decimal table
kind_text (kind.DeletedFrom table) = codes "deleted_from_table:" ++ decimal table
kind_text (kind.Compacted table) = codes "compacted_table:" ++ decimal table
kind_text (kind.DroppedSchema id name) = codes "dropped_schema:" ++ decimal id
kind_text (kind.DroppedTable table) = codes "dropped_table:" ++ decimal table
kind_text (kind.Altered table) = codes "altered_table:" ++ decimal table

-- joined by commas
abbrev pub changes_text : List Kind → List ℕ
changes_text kinds = join_with_byte 44 (map kind_text kinds)

-- the place of a kind's sort
abbrev pub rank : Kind → ℕ
rank (kind.CreatedSchema name) = 0
rank (kind.CreatedTable schema name) = 1
rank (kind.InsertedInto table) = 2
rank (kind.DeletedFrom table) = 3
rank (kind.Compacted table) = 4
rank (kind.DroppedSchema id name) = 5
rank (kind.DroppedTable table) = 6
rank (kind.Altered table) = 7

-- what a kind is of: its id, or its names
abbrev pub subject : Kind → List ℕ × List ℕ
subject (kind.CreatedSchema name) = (name, [])
subject (kind.CreatedTable schema name) = (schema, name)
subject (kind.InsertedInto table) = (table ∷ [], [])
subject (kind.DeletedFrom table) = (table ∷ [], [])
subject (kind.Compacted table) = (table ∷ [], [])
subject (kind.DroppedSchema id name) = (id ∷ [], [])
subject (kind.DroppedTable table) = (table ∷ [], [])
subject (kind.Altered table) = (table ∷ [], [])

-- the first comparison that is not equal decides
abbrev pub then_by : Ordering → Ordering → Ordering
then_by Equal later = later
then_by first later = first

-- by sort, then by id or by the bytes of the names
abbrev pub kind_cmp : Kind → Kind → Ordering
kind_cmp a b =
    then_by (nat_cmp (rank a) (rank b))
    (then_by (slice_cmp nat_cmp (subject a).0 (subject b).0) (slice_cmp nat_cmp (subject a).1 (subject b).1))

-- each kind stands once, in this order
abbrev pub AreInOrder : List Kind → Type 0
AreInOrder [] = Unit {0}
AreInOrder (k ∷ []) = Unit {0}
AreInOrder (k ∷ l ∷ kinds) = (kind_cmp k l ≡ Less) × AreInOrder (l ∷ kinds)

-- ---- what a text says

-- an id is a number of 64 bits
abbrev pub HasId : Kind → Type 0
HasId (kind.CreatedSchema name) = Unit {0}
HasId (kind.CreatedTable schema name) = Unit {0}
HasId (kind.InsertedInto table) = table < 2 ^ 64
HasId (kind.DeletedFrom table) = table < 2 ^ 64
HasId (kind.Compacted table) = table < 2 ^ 64
HasId (kind.DroppedSchema id name) = id < 2 ^ 64
HasId (kind.DroppedTable table) = table < 2 ^ 64
HasId (kind.Altered table) = table < 2 ^ 64

-- the text is that of these kinds, which stand in order, each once. The name of a dropped schema isn't in it.
pub record Says (text : List ℕ) (kinds : List Kind) : Type 0 where
  pub in_order : AreInOrder kinds
  pub ids : AllByRecursion HasId kinds
  pub spelled : changes_text kinds ≡ text

-- the name that a list has for a schema's id, the first one where it has more
abbrev pub name_of : List SchemaName → ℕ → Option (List ℕ)
name_of schemas id = option_map (λ schema. schema.name) (find (λ schema. schema.id == id) schemas)

-- a dropped schema has the name that is found for its id
abbrev pub IsNamed : (ℕ → Option (List ℕ)) → Kind → Type 0
IsNamed found (kind.DroppedSchema id name) = found id ≡ Some name
IsNamed found k = Unit {0}

abbrev pub AreNamed : List SchemaName → List Kind → Type 0
AreNamed schemas kinds = AllByRecursion (IsNamed (name_of schemas)) kinds

-- the text is that of these kinds, and the dropped schemas among them have the names of the list
pub record SaysWith (schemas : List SchemaName) (text : List ℕ) (kinds : List Kind) : Type 0 where
  pub says : Says text kinds
  pub named : AreNamed schemas kinds
