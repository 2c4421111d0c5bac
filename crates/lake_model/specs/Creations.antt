-- What a list creates and doesn't drop again.
use Rattle.std.specs.Prelude.{ℕ, ◌+◌, List, [], ◌∷◌, if◌then◌else◌}
use Rattle.lake_model.specs.Apply.{Creation, NewSchema, NewTable, SchemaDraft}
use Rattle.lake_model.specs.Kinds.{drops_schema, drops_table}
use Rattle.lake_model.specs.declared.change.Change.{Change}
use Rattle.lake_model.specs.declared.change.Change.TheVariants as change
use Rattle.lake_model.specs.declared.change.Ref.TheVariants as ref

-- the schemas, the first of which has this place among the list's creations of schemas
abbrev pub made_schemas : ℕ → List Change → List SchemaDraft
made_schemas m [] = []
made_schemas m (change.CreateSchema name ∷ own) =
    if drops_schema own (ref.New m) then made_schemas (m + 1) own else record { at = ref.New m; name = name } ∷ made_schemas (m + 1) own
made_schemas m (c ∷ own) = made_schemas m own

-- schemas and tables in order of creation, the first of each from these places on
abbrev pub creations : ℕ → ℕ → List Change → List Creation
creations m n [] = []
creations m n (change.CreateSchema name ∷ own) =
    if drops_schema own (ref.New m) then creations (m + 1) n own else NewSchema m ∷ creations (m + 1) n own
creations m n (change.CreateTable schema name columns ∷ own) =
    if drops_table own (ref.New n) then creations m (n + 1) own else NewTable n ∷ creations m (n + 1) own
creations m n (c ∷ own) = creations m n own
