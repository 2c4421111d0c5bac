-- How the table of a name is found, first among those of a version that an own list leaves, and then among those
-- that the list makes.
use Rattle.std.specs.Prelude.{◌&&◌, not, ℕ, Bool, List, find, Option, option_and_then, option_map}
use Rattle.std.specs.Option.{option_or}
use Rattle.std.specs.Str.{bytes_eq}
use Rattle.lake_types.specs.declared.kind.SchemaName.{SchemaName}
use Rattle.lake_types.specs.declared.stmt.TableName.{TableName}
use Rattle.lake_model.specs.Apply.{Draft, SchemaDraft, created, is_ref}
use Rattle.lake_model.specs.Clashes.{same_name}
use Rattle.lake_model.specs.Creations.{made_schemas}
use Rattle.lake_model.specs.Growth.{made_tables, with_own_rows}
use Rattle.lake_model.specs.Kinds.{drops_schema, drops_table}
use Rattle.lake_model.specs.declared.change.Change.{Change}
use Rattle.lake_model.specs.declared.change.Ref.{Ref}
use Rattle.lake_model.specs.declared.change.Ref.TheVariants as ref
use Rattle.cat_view.specs.Named.{NamedTable, NamedVersion}
use Rattle.scan_exec.specs.declared.finding.Made.{Made}

-- ---- schemas

abbrev pub is_schema : List Change → List ℕ → SchemaName → Bool
is_schema own name s = bytes_eq s.name name && not (drops_schema own (ref.Old s.id))

abbrev pub old_schema : List Change → List SchemaName → List ℕ → Option Ref
old_schema own schemas name = option_map (λ (s : SchemaName). ref.Old s.id) (find (is_schema own name) schemas)

-- the first of those that the list makes has this place
abbrev pub made_schema : ℕ → List Change → List ℕ → Option Ref
made_schema place own name = option_map (λ (s : SchemaDraft). s.at) (find (λ (s : SchemaDraft). same_name s.name name) (made_schemas place own))

abbrev pub schema_of : List Change → List SchemaName → List ℕ → Option Ref
schema_of own schemas name = option_or (old_schema own schemas name) (made_schema 0 own name)

-- ---- tables

abbrev pub is_table : List Change → Ref → List ℕ → NamedTable → Bool
is_table own schema name x = (is_ref (ref.Old x.schema) schema && bytes_eq x.name name) && not (drops_table own (ref.Old x.id))

abbrev pub old_table : List Change → List NamedTable → Ref → List ℕ → Option NamedTable
old_table own tables schema name = find (is_table own schema name) tables

-- the version's table that a statement names
abbrev pub old_named : List Change → NamedVersion → TableName → Option NamedTable
old_named own v table = option_and_then (λ schema. old_table own v.tables schema table.table) (schema_of own v.schemas table.schema)

abbrev pub is_draft : Ref → List ℕ → Draft → Bool
is_draft schema name d = is_ref d.schema schema && same_name d.name name

abbrev pub made_table : ℕ → List Change → Ref → List ℕ → Option Draft
made_table place own schema name = find (is_draft schema name) (made_tables place own)

-- what the list makes of one of them
abbrev pub made_draft : Made → Draft
made_draft m = with_own_rows m.own.now (created m.place m.schema m.name.now m.columns.now)
