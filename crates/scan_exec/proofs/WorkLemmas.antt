-- What is found by name in a version with an own list in effect.
use Rattle.std.proofs.Common.{◌≡◌, ℕ, Bool, true, false, cond, List, [], ◌∷◌, map, refl, ap, ap₂, ◌∙◌}
use Rattle.std.specs.Prelude.{Option, Some, None, find, option_map}
use Rattle.std.specs.List.{AllByRecursion, cons_option, filter_map}
use Rattle.std.specs.Option.{option_or}
use Rattle.std.proofs.lemmas.List.Folds.{find-append}
use Rattle.lake_types.specs.declared.kind.SchemaName.{SchemaName}
use Rattle.lake_model.specs.Apply.{Draft, SchemaDraft, begun, drafted, drafted_schema, worked}
use Rattle.lake_model.specs.ByTable.{draft_after, made_from}
use Rattle.lake_model.specs.Clashes.{same_name}
use Rattle.lake_model.specs.Creations.{made_schemas}
use Rattle.lake_model.specs.Growth.{IsGrowth, with_own_rows}
use Rattle.lake_model.specs.Kinds.{drops_schema, drops_table}
use Rattle.lake_model.specs.Plans.{schema_named, table_named}
use Rattle.lake_model.specs.State.{State}
use Rattle.lake_model.specs.declared.change.Change.{Change}
use Rattle.lake_model.specs.declared.change.Ref.{Ref}
use Rattle.lake_model.specs.declared.change.Ref.TheVariants as ref
use Rattle.lake_model.proofs.ApplyLemmas.{by_table}
use Rattle.lake_model.proofs.CreationLemmas.{left_schemas, schemas-after}
use Rattle.lake_model.proofs.GrowthLemmas.{grows, made-tables}
use Rattle.cat_view.specs.Files.{Files}
use Rattle.cat_view.specs.Named.{NamedTable, NamedVersion, state_of, table_of}
use Rattle.scan_exec.specs.Finding.{is_draft, made_schema, made_table, old_schema, old_table, schema_of}

-- ---- schemas

abbrev has_name : List ℕ → SchemaDraft → Bool
has_name name s = same_name s.name name

either_map : {X Y : Type 0} (f : X → Y) (a b : Option X) → option_map f (option_or a b) ≡ option_or (option_map f a) (option_map f b)
either_map f None b = refl
either_map f (Some x) b = refl

old_schemas : (own : List Change) (name : List ℕ) (ss : List SchemaName)
    → option_map (λ (s : SchemaDraft). s.at) (find (has_name name) (left_schemas own (map drafted_schema ss))) ≡ old_schema own ss name
old_schemas own name [] = refl
old_schemas own name (s ∷ ss) = go (drops_schema own (ref.Old s.id)) refl (same_name s.name name) refl (old_schemas own name ss)
  where
    go : (t : Bool) → drops_schema own (ref.Old s.id) ≡ t → (b : Bool) → same_name s.name name ≡ b
        → option_map (λ (s : SchemaDraft). s.at) (find (has_name name) (left_schemas own (map drafted_schema ss))) ≡ old_schema own ss name
        → option_map (λ (s : SchemaDraft). s.at) (find (has_name name) (left_schemas own (map drafted_schema (s ∷ ss)))) ≡ old_schema own (s ∷ ss) name
    go true e true f more = rw (e, f) more
    go true e false f more = rw (e, f) more
    go false e true f more = rw (e, f) refl
    go false e false f more = rw (e, f) more

pub schema_is : (s : State) (own : List Change) (name : List ℕ) → schema_named (worked s own) name ≡ schema_of own s.schemas name
schema_is s own name =
    ap (λ l. option_map (λ (x : SchemaDraft). x.at) (find (has_name name) l)) (schemas-after own (begun s))
    ∙ ap (option_map (λ (x : SchemaDraft). x.at)) (find-append (has_name name) (left_schemas own (map drafted_schema s.schemas)) (made_schemas 0 own))
    ∙ either_map (λ (x : SchemaDraft). x.at) (find (has_name name) (left_schemas own (map drafted_schema s.schemas))) (find (has_name name) (made_schemas 0 own))
    ∙ ap (λ o. option_or o (made_schema 0 own name)) (old_schemas own name s.schemas)

-- ---- tables

module _ (files : Files) (own : List Change) (grow : AllByRecursion IsGrowth own) (schema : Ref) (name : List ℕ) where
  abbrev pub draft_of : NamedTable → Draft
  draft_of x = with_own_rows own (drafted (table_of files x))

  old_tables : (xs : List NamedTable) → find (is_draft schema name) (filter_map (draft_after own) (map drafted (map (table_of files) xs))) ≡ option_map draft_of (old_table own xs schema name)
  old_tables [] = refl
  old_tables (x ∷ xs) =
      ap (λ o. find (is_draft schema name) (cons_option o (filter_map (draft_after own) (map drafted (map (table_of files) xs))))) (grows own (drafted (table_of files x)) grow)
      ∙ go (drops_table own (ref.Old x.id)) refl (is_draft schema name (draft_of x)) refl (old_tables xs)
    where
      go : (t : Bool) → drops_table own (ref.Old x.id) ≡ t → (b : Bool) → is_draft schema name (draft_of x) ≡ b
          → find (is_draft schema name) (filter_map (draft_after own) (map drafted (map (table_of files) xs))) ≡ option_map draft_of (old_table own xs schema name)
          → find (is_draft schema name) (cons_option (cond (drops_table own (ref.Old x.id)) None (Some (draft_of x))) (filter_map (draft_after own) (map drafted (map (table_of files) xs))))
          ≡ option_map draft_of (old_table own (x ∷ xs) schema name)
      go true e true f more = rw (e, f) more
      go true e false f more = rw (e, f) more
      go false e true f more = rw (e, f) refl
      go false e false f more = rw (e, f) more

  pub table_is : (next : ℕ) (v : NamedVersion) → table_named (worked (state_of files next v) own) schema name
      ≡ option_or (option_map draft_of (old_table own v.tables schema name)) (made_table 0 own schema name)
  table_is next v =
      let base = state_of files next v in
      ap (find (is_draft schema name)) (by_table base own)
      ∙ find-append (is_draft schema name) (filter_map (draft_after own) (map drafted base.tables)) (made_from 0 own)
      ∙ ap₂ option_or (old_tables v.tables) (ap (find (is_draft schema name)) (made-tables 0 own grow))
