-- What a change makes of the schemas and tables that are seen.
use Rattle.std.proofs.Common.{◌≡◌, ℕ, ◌+◌, List, [], ◌∷◌, ◌++◌, map, filter, refl, sym, ap, ◌∙◌}
use Rattle.std.specs.Prelude.{not}
use Rattle.std.proofs.lemmas.List.{map-append}
use Rattle.lake_types.specs.declared.stmt.ColumnDef.{ColumnDef}
use Rattle.lake_model.specs.Apply.{Draft, SchemaDraft, changed, created, is_ref, with_table, without_schema, without_table}
use Rattle.lake_model.specs.Plans.{columns_from}
use Rattle.lake_model.specs.declared.change.Change.TheVariants as change
use Rattle.lake_model.specs.declared.change.Ref.{Ref}
use Rattle.lake_model.specs.declared.change.Ref.TheVariants as ref
use Rattle.lake_model.proofs.CreationLemmas.{filter-mapped}
use Rattle.lake_model.proofs.PlanLemmas.{columns-length, fields-are}
use Rattle.txn_buf.specs.Drafts.{bare, bare_draft, created_table, schema_draft, table_draft, table_drafts, work_of}
use Rattle.txn_buf.specs.declared.seen.Seen.{Seen}
use Rattle.txn_buf.specs.declared.seen.SeenTable.{SeenTable}

pub drafts-bare : (ts : List SeenTable) → map bare_draft (table_drafts ts) ≡ table_drafts ts
drafts-bare [] = refl
drafts-bare (t ∷ ts) = rw (drafts-bare ts) refl

pub schema_created : (old new : Seen) (name : List ℕ) → new.schemas.items ≡ old.schemas.items ++ record { at = ref.New old.created_schemas; name = name } ∷ []
    → new.tables.items ≡ old.tables.items → new.created_schemas ≡ old.created_schemas + 1 → new.created_tables ≡ old.created_tables
    → work_of new ≡ bare (changed (work_of old) (change.CreateSchema name))
schema_created old new name schemas tables count same =
    let more : map schema_draft new.schemas.items ≡ map schema_draft old.schemas.items ++ record { at = ref.New old.created_schemas; name = name } ∷ [] =
    ap (map schema_draft) schemas ∙ map-append schema_draft old.schemas.items (record { at = ref.New old.created_schemas; name = name } ∷ []) in
    rw (more, tables, count, same, drafts-bare old.tables.items) refl

pub schema-removed : (old new : Seen) (at : Ref) → new.schemas.items ≡ filter (λ s. not (is_ref s.at at)) old.schemas.items → new.tables.items ≡ old.tables.items
    → new.created_schemas ≡ old.created_schemas → new.created_tables ≡ old.created_tables → work_of new ≡ bare (without_schema (work_of old) at)
schema-removed old new at schemas tables count same =
    let left : map schema_draft new.schemas.items ≡ filter (λ (s : SchemaDraft). not (is_ref s.at at)) (map schema_draft old.schemas.items) =
    ap (map schema_draft) schemas ∙ filter-mapped schema_draft (λ (s : SchemaDraft). not (is_ref s.at at)) old.schemas.items in
    rw (left, tables, count, same, drafts-bare old.tables.items) refl

pub table-removed : (old new : Seen) (at : Ref) → new.tables.items ≡ filter (λ t. not (is_ref t.at at)) old.tables.items → new.schemas.items ≡ old.schemas.items
    → new.created_schemas ≡ old.created_schemas → new.created_tables ≡ old.created_tables → work_of new ≡ bare (without_table (work_of old) at)
table-removed old new at tables schemas count same =
    let bared : map bare_draft (filter (λ (d : Draft). not (is_ref d.at at)) (table_drafts old.tables.items)) ≡ table_drafts new.tables.items =
    ap (map bare_draft) (sym (filter-mapped table_draft (λ (d : Draft). not (is_ref d.at at)) old.tables.items)) ∙ ap (λ (ts : List SeenTable). map bare_draft (table_drafts ts)) (sym tables) ∙ drafts-bare new.tables.items in
    rw (bared, schemas, count, same) refl

pub table-created : (old new : Seen) (schema : Ref) (name : List ℕ) (defs : List ColumnDef) (kept : SeenTable)
    → kept ≡ created_table old.created_tables schema name defs
    → new.tables.items ≡ old.tables.items ++ kept ∷ [] → new.schemas.items ≡ old.schemas.items → new.created_tables ≡ old.created_tables + 1 → new.created_schemas ≡ old.created_schemas
    → work_of new ≡ bare (with_table (work_of old) schema name (columns_from 1 defs))
table-created old new schema name defs kept is tables schemas count same =
    let draft : table_draft kept ≡ created old.created_tables schema name (columns_from 1 defs) = rw (is, fields-are 1 defs, columns-length 1 defs) refl in
    let more : table_drafts new.tables.items ≡ table_drafts old.tables.items ++ created old.created_tables schema name (columns_from 1 defs) ∷ [] =
    ap table_drafts tables ∙ map-append table_draft old.tables.items (kept ∷ []) ∙ ap (λ (d : Draft). table_drafts old.tables.items ++ d ∷ []) draft in
    let bared : map bare_draft (table_drafts old.tables.items ++ created old.created_tables schema name (columns_from 1 defs) ∷ []) ≡ table_drafts new.tables.items =
    map-append bare_draft (table_drafts old.tables.items) (created old.created_tables schema name (columns_from 1 defs) ∷ [])
    ∙ ap (λ (ds : List Draft). ds ++ created old.created_tables schema name (columns_from 1 defs) ∷ []) (drafts-bare old.tables.items) ∙ sym more in
    rw (schemas, count, same, bared) refl
