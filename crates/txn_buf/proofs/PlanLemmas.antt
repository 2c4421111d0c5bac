-- What is planned of a statement depends on schemas and tables, and not on rows.
use Rattle.std.proofs.Common.{◌≡◌, ℕ, List, [], ◌∷◌, map, refl, ap, ◌∙◌, Bool, true, false}
use Rattle.std.specs.Prelude.{◌&&◌, find, is_none, Option, Some, None, option_map}
use Rattle.std.specs.List.{list_any}
use Rattle.lake_types.specs.declared.stmt.Cell.{Cell}
use Rattle.lake_types.specs.declared.stmt.ColumnDef.{ColumnDef}
use Rattle.lake_types.specs.declared.stmt.TableName.{TableName}
use Rattle.lake_model.specs.Apply.{Draft, Work, is_ref}
use Rattle.lake_model.specs.Clashes.{same_name}
use Rattle.lake_model.specs.Plans.{Plan, Append, create_in, create_table, drop_schema, drop_table, has_tables, in_schema, of_draft, on_table, refused_if, schema_named, table_named, unless}
use Rattle.lake_model.specs.Rows.{draft_at, insert, insertion, rows_fault}
use Rattle.lake_model.specs.declared.answer.Answer.TheVariants as answer
use Rattle.lake_model.specs.declared.change.Change.TheVariants as change
use Rattle.lake_model.specs.declared.change.Ref.{Ref}
use Rattle.txn_buf.specs.Drafts.{bare, bare_draft}

any-bare : (schema : Ref) (ds : List Draft) → list_any (λ d. is_ref d.schema schema) (map bare_draft ds) ≡ list_any (λ d. is_ref d.schema schema) ds
any-bare schema [] = refl
any-bare schema (d ∷ ds) = rw (any-bare schema ds) refl

pub has_tables-bare : (w : Work) (schema : Ref) → has_tables (bare w) schema ≡ has_tables w schema
has_tables-bare w schema = any-bare schema w.tables

find-bare : (p : Draft → Bool) → ((d : Draft) → p (bare_draft d) ≡ p d) → (ds : List Draft) → find p (map bare_draft ds) ≡ option_map bare_draft (find p ds)
find-bare p same [] = refl
find-bare p same (d ∷ ds) = go (p d) refl (find-bare p same ds)
  where
    go : (b : Bool) → p d ≡ b → find p (map bare_draft ds) ≡ option_map bare_draft (find p ds) → find p (map bare_draft (d ∷ ds)) ≡ option_map bare_draft (find p (d ∷ ds))
    go true e more = rw (same d, e) refl
    go false e more = rw (same d, e) more

pub table-bare : (w : Work) (schema : Ref) (name : List ℕ) → table_named (bare w) schema name ≡ option_map bare_draft (table_named w schema name)
table-bare w schema name = find-bare (λ (d : Draft). is_ref d.schema schema && same_name d.name name) (λ d. refl) w.tables

pub draft_at-bare : (w : Work) (at : Ref) → draft_at (bare w) at ≡ option_map bare_draft (draft_at w at)
draft_at-bare w at = find-bare (λ (d : Draft). is_ref d.at at) (λ d. refl) w.tables

pub on_table-bare : (w : Work) (table : TableName) (plan : Draft → Plan) → ((d : Draft) → plan (bare_draft d) ≡ plan d) → on_table (bare w) table plan ≡ on_table w table plan
on_table-bare w table plan same = go (schema_named w table.schema)
  where
    found : (o : Option Draft) → of_draft table plan (option_map bare_draft o) ≡ of_draft table plan o
    found None = refl
    found (Some d) = same d

    go : (o : Option Ref) → in_schema table.schema (λ schema. of_draft table plan (table_named (bare w) schema table.table)) o
        ≡ in_schema table.schema (λ schema. of_draft table plan (table_named w schema table.table)) o
    go None = refl
    go (Some schema) = ap (of_draft table plan) (table-bare w schema table.table) ∙ found (table_named w schema table.table)

pub drop_table-alike : (w : Work) (table : TableName) → drop_table (bare w) table ≡ drop_table w table
drop_table-alike w table = on_table-bare w table (λ d. Append (change.DropTable d.at) answer.Done) (λ d. refl)

pub drop_schema-alike : (w : Work) (name : List ℕ) → drop_schema (bare w) name ≡ drop_schema w name
drop_schema-alike w name = go (schema_named w name)
  where
    go : (o : Option Ref) → in_schema name (λ schema. unless (refused_if (has_tables (bare w) schema) (answer.NotEmpty name)) (Append (change.DropSchema schema) answer.Done)) o
        ≡ in_schema name (λ schema. unless (refused_if (has_tables w schema) (answer.NotEmpty name)) (Append (change.DropSchema schema) answer.Done)) o
    go None = refl
    go (Some schema) = rw (has_tables-bare w schema) refl

none-bare : (o : Option Draft) → is_none (option_map bare_draft o) ≡ is_none o
none-bare None = refl
none-bare (Some d) = refl

pub create_table-alike : (w : Work) (table : TableName) (defs : List ColumnDef) → create_table (bare w) table defs ≡ create_table w table defs
create_table-alike w table defs = go (schema_named w table.schema)
  where
    go : (o : Option Ref) → in_schema table.schema (create_in (bare w) table defs) o ≡ in_schema table.schema (create_in w table defs) o
    go None = refl
    go (Some schema) = rw (table-bare w schema table.table, none-bare (table_named w schema table.table)) refl

insertion-bare : (d : Draft) (rows : List (List Cell)) → insertion (bare_draft d) rows ≡ insertion d rows
insertion-bare d [] = refl
insertion-bare d (row ∷ rows) = refl

pub insert-alike : (w : Work) (table : TableName) (rows : List (List Cell)) → insert (bare w) table rows ≡ insert w table rows
insert-alike w table rows =
    on_table-bare w table (λ d. unless (rows_fault d.columns rows) (insertion d rows)) (λ d. ap (unless (rows_fault d.columns rows)) (insertion-bare d rows))
