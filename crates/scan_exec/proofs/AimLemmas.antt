-- The table that a statement names, by its schema and its name.
use Rattle.std.proofs.Common.{◌≡◌, ℕ, List, refl, ap, ◌∙◌}
use Rattle.std.specs.Prelude.{Option, Some, None, option_and_then, option_map}
use Rattle.std.specs.List.{AllByRecursion}
use Rattle.std.specs.Option.{option_or}
use Rattle.lake_types.specs.declared.pred.Pred.{Pred}
use Rattle.lake_types.specs.declared.stmt.TableName.{TableName}
use Rattle.lake_model.specs.Apply.{Draft, worked}
use Rattle.lake_model.specs.Growth.{IsGrowth}
use Rattle.lake_model.specs.Plans.{schema_named, table_named}
use Rattle.lake_model.specs.declared.answer.Answer.TheVariants as answer
use Rattle.lake_model.specs.declared.change.Change.{Change}
use Rattle.lake_model.specs.declared.change.Ref.{Ref}
use Rattle.cat_view.specs.Files.{Files}
use Rattle.cat_view.specs.Named.{NamedTable, NamedVersion, state_of}
use Rattle.scan_exec.specs.Finding.{made_table, old_named, old_table, schema_of}
use Rattle.scan_exec.specs.Refusals.{refusal, refusal_at, refusal_in, table_of}
use Rattle.scan_exec.proofs.WorkLemmas.{draft_of, schema_is, table_is}

-- the version's table by its schema's name
pub old_is : (v : NamedVersion) (own : List Change) (table : TableName) (schema : Ref) → schema_of own v.schemas table.schema ≡ Some schema
    → (x : Option NamedTable) → old_table own v.tables schema table.table ≡ x → old_named own v table ≡ x
old_is v own table schema found x is = ap (option_and_then (λ schema. old_table own v.tables schema table.table)) found ∙ is

module _ (files : Files) (next : ℕ) (v : NamedVersion) (own : List Change) (table : TableName) where
  pub no_schema : (names : Option (List (List ℕ))) (test : Option Pred) → schema_of own v.schemas table.schema ≡ None
      → refusal (worked (state_of files next v) own) table names test ≡ Some (answer.NoSchema table.schema)
  no_schema names test none =
      ap (refusal_in (worked (state_of files next v) own) table names test) (schema_is (state_of files next v) own table.schema ∙ none)

  module _ (grow : AllByRecursion IsGrowth own) (schema : Ref) (is_there : schema_of own v.schemas table.schema ≡ Some schema) where
    found : schema_named (worked (state_of files next v) own) table.schema ≡ Some schema
    found = schema_is (state_of files next v) own table.schema ∙ is_there

    both : table_named (worked (state_of files next v) own) schema table.table
        ≡ option_or (option_map (draft_of files own grow schema table.table) (old_table own v.tables schema table.table)) (made_table 0 own schema table.table)
    both = table_is files own grow schema table.table next v

    pub no_table : (names : Option (List (List ℕ))) (test : Option Pred) → old_table own v.tables schema table.table ≡ None → made_table 0 own schema table.table ≡ None
        → refusal (worked (state_of files next v) own) table names test ≡ Some (answer.NoTable table)
    no_table names test old made =
        let none_there : table_named (worked (state_of files next v) own) schema table.table ≡ None = both ∙ rw (old, made) refl in
        ap (refusal_in (worked (state_of files next v) own) table names test) found
        ∙ ap (refusal_at table names test) none_there

    pub is_old : (x : NamedTable) → old_table own v.tables schema table.table ≡ Some x
        → table_of (worked (state_of files next v) own) table ≡ Some (draft_of files own grow schema table.table x)
    is_old x old =
        ap (option_and_then (λ schema. table_named (worked (state_of files next v) own) schema table.table)) found ∙ both ∙ rw old refl

    pub is_made : (d : Draft) → old_table own v.tables schema table.table ≡ None → made_table 0 own schema table.table ≡ Some d
        → table_of (worked (state_of files next v) own) table ≡ Some d
    is_made d old made =
        ap (option_and_then (λ schema. table_named (worked (state_of files next v) own) schema table.table)) found ∙ both ∙ rw (old, made) refl
