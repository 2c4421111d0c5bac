-- The refusals of a SELECT are those of its names and of its test.
use Rattle.std.proofs.Common.{◌≡◌, ℕ, List, [], ◌∷◌, refl, sym, ap, ◌∙◌}
use Rattle.std.specs.Prelude.{Option, Some, None, option_and_then, option_map}
use Rattle.std.proofs.lemmas.Option.{none-some}
use Rattle.std.proofs.lemmas.Simd.{map-map}
use Rattle.lake_types.specs.declared.pred.Pred.{Pred}
use Rattle.lake_types.specs.declared.stmt.Item.TheVariants as item
use Rattle.lake_types.specs.declared.stmt.TableName.{TableName}
use Rattle.lake_types.specs.declared.value.Column.{Column}
use Rattle.lake_model.specs.Apply.{Draft, Work}
use Rattle.lake_model.specs.Plans.{or_else, schema_named, table_named}
use Rattle.lake_model.specs.Rows.{TestFault, answer_to, fault_of_test, first_of, item_fault, select_fault}
use Rattle.lake_model.specs.declared.change.Ref.{Ref}
use Rattle.cat_view.specs.Files.{Files}
use Rattle.scan_exec.specs.Aims.{IsAimedAt}
use Rattle.scan_exec.specs.Picking.{fault_of, names_fault}
use Rattle.scan_exec.specs.Refusals.{items_of, refusal, refusal_at, refusal_in, table_of}
use Rattle.scan_exec.specs.declared.aim.Aim.{Aim}

first_answer : (names test : Option TestFault) → or_else (option_map answer_to names) (option_map answer_to test) ≡ option_map answer_to (first_of (names ∷ test ∷ []))
first_answer (Some x) test = refl
first_answer None (Some x) = refl
first_answer None None = refl

select_is : (d : Draft) (names : Option (List (List ℕ))) (test : Option Pred) → select_fault d (items_of names) test ≡ option_map answer_to (fault_of d.columns names test)
select_is d None test = first_answer None (fault_of_test d.columns test)
select_is d (Some names) test =
    ap (λ l. or_else (option_map answer_to (first_of l)) (option_map answer_to (fault_of_test d.columns test))) (map-map (item_fault d.columns) item.Column names)
    ∙ first_answer (names_fault d.columns names) (fault_of_test d.columns test)

pub refusal_is : (w : Work) (table : TableName) (names : Option (List (List ℕ))) (test : Option Pred) (d : Draft) → table_of w table ≡ Some d
    → refusal w table names test ≡ option_map answer_to (fault_of d.columns names test)
refusal_is w table names test d is_there = go (schema_named w table.schema) is_there
  where
    go : (s : Option Ref) → option_and_then (λ schema. table_named w schema table.table) s ≡ Some d
        → refusal_in w table names test s ≡ option_map answer_to (fault_of d.columns names test)
    go None h = absurd (none-some d h)
    go (Some schema) h = ap (refusal_at table names test) h ∙ select_is d names test

-- of the table that an aim is at
pub aimed_refusal : {F : Type 0} (name : F → List ℕ) (files : Files) (w : Work) (table : TableName) (a : Aim F) → IsAimedAt name files w table a
    → (columns : List Column) → columns ≡ a.columns → (names : Option (List (List ℕ))) (test : Option Pred)
    → refusal w table names test ≡ option_map answer_to (fault_of columns names test)
aimed_refusal name files w table a t columns same names test =
    refusal_is w table names test t.draft t.is_there ∙ ap (λ x. option_map answer_to (fault_of x names test)) (t.is.columns ∙ sym same)
