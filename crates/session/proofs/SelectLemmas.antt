-- The selection of the plain lake, by the refusals and the rows of a scan.
use Rattle.std.proofs.Common.{◌≡◌, List, [], ◌∷◌, map, refl, sym, ◌∙◌, ap, rules}
use Rattle.std.specs.Prelude.{Option, Some, None, option_map}
use Rattle.lake_types.specs.Cells.{column_named}
use Rattle.lake_types.specs.declared.pred.Pred.{Pred}
use Rattle.lake_types.specs.declared.stmt.Item.{Item}
use Rattle.lake_types.specs.declared.stmt.Item.TheVariants as item
use Rattle.lake_types.specs.declared.stmt.TableName.{TableName}
use Rattle.lake_types.specs.declared.value.Column.{Column}
use Rattle.lake_model.specs.Apply.{Draft, Work}
use Rattle.lake_model.specs.Plans.{or_else, schema_named, table_named}
use Rattle.lake_model.specs.Rows.{TestFault, answer_to, column_fault, first_of, item_fault, select_fault, test_fault}
use Rattle.lake_model.specs.Step.{only, select_at, select_in, selection, shown}
use Rattle.lake_model.specs.declared.answer.Answer.{Answer}
use Rattle.lake_model.specs.declared.change.Ref.{Ref}
use Rattle.scan_exec.specs.Refusals.{items_of, refusal, refusal_at, refusal_in, table_of}
use Rattle.session.specs.Select.{names_of, names_read}

-- ---- row ids have no fault

fault_behind : (o : Option TestFault) (a b : List (Option TestFault)) → first_of a ≡ first_of b → first_of (o ∷ a) ≡ first_of (o ∷ b)
fault_behind None a b h = h
fault_behind (Some f) a b h = refl

faults_are : (columns : List Column) (items : List Item) → first_of (map (item_fault columns) (map item.Column (names_of items))) ≡ first_of (map (item_fault columns) items)
faults_are columns [] = refl
faults_are columns (item.RowId ∷ items) = faults_are columns items
faults_are columns (item.Column name ∷ items) =
    fault_behind (column_fault name (column_named columns name)) (map (item_fault columns) (map item.Column (names_of items))) (map (item_fault columns) items) (faults_are columns items)

select_faults : (d : Draft) (items : List Item) (test : Option Pred) → select_fault d (items_of (names_read items)) test ≡ select_fault d items test
select_faults d [] test = refl
select_faults d (i ∷ items) test = ap (λ (o : Option TestFault). or_else (option_map answer_to o) (test_fault d.columns test)) (faults_are d.columns (i ∷ items))

faultless : (o : Option TestFault) (more : Option Answer) → or_else (option_map answer_to o) more ≡ None → o ≡ None
faultless None more h = refl
faultless (Some f) more h = absurd (search (rules, h))

-- ---- what is refused

at_table : (table : TableName) (items : List Item) (test : Option Pred) (o : Option Draft) (a : Answer) → refusal_at table (names_read items) test o ≡ Some a → select_at table items test o ≡ only a
at_table table items test None a h = ap only (search (rules, h))
at_table table items test (Some d) a h = rw (sym (select_faults d items test) ∙ h) refl

in_schema : (w : Work) (table : TableName) (items : List Item) (test : Option Pred) (o : Option Ref) (a : Answer) → refusal_in w table (names_read items) test o ≡ Some a → select_in w table items test o ≡ only a
in_schema w table items test None a h = ap only (search (rules, h))
in_schema w table items test (Some schema) a h = at_table table items test (table_named w schema table.table) a h

pub refuses : (w : Work) (table : TableName) (items : List Item) (test : Option Pred) (a : Answer) → refusal w table (names_read items) test ≡ Some a → selection w table items test ≡ only a
refuses w table items test a h = in_schema w table items test (schema_named w table.schema) a h

-- ---- what is answered

-- the draft that a SELECT shows
pub record Shows (w : Work) (table : TableName) (items : List Item) (test : Option Pred) : Type 0 where
  pub draft : Draft
  pub is_there : table_of w table ≡ Some draft
  pub known : first_of (map (item_fault draft.columns) items) ≡ None
  pub selected : selection w table items test ≡ shown draft items test

shows_at : (w : Work) (table : TableName) (items : List Item) (test : Option Pred) (schema : Ref) → schema_named w table.schema ≡ Some schema
    → (o : Option Draft) → table_named w schema table.table ≡ o → refusal_at table (names_read items) test o ≡ None → Shows w table items test
shows_at w table items test schema e None f h = absurd (search (rules, h))
shows_at w table items test schema e (Some d) f h =
    let no : select_fault d items test ≡ None = sym (select_faults d items test) ∙ h in
    record {
      draft = d;
      is_there = rw e f;
      known = faultless (first_of (map (item_fault d.columns) items)) (test_fault d.columns test) no;
      selected = rw (e, f, no) refl;
    }

shows_in : (w : Work) (table : TableName) (items : List Item) (test : Option Pred) (o : Option Ref) → schema_named w table.schema ≡ o → refusal_in w table (names_read items) test o ≡ None → Shows w table items test
shows_in w table items test None e h = absurd (search (rules, h))
shows_in w table items test (Some schema) e h = shows_at w table items test schema e (table_named w schema table.table) refl h

pub shows : (w : Work) (table : TableName) (items : List Item) (test : Option Pred) → refusal w table (names_read items) test ≡ None → Shows w table items test
shows w table items test h = shows_in w table items test (schema_named w table.schema) refl h
