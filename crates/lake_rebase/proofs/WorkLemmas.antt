-- A list that a transaction may have leaves what it works on tidy.
use Rattle.std.proofs.Common.{◌≡◌, ◌≢◌, ◌≤◌, ◌+◌, ◌⊎◌, ◌&&◌, append_assoc, ℕ, Bool, true, false, not, List, [], ◌∷◌, ◌++◌, length, map, filter, Some, None, Option, is_none, find, refl, sym, ap, subst, ◌∙◌, inl, inr, arith}
use Rattle.std.specs.Prelude.{nat_lt}
use Rattle.std.proofs.lemmas.List.{append-nil}
use Rattle.std.specs.List.{AllByRecursion, list_any}
use Rattle.std.specs.Option.{option_map}
use Rattle.std.proofs.lemmas.Bool.{not-false}
use Rattle.lake_types.specs.Cells.{column_named}
use Rattle.lake_types.specs.Fits.{fits}
use Rattle.lake_types.specs.declared.limits.TheConstants.{MAX_COLUMNS}
use Rattle.lake_types.specs.declared.stmt.Alter.{Alter}
use Rattle.lake_types.specs.declared.stmt.Alter.TheVariants as alter
use Rattle.lake_types.specs.declared.stmt.ColumnDef.{ColumnDef}
use Rattle.lake_types.specs.declared.stmt.Stmt.{Stmt}
use Rattle.lake_types.specs.declared.stmt.Stmt.TheVariants as stmt
use Rattle.lake_types.specs.declared.stmt.TableName.{TableName}
use Rattle.lake_types.specs.declared.value.Column.{Column}
use Rattle.lake_model.specs.Apply.{Cells, Draft, SchemaDraft, Work, at_table, begun, changed, created, drafted, drafted_schema, fields_from, is_ref, with_rows, worked}
use Rattle.lake_model.specs.Clashes.{same_name}
use Rattle.lake_model.specs.Fits.{Fits, FitsFrom, IsAllowed, IsColumn, IsSized}
use Rattle.lake_model.specs.Growth.{IsGrowth}
use Rattle.lake_model.specs.Plans as p
use Rattle.lake_model.specs.Plans.{Append, Leave, Plan, Refuse, columns_from, column_of, default_of, new_column_fault, new_columns_fault, or_else, refused_if, schema_named, table_named, unless}
use Rattle.lake_model.specs.Rows as r
use Rattle.lake_model.specs.State.{State, Table}
use Rattle.lake_model.specs.Step as s
use Rattle.lake_model.specs.declared.answer.Answer.{Answer}
use Rattle.lake_model.specs.declared.change.Change.{Change}
use Rattle.lake_model.specs.declared.change.Change.TheVariants as change
use Rattle.lake_model.specs.declared.change.Ref.{Ref}
use Rattle.lake_model.specs.declared.change.Ref.TheVariants as ref
use Rattle.lake_model.proofs.FieldLemmas.{worked-more}
use Rattle.lake_model.proofs.PlanLemmas as plan
use Rattle.lake_model.proofs.PlanLemmas.{columns-length, fields-are, first_none, not_refused}
use Rattle.lake_model.proofs.RefLemmas.{ref-is, ref-same}
use Rattle.lake_rebase.specs.Tidy.{AreTidyColumns, IsTidy, IsTidyColumn}
use Rattle.lake_rebase.proofs.MemberLemmas.{In, all_by, all_in, found_in, in_cases, in_kept, in_left, in_map, in_of, is_same, kept_in, map_in, none_in, of_in}

-- ---- tidy work

pub record HasHome (w : Work) (schema : Ref) : Type 0 where
  pub draft : SchemaDraft
  pub there : In draft w.schemas
  pub at_is : draft.at ≡ schema

pub record TidyWork (w : Work) : Type 0 where
  pub schema_names : (x y : SchemaDraft) → In x w.schemas → In y w.schemas → x.name ≡ y.name → x.at ≡ y.at
  pub homes : (d : Draft) → In d w.tables → HasHome w d.schema
  pub table_names : (d e : Draft) → In d w.tables → In e w.tables → d.schema ≡ e.schema → d.name ≡ e.name → d.at ≡ e.at
  pub columns : AllByRecursion (λ (d : Draft). AreTidyColumns d.columns) w.tables

-- ---- what a statement's change is

abbrev pub Unused : Work → Ref → List ℕ → Type 0
Unused w schema name = (d : Draft) → In d w.tables → d.schema ≡ schema → d.name ≡ name → ⊥

pub record HasTable (w : Work) (table : Ref) : Type 0 where
  pub draft : Draft
  pub there : In draft w.tables
  pub at_is : draft.at ≡ table

abbrev pub Allowed : Work → Change → Type 0
Allowed w (change.CreateSchema name) = (x : SchemaDraft) → In x w.schemas → x.name ≡ name → ⊥
Allowed w (change.DropSchema at) = HasHome w at × ((d : Draft) → In d w.tables → d.schema ≡ at → ⊥)
Allowed w (change.DropTable at) = HasTable w at
Allowed w (change.CreateTable schema name columns) = HasHome w schema × Unused w schema name × (IsSized (change.CreateTable schema name columns) → AreTidyColumns (fields_from 1 columns))
Allowed w c = Unit {0}

given : (K : Change → Type 0) (f : Option Answer) (q : Plan) → (f ≡ None → plan.Holds K q) → plan.Holds K (unless f q)
given K None q h = h refl
given K (Some a) q h = plan.refuses K a

mapped_none : {X Y : Type 0} (f : X → Y) (o : Option X) → not (is_none (option_map f o)) ≡ false → o ≡ None
mapped_none f None e = refl
mapped_none f (Some x) e = absurd cc

is-none : {X : Type 0} (o : Option X) → not (is_none o) ≡ false → o ≡ None
is-none None e = refl
is-none (Some x) e = absurd cc

no_table : (w : Work) (schema : Ref) (name : List ℕ) → table_named w schema name ≡ None → Unused w schema name
no_table w schema name e d there same named =
    let no = none_in (λ (d : Draft). is_ref d.schema schema && same_name d.name name) d w.tables e there in
    let yes : (is_ref d.schema schema && same_name d.name name) ≡ true = rw (ref-is d.schema schema same, is_same d.name name named) refl in
    absurd (let both : true ≡ false = sym yes ∙ no in cc)

has_home : (w : Work) (name : List ℕ) (at : Ref) → schema_named w name ≡ Some at → HasHome w at
has_home w name at e = go (find (λ (x : SchemaDraft). same_name x.name name) w.schemas) refl
  where
    go : (o : Option SchemaDraft) → find (λ (x : SchemaDraft). same_name x.name name) w.schemas ≡ o → HasHome w at
    go None none = let no : None ≡ Some at = rw none at e in absurd cc
    go (Some x) found =
        let some : Some x.at ≡ Some at = rw found at e in
        record { draft = x; there = (found_in (λ (x : SchemaDraft). same_name x.name name) x w.schemas found).0; at_is = cc }

empty_schema : (w : Work) (at : Ref) (ds : List Draft) → list_any (λ (d : Draft). is_ref d.schema at) ds ≡ false → (d : Draft) → In d ds → d.schema ≡ at → ⊥
empty_schema w at [] e d there same = absurd there
empty_schema w at (x ∷ ds) e d there same = go (is_ref x.schema at) refl (empty_schema w at ds) there
  where
    go : (b : Bool) → is_ref x.schema at ≡ b → (list_any (λ (d : Draft). is_ref d.schema at) ds ≡ false → (d : Draft) → In d ds → d.schema ≡ at → ⊥) → In d (x ∷ ds) → ⊥
    go true is more there = let any : true ≡ false = rw is at e in cc
    go false is more (inl here) = let yes : is_ref x.schema at ≡ true = ref-is x.schema at (ap (λ (d : Draft). d.schema) here ∙ same) in let both : true ≡ false = sym yes ∙ is in cc
    go false is more (inr later) = more (rw is at e) d later same

-- ---- the columns of a created table

record IsFaultless (before : List ColumnDef) (def : ColumnDef) (defs : List ColumnDef) : Type 0 where
  name : list_any (λ (b : ColumnDef). same_name b.name def.name) before ≡ false
  fitting : fits (default_of def) def.ty ≡ true
  rest : new_columns_fault (def ∷ before) defs ≡ None

faultless : (before : List ColumnDef) (def : ColumnDef) (defs : List ColumnDef) → new_columns_fault before (def ∷ defs) ≡ None → IsFaultless before def defs
faultless before def defs e =
    let one = first_none (new_column_fault before def) (new_columns_fault (def ∷ before) defs) e in
    let used = first_none (refused_if (list_any (λ (b : ColumnDef). same_name b.name def.name) before) _) _ one.0 in
    let wrong = first_none (refused_if (not (fits (default_of def) def.ty)) _) _ used.1 in
    record { name = not_refused _ _ used.0; fitting = not-false _ (not_refused _ _ wrong.0); rest = one.1 }

none-alike : (name : List ℕ) (before : List ColumnDef) → list_any (λ (b : ColumnDef). same_name b.name name) before ≡ false → (b : ColumnDef) → In b before → b.name ≡ name → ⊥
none-alike name [] e b there same = absurd there
none-alike name (x ∷ before) e b there same = go (same_name x.name name) refl (none-alike name before) there
  where
    go : (t : Bool) → same_name x.name name ≡ t → (list_any (λ (b : ColumnDef). same_name b.name name) before ≡ false → (b : ColumnDef) → In b before → b.name ≡ name → ⊥) → In b (x ∷ before) → ⊥
    go true is more there = let any : true ≡ false = rw is at e in cc
    go false is more (inl here) = let yes : same_name x.name name ≡ true = is_same x.name name (ap (λ (d : ColumnDef). d.name) here ∙ same) in let both : true ≡ false = sym yes ∙ is in cc
    go false is more (inr later) = more (rw is at e) b later same

apart-from : (k : ℕ) (before defs : List ColumnDef) → new_columns_fault before defs ≡ None → (b : ColumnDef) → In b before → (c : Column) → In c (columns_from k defs) → b.name ≡ c.name → ⊥
apart-from k before [] e b there c later same = absurd later
apart-from k before (def ∷ defs) e b there c (inl here) same = none-alike def.name before (faultless before def defs e).name b there (same ∙ ap (λ (c : Column). c.name) (sym here))
apart-from k before (def ∷ defs) e b there c (inr later) same = apart-from (k + 1) (def ∷ before) defs (faultless before def defs e).rest b (inr there) c later same

names-apart : (k : ℕ) (before defs : List ColumnDef) → new_columns_fault before defs ≡ None → (c d : Column) → In c (columns_from k defs) → In d (columns_from k defs) → c.name ≡ d.name → c.field ≡ d.field
names-apart k before [] e c d one other same = absurd one
names-apart k before (def ∷ defs) e c d (inl one) (inl other) same = ap (λ (c : Column). c.field) (sym one ∙ other)
names-apart k before (def ∷ defs) e c d (inl one) (inr other) same =
    absurd (apart-from (k + 1) (def ∷ before) defs (faultless before def defs e).rest def (inl refl) d other (ap (λ (c : Column). c.name) one ∙ same))
names-apart k before (def ∷ defs) e c d (inr one) (inl other) same =
    absurd (apart-from (k + 1) (def ∷ before) defs (faultless before def defs e).rest def (inl refl) c one (ap (λ (c : Column). c.name) other ∙ sym same))
names-apart k before (def ∷ defs) e c d (inr one) (inr other) same = names-apart (k + 1) (def ∷ before) defs (faultless before def defs e).rest c d one other same

each-tidy : (k : ℕ) (before defs : List ColumnDef) → new_columns_fault before defs ≡ None → AllByRecursion IsColumn (columns_from k defs) → AllByRecursion IsTidyColumn (columns_from k defs)
each-tidy k before [] e sized = tt
each-tidy k before (def ∷ defs) e sized =
    let f = faultless before def defs e in
    (record { sizes = sized.0; initial = f.fitting; default_value = f.fitting }, each-tidy (k + 1) (def ∷ before) defs f.rest sized.1)

not_empty : {X : Type 0} (xs : List X) → xs ≢ [] → 1 ≤ length xs
not_empty [] some = absurd (some refl)
not_empty (x ∷ xs) some = omega arith

created-tidy : (schema : Ref) (name : List ℕ) (defs : List ColumnDef) → new_columns_fault [] defs ≡ None → nat_lt MAX_COLUMNS (length defs) ≡ false
    → IsSized (change.CreateTable schema name (columns_from 1 defs)) → AreTidyColumns (fields_from 1 (columns_from 1 defs))
created-tidy schema name defs e few sized =
    subst AreTidyColumns (sym (fields-are 1 defs)) record {
      some = not_empty (columns_from 1 defs) sized.1;
      few = let long = columns-length 1 defs in grind (arith, few, long);
      names = λ c d one other. names-apart 1 [] defs e c d (in_of c (columns_from 1 defs) one) (in_of d (columns_from 1 defs) other);
      each = each-tidy 1 [] defs e sized.2;
    }

-- ---- every statement's plan

creates : (w : Work) (table : TableName) (defs : List ColumnDef) (schema : Ref) → HasHome w schema → plan.Holds (Allowed w) (p.create_in w table defs schema)
creates w table defs schema home =
    given (Allowed w) _ _ (λ none.
    let used = first_none (refused_if (not (is_none (table_named w schema table.table))) _) _ none in
    let many = first_none (refused_if (nat_lt MAX_COLUMNS (length defs)) _) _ used.1 in
    plan.appends (Allowed w) _ _ (home, no_table w schema table.table (is-none _ (not_refused _ _ used.0)), created-tidy schema table.table defs many.1 (not_refused _ _ many.0)))

alters : (next : ℕ) (w : Work) (x : Alter) (table : TableName) → plan.Holds (Allowed w) (p.alter_table next w table x)
alters next w (alter.Add def) table = plan.on_table-holds (Allowed w) w table _ (λ at d found. plan.unless-holds (Allowed w) _ _ (plan.appends (Allowed w) _ _ tt))
alters next w (alter.Remove name) table = plan.on_table-holds (Allowed w) w table _ (λ at d found. plan.of_column-holds (Allowed w) name _ (column_named d.columns name) (λ c. plan.unless-holds (Allowed w) _ _ (plan.appends (Allowed w) _ _ tt)))
alters next w (alter.Rename name to) table = plan.on_table-holds (Allowed w) w table _ (λ at d found. plan.of_column-holds (Allowed w) name _ (column_named d.columns name) (λ c. plan.unless-holds (Allowed w) _ _ (plan.appends (Allowed w) _ _ tt)))
alters next w (alter.Promote name ty) table = plan.on_table-holds (Allowed w) w table _ (λ at d found. plan.of_column-holds (Allowed w) name _ (column_named d.columns name) (λ c. plan.unless-holds (Allowed w) _ _ (plan.appends (Allowed w) _ _ tt)))
alters next w (alter.SetDefault name v) table = plan.on_table-holds (Allowed w) w table _ (λ at d found. plan.of_column-holds (Allowed w) name _ (column_named d.columns name) (λ c. plan.unless-holds (Allowed w) _ _ (plan.appends (Allowed w) _ _ tt)))

inserts : (w : Work) (d : Draft) (rows : List _) → plan.Holds (Allowed w) (r.insertion d rows)
inserts w d [] = plan.leaves (Allowed w) _
inserts w d (row ∷ rows) = plan.appends (Allowed w) _ _ tt

deletes : (w : Work) (d : Draft) (rows : List _) → plan.Holds (Allowed w) (r.deletion d rows)
deletes w d [] = plan.leaves (Allowed w) _
deletes w d (row ∷ rows) = plan.appends (Allowed w) _ _ tt

updates : (w : Work) (d : Draft) (set : Cells) (rows : List _) → plan.Holds (Allowed w) (r.updating d set rows)
updates w d set [] = plan.leaves (Allowed w) _
updates w d set (row ∷ rows) = plan.appends (Allowed w) _ _ tt

plans : (next : ℕ) (w : Work) (x : Stmt) → plan.Holds (Allowed w) (s.plan_in next w x)
plans next w (stmt.CreateSchema name) =
    given (Allowed w) _ _ (λ none. plan.appends (Allowed w) _ _ (λ x there same.
    let no = none_in (λ (y : SchemaDraft). same_name y.name name) x w.schemas (mapped_none _ _ (not_refused _ _ none)) there in
    let both : true ≡ false = sym (is_same x.name name same) ∙ no in cc))
plans next w (stmt.DropSchema name) =
    plan.in_schema-holds (Allowed w) name _ (schema_named w name) (λ at named. given (Allowed w) _ _ (λ none. plan.appends (Allowed w) _ _ (has_home w name at named, empty_schema w at w.tables (not_refused _ _ none))))
plans next w (stmt.CreateTable table columns) =
    plan.in_schema-holds (Allowed w) table.schema _ (schema_named w table.schema) (λ at named. creates w table columns at (has_home w table.schema at named))
plans next w (stmt.DropTable table) =
    plan.on_table-holds (Allowed w) w table _ (λ at d found. plan.appends (Allowed w) _ _ record { draft = d; there = (found_in _ d w.tables found).0; at_is = refl })
plans next w (stmt.Change table x) = alters next w x table
plans next w (stmt.Insert table rows) = plan.on_table-holds (Allowed w) w table _ (λ at d found. plan.unless-holds (Allowed w) _ _ (inserts w d rows))
plans next w (stmt.Delete table test) = plan.on_table-holds (Allowed w) w table _ (λ at d found. plan.unless-holds (Allowed w) _ _ (deletes w d _))
plans next w (stmt.Update table set test) = plan.on_table-holds (Allowed w) w table _ (λ at d found. plan.unless-holds (Allowed w) _ _ (updates w d _ _))
plans next w (stmt.Compact table) = plan.on_table-holds (Allowed w) w table _ (λ at d found. plan.appends (Allowed w) _ _ tt)
plans next w (stmt.Flush table) = plan.on_table-holds (Allowed w) w table _ (λ at d found. plan.appends (Allowed w) _ _ tt)
plans next w x = plan.leaves (Allowed w) _

pub allowed : (base : State) (before : List Change) (c : Change) → IsGrowth c → IsAllowed base before c → Allowed (worked base before) c
allowed base before (change.Delete table rows) grows h = tt
allowed base before (change.Update table rows set) grows h = tt
allowed base before c grows h =
    plan.appended-holds (Allowed (worked base before)) _ c h.answer h.plan_is (plan.plan_of-holds (Allowed (worked base before)) base before h.stmt (plans base.next_catalog (worked base before) h.stmt))

-- ---- each change leaves the work tidy

-- a table with the same place, name and columns
record IsLike (d e : Draft) : Type 0 where
  at : e.at ≡ d.at
  schema : e.schema ≡ d.schema
  name : e.name ≡ d.name
  columns : e.columns ≡ d.columns

with_rows-like : (table : Ref) (rows : List Cells) (d : Draft) → IsLike d (at_table table (with_rows rows) d)
with_rows-like table rows d = go (is_ref d.at table) refl
  where
    go : (b : Bool) → is_ref d.at table ≡ b → IsLike d (at_table table (with_rows rows) d)
    go true e = rw e record { at = refl; schema = refl; name = refl; columns = refl }
    go false e = rw e record { at = refl; schema = refl; name = refl; columns = refl }

all_alike : (f : Draft → Draft) (like : (d : Draft) → IsLike d (f d)) (ds : List Draft) → AllByRecursion (λ (d : Draft). AreTidyColumns d.columns) ds
    → AllByRecursion (λ (d : Draft). AreTidyColumns d.columns) (map f ds)
all_alike f like [] all = tt
all_alike f like (d ∷ ds) all = (subst AreTidyColumns (sym (like d).columns) all.0, all_alike f like ds all.1)

all_left : (q : Draft → Bool) (ds : List Draft) → AllByRecursion (λ (d : Draft). AreTidyColumns d.columns) ds → AllByRecursion (λ (d : Draft). AreTidyColumns d.columns) (filter q ds)
all_left q ds all = all_by (λ (d : Draft). AreTidyColumns d.columns) (filter q ds) (λ d there. all_in (λ (d : Draft). AreTidyColumns d.columns) d ds all (in_kept q d ds there).0)

all_both : (ds es : List Draft) → AllByRecursion (λ (d : Draft). AreTidyColumns d.columns) ds → AllByRecursion (λ (d : Draft). AreTidyColumns d.columns) es
    → AllByRecursion (λ (d : Draft). AreTidyColumns d.columns) (ds ++ es)
all_both [] es one two = two
all_both (d ∷ ds) es one two = (one.0, all_both ds es one.1 two)

tidy-mapped : (f : Draft → Draft) (like : (d : Draft) → IsLike d (f d)) (w : Work) → TidyWork w → TidyWork (record w { tables = map f w.tables })
tidy-mapped f like w t = record {
  schema_names = t.schema_names;
  homes = λ d there.
      let m = in_map f d w.tables there in
      let h = t.homes m.of m.there in
      record { draft = h.draft; there = h.there; at_is = h.at_is ∙ sym (like m.of).schema ∙ ap (λ (d : Draft). d.schema) m.is };
  table_names = λ d e one other same named.
      let m = in_map f d w.tables one in
      let n = in_map f e w.tables other in
      let schemas : m.of.schema ≡ n.of.schema = sym (like m.of).schema ∙ ap (λ (d : Draft). d.schema) m.is ∙ same ∙ sym (ap (λ (d : Draft). d.schema) n.is) ∙ (like n.of).schema in
      let names : m.of.name ≡ n.of.name = sym (like m.of).name ∙ ap (λ (d : Draft). d.name) m.is ∙ named ∙ sym (ap (λ (d : Draft). d.name) n.is) ∙ (like n.of).name in
      sym (ap (λ (d : Draft). d.at) m.is) ∙ (like m.of).at ∙ t.table_names m.of n.of m.there n.there schemas names ∙ sym (like n.of).at ∙ ap (λ (d : Draft). d.at) n.is;
  columns = all_alike f like w.tables t.columns;
}

tidy-with_schema : (w : Work) (name : List ℕ) → TidyWork w → Allowed w (change.CreateSchema name) → TidyWork (changed w (change.CreateSchema name))
tidy-with_schema w name t new = record {
  schema_names = λ x y one other same. go x y (in_cases x w.schemas (made ∷ []) one) (in_cases y w.schemas (made ∷ []) other) same;
  homes = λ d there. let h = t.homes d there in record { draft = h.draft; there = in_left h.draft w.schemas (made ∷ []) h.there; at_is = h.at_is };
  table_names = t.table_names;
  columns = t.columns;
}
  where
    made : SchemaDraft
    made = record { at = ref.New w.created_schemas; name = name }

    alone : (x : SchemaDraft) → In x (made ∷ []) → made ≡ x
    alone x (inl is) = is
    alone x (inr later) = absurd later

    go : (x y : SchemaDraft) → In x w.schemas ⊎ In x (made ∷ []) → In y w.schemas ⊎ In y (made ∷ []) → x.name ≡ y.name → x.at ≡ y.at
    go x y (inl one) (inl other) same = t.schema_names x y one other same
    go x y (inl one) (inr other) same = absurd (new x one (same ∙ sym (ap (λ (s : SchemaDraft). s.name) (alone y other))))
    go x y (inr one) (inl other) same = absurd (new y other (sym same ∙ sym (ap (λ (s : SchemaDraft). s.name) (alone x one))))
    go x y (inr one) (inr other) same = ap (λ (s : SchemaDraft). s.at) (sym (alone x one) ∙ alone y other)

not-apart : (a b : Ref) → (a ≡ b → ⊥) → not (is_ref a b) ≡ true
not-apart a b apart = go (is_ref a b) refl
  where
    go : (t : Bool) → is_ref a b ≡ t → not (is_ref a b) ≡ true
    go true e = absurd (apart (ref-same a b e))
    go false e = rw e refl

tidy-without_schema : (w : Work) (at : Ref) → TidyWork w → Allowed w (change.DropSchema at) → TidyWork (changed w (change.DropSchema at))
tidy-without_schema w at t empty = record {
  schema_names = λ x y one other same. t.schema_names x y (in_kept stays x w.schemas one).0 (in_kept stays y w.schemas other).0 same;
  homes = λ d there.
      let h = t.homes d there in
      record { draft = h.draft; there = kept_in stays h.draft w.schemas h.there (not-apart h.draft.at at (λ same. empty.1 d there (sym h.at_is ∙ same))); at_is = h.at_is };
  table_names = t.table_names;
  columns = t.columns;
}
  where
    stays : SchemaDraft → Bool
    stays s = not (is_ref s.at at)

tidy-without_table : (w : Work) (at : Ref) → TidyWork w → TidyWork (changed w (change.DropTable at))
tidy-without_table w at t = record {
  schema_names = t.schema_names;
  homes = λ d there. let h = t.homes d (in_kept stays d w.tables there).0 in record { draft = h.draft; there = h.there; at_is = h.at_is };
  table_names = λ d e one other same named. t.table_names d e (in_kept stays d w.tables one).0 (in_kept stays e w.tables other).0 same named;
  columns = all_left stays w.tables t.columns;
}
  where
    stays : Draft → Bool
    stays d = not (is_ref d.at at)

tidy-with_table : (w : Work) (schema : Ref) (name : List ℕ) (columns : List Column) → TidyWork w → Allowed w (change.CreateTable schema name columns)
    → IsSized (change.CreateTable schema name columns) → TidyWork (changed w (change.CreateTable schema name columns))
tidy-with_table w schema name columns t new sized = record {
  schema_names = t.schema_names;
  homes = λ d there. homes d (in_cases d w.tables (made ∷ []) there);
  table_names = λ d e one other same named. go d e (in_cases d w.tables (made ∷ []) one) (in_cases e w.tables (made ∷ []) other) same named;
  columns = all_both w.tables (made ∷ []) t.columns (new.2 sized, tt);
}
  where
    made : Draft
    made = created w.created_tables schema name columns

    alone : (d : Draft) → In d (made ∷ []) → made ≡ d
    alone d (inl is) = is
    alone d (inr later) = absurd later

    homes : (d : Draft) → In d w.tables ⊎ In d (made ∷ []) → HasHome (changed w (change.CreateTable schema name columns)) d.schema
    homes d (inl old) = let h = t.homes d old in record { draft = h.draft; there = h.there; at_is = h.at_is }
    homes d (inr one) = record { draft = new.0.draft; there = new.0.there; at_is = new.0.at_is ∙ ap (λ (d : Draft). d.schema) (alone d one) }

    go : (d e : Draft) → In d w.tables ⊎ In d (made ∷ []) → In e w.tables ⊎ In e (made ∷ []) → d.schema ≡ e.schema → d.name ≡ e.name → d.at ≡ e.at
    go d e (inl one) (inl other) same named = t.table_names d e one other same named
    go d e (inl one) (inr other) same named =
        let is = alone e other in
        absurd (new.1 d one (same ∙ sym (ap (λ (d : Draft). d.schema) is)) (named ∙ sym (ap (λ (d : Draft). d.name) is)))
    go d e (inr one) (inl other) same named =
        let is = alone d one in
        absurd (new.1 e other (sym same ∙ sym (ap (λ (d : Draft). d.schema) is)) (sym named ∙ sym (ap (λ (d : Draft). d.name) is)))
    go d e (inr one) (inr other) same named = ap (λ (d : Draft). d.at) (sym (alone d one) ∙ alone e other)

tidy-changed : (w : Work) (c : Change) → IsGrowth c → IsSized c → TidyWork w → Allowed w c → TidyWork (changed w c)
tidy-changed w (change.CreateSchema name) g sized t h = tidy-with_schema w name t h
tidy-changed w (change.DropSchema at) g sized t h = tidy-without_schema w at t h
tidy-changed w (change.CreateTable schema name columns) g sized t h = tidy-with_table w schema name columns t h sized
tidy-changed w (change.DropTable at) g sized t h = tidy-without_table w at t
tidy-changed w (change.Insert table rows) g sized t h = tidy-mapped (at_table table (with_rows rows)) (with_rows-like table rows) w t
tidy-changed w (change.AddColumn table column) g sized t h = absurd g
tidy-changed w (change.DropColumn table field) g sized t h = absurd g
tidy-changed w (change.RenameColumn table field name) g sized t h = absurd g
tidy-changed w (change.PromoteColumn table field ty) g sized t h = absurd g
tidy-changed w (change.SetDefault table field v) g sized t h = absurd g
tidy-changed w (change.Delete table rows) g sized t h = absurd g
tidy-changed w (change.Update table rows set) g sized t h = absurd g
tidy-changed w (change.Compact table) g sized t h = absurd g
tidy-changed w (change.Flush table) g sized t h = absurd g

tidy-from : (base : State) (before own : List Change) → AllByRecursion IsGrowth own → FitsFrom base before own → TidyWork (worked base before) → TidyWork (worked base (before ++ own))
tidy-from base before [] grows fitting t = subst (λ l. TidyWork (worked base l)) (sym (append-nil before)) t
tidy-from base before (c ∷ own) grows fitting t =
    let one = tidy-changed (worked base before) c grows.0 fitting.1 t (allowed base before c grows.0 fitting.0) in
    let more = tidy-from base (before ++ c ∷ []) own grows.1 fitting.2 (subst TidyWork (sym (worked-more base before c)) one) in
    subst (λ l. TidyWork (worked base l)) (append_assoc before (c ∷ []) own) more

-- ---- the whole list

begun-tidy : (base : State) → IsTidy base → TidyWork (begun base)
begun-tidy base t = record {
  schema_names = λ x y one other same.
      let m = in_map drafted_schema x base.schemas one in
      let n = in_map drafted_schema y base.schemas other in
      let names : m.of.name ≡ n.of.name = ap (λ (s : SchemaDraft). s.name) m.is ∙ same ∙ sym (ap (λ (s : SchemaDraft). s.name) n.is) in
      sym (ap (λ (s : SchemaDraft). s.at) m.is) ∙ ap ref.Old (t.schema_names m.of n.of (of_in m.of base.schemas m.there) (of_in n.of base.schemas n.there) names) ∙ ap (λ (s : SchemaDraft). s.at) n.is;
  homes = λ d there.
      let m = in_map drafted d base.tables there in
      let h = t.homes m.of (of_in m.of base.tables m.there) in
      record { draft = drafted_schema h.0; there = map_in drafted_schema h.0 base.schemas (in_of h.0 base.schemas h.1); at_is = ap ref.Old h.2 ∙ ap (λ (d : Draft). d.schema) m.is };
  table_names = λ d e one other same named.
      let m = in_map drafted d base.tables one in
      let n = in_map drafted e base.tables other in
      let refs : ref.Old m.of.schema ≡ ref.Old n.of.schema = ap (λ (d : Draft). d.schema) m.is ∙ same ∙ sym (ap (λ (d : Draft). d.schema) n.is) in
      let schemas : m.of.schema ≡ n.of.schema = cc in
      let names : m.of.name ≡ n.of.name = ap (λ (d : Draft). d.name) m.is ∙ named ∙ sym (ap (λ (d : Draft). d.name) n.is) in
      sym (ap (λ (d : Draft). d.at) m.is) ∙ ap ref.Old (t.table_names m.of n.of (of_in m.of base.tables m.there) (of_in n.of base.tables n.there) schemas names) ∙ ap (λ (d : Draft). d.at) n.is;
  columns = drafts base.tables t.columns;
}
  where
    drafts : (ts : List Table) → AllByRecursion (λ (t : Table). AreTidyColumns t.columns) ts → AllByRecursion (λ (d : Draft). AreTidyColumns d.columns) (map drafted ts)
    drafts [] all = tt
    drafts (t ∷ ts) all = (all.0, drafts ts all.1)

pub tidy-worked : (base : State) (own : List Change) → AllByRecursion IsGrowth own → Fits base own → IsTidy base → TidyWork (worked base own)
tidy-worked base own grows fitting t = tidy-from base [] own grows fitting (begun-tidy base t)
