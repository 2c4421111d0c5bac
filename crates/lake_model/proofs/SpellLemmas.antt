-- The kinds that a version's text spells.
use Rattle.std.proofs.Common.{◌≡◌, ℕ, ◌+◌, ◌-◌, ◌<◌, ◌≤◌, ◌^◌, ◌==◌, List, [], ◌∷◌, ◌++◌, map, length, refl, sym, ap, subst, ◌∙◌, arith, Bool, true, false}
use Rattle.std.specs.Prelude.{Option, Some, None, IsSome, not, find, option_map, unwrap_or, slice_index_or}
use Rattle.std.specs.List.{AllByRecursion}
use Rattle.std.specs.declared.cmp.Ordering.{Ordering}
use Rattle.std.specs.declared.cmp.Ordering.TheVariants.{Less, Equal, Greater}
use Rattle.std.proofs.lemmas.Bool.{eq-eqb, eqb-true}
use Rattle.lake_types.specs.Cells.{column_named}
use Rattle.lake_types.specs.Kinds.{AreNamed, HasId, IsNamed, Says, SaysWith, changes_text, kind_cmp, name_of}
use Rattle.lake_types.specs.declared.kind.Kind.{Kind}
use Rattle.lake_types.specs.declared.kind.Kind.TheVariants as kind
use Rattle.lake_types.specs.declared.kind.SchemaName.{SchemaName}
use Rattle.lake_types.specs.declared.stmt.Alter.{Alter}
use Rattle.lake_types.specs.declared.stmt.Alter.TheVariants as alter
use Rattle.lake_types.specs.declared.stmt.Cell.{Cell}
use Rattle.lake_types.specs.declared.stmt.Stmt.{Stmt}
use Rattle.lake_types.specs.declared.stmt.Stmt.TheVariants as stmt
use Rattle.lake_types.specs.declared.stmt.TableName.{TableName}
use Rattle.lake_model.specs.Apply.{Cells, Draft, SchemaDraft, Work, altered, changed, created, drafted, drafted_schema, is_ref, worked}
use Rattle.lake_model.specs.Core.{AreSpelled, HaveKinds, Version, first_version, head, next_version, version_at, with_version}
use Rattle.lake_model.specs.Fits.{FitsFrom, IsAllowed}
use Rattle.lake_model.specs.Kinds.{dropped_schema, dropped_table, drops_table, kinds, kinds_at, kinds_from, kinds_of_old, leaves_fresh, names_old, of_table, only_if, put, put_all, schemas_after, tables_after}
use Rattle.lake_model.specs.Laws.{FitsKnown, IsKnown, KindsAreSpelled, KnownSchema, KnownTable, RiseBelow, VersionsHaveKinds}
use Rattle.lake_model.specs.Plans as p
use Rattle.lake_model.specs.Rows as r
use Rattle.lake_model.specs.State.{State, Table}
use Rattle.lake_model.specs.Step as s
use Rattle.lake_model.specs.declared.change.Change.{Change}
use Rattle.lake_model.specs.declared.change.Change.TheVariants as change
use Rattle.lake_model.specs.declared.change.Ref.{Ref}
use Rattle.lake_model.specs.declared.change.Ref.TheVariants as ref
use Rattle.lake_model.specs.declared.change.RowRef.{RowRef}
use Rattle.lake_model.proofs.CreationLemmas.{altered-at}
use Rattle.lake_model.proofs.FieldLemmas.{worked-more}
use Rattle.lake_model.proofs.KindLemmas.{kinds-order}
use Rattle.lake_model.proofs.PlanLemmas as plan
use Rattle.lake_model.proofs.PlanLemmas.{found-has, found-passes}
use Rattle.lake_model.proofs.TableLemmas.{all-joined, all-left, all-mapped}

-- ---- what holds of each kind of a list

abbrev Spelled : List SchemaName → Kind → Type 0
Spelled names k = HasId k × IsNamed (name_of names) k

all-put : (P : Kind → Type 0) (k : Kind) (ks : List Kind) → P k → AllByRecursion P ks → AllByRecursion P (put k ks)
all-put P k [] h all = (h, tt)
all-put P k (l ∷ ks) h all = go (kind_cmp k l) refl (all-put P k ks h all.1)
  where
    go : (o : Ordering) → kind_cmp k l ≡ o → AllByRecursion P (put k ks) → AllByRecursion P (put k (l ∷ ks))
    go Less e more = rw e (h, all)
    go Equal e more = rw e all
    go Greater e more = rw e (all.0, more)

all-put_all : (P : Kind → Type 0) (ks sorted : List Kind) → AllByRecursion P ks → AllByRecursion P sorted → AllByRecursion P (put_all sorted ks)
all-put_all P [] sorted all h = h
all-put_all P (k ∷ ks) sorted all h = all-put_all P ks (put k sorted) all.1 (all-put P k sorted all.0 h)

all-only : (P : Kind → Type 0) (b : Bool) (k : Kind) → P k → AllByRecursion P (only_if b k)
all-only P true k h = (h, tt)
all-only P false k h = tt

old-kinds : (names : List SchemaName) (own : List Change) (c : Change) (id : ℕ) → id < 2 ^ 64 → AllByRecursion (Spelled names) (kinds_of_old own c id)
old-kinds names own (change.AddColumn table column) id h = ((h, tt), tt)
old-kinds names own (change.DropColumn table field) id h = ((h, tt), tt)
old-kinds names own (change.RenameColumn table field name) id h = ((h, tt), tt)
old-kinds names own (change.PromoteColumn table field ty) id h = ((h, tt), tt)
old-kinds names own (change.SetDefault table field value) id h = ((h, tt), tt)
old-kinds names own (change.Insert table rows) id h = all-only (Spelled names) (leaves_fresh own (ref.Old id)) (kind.InsertedInto id) (h, tt)
old-kinds names own (change.Delete table rows) id h = all-only (Spelled names) (names_old rows) (kind.DeletedFrom id) (h, tt)
old-kinds names own (change.Update table rows set) id h =
    all-joined (Spelled names) (only_if (names_old rows) (kind.InsertedInto id)) (only_if (names_old rows) (kind.DeletedFrom id))
    (all-only (Spelled names) (names_old rows) (kind.InsertedInto id) (h, tt)) (all-only (Spelled names) (names_old rows) (kind.DeletedFrom id) (h, tt))
old-kinds names own (change.Compact table) id h = ((h, tt), tt)
old-kinds names own (change.Flush table) id h = ((h, tt), tt)
old-kinds names own (change.CreateSchema name) id h = tt
old-kinds names own (change.DropSchema schema) id h = tt
old-kinds names own (change.CreateTable schema name columns) id h = tt
old-kinds names own (change.DropTable table) id h = tt

table-kinds : (names : List SchemaName) (own : List Change) (c : Change) (table : Ref) → KnownTable table → AllByRecursion (Spelled names) (of_table own table (kinds_of_old own c))
table-kinds names own c (ref.Old id) h = go (drops_table own (ref.Old id)) refl
  where
    go : (b : Bool) → drops_table own (ref.Old id) ≡ b → AllByRecursion (Spelled names) (of_table own (ref.Old id) (kinds_of_old own c))
    go true e = rw e tt
    go false e = rw e (old-kinds names own c id h)
table-kinds names own c (ref.New place) h = tt

schema-kinds : (names : List SchemaName) (schema : Ref) → KnownSchema names schema → AllByRecursion (Spelled names) (dropped_schema names schema)
schema-kinds names (ref.Old id) h = ((h.0, named (name_of names id) h.1), tt)
  where
    named : (o : Option (List ℕ)) → IsSome o → o ≡ Some (unwrap_or o [])
    named (Some name) k = refl
    named None k = absurd cc
schema-kinds names (ref.New place) h = tt

dropped-kinds : (names : List SchemaName) (table : Ref) → KnownTable table → AllByRecursion (Spelled names) (dropped_table table)
dropped-kinds names (ref.Old id) h = ((h, tt), tt)
dropped-kinds names (ref.New place) h = tt

each-kinds : (names : List SchemaName) (own : List Change) (m n : ℕ) (c : Change) → IsKnown names c → AllByRecursion (Spelled names) (kinds_at names own m n c)
each-kinds names own m n (change.CreateSchema name) h = all-only (Spelled names) _ (kind.CreatedSchema name) (tt, tt)
each-kinds names own m n (change.CreateTable schema name columns) h = all-only (Spelled names) _ (kind.CreatedTable _ name) (tt, tt)
each-kinds names own m n (change.DropSchema schema) h = schema-kinds names schema h
each-kinds names own m n (change.DropTable table) h = dropped-kinds names table h
each-kinds names own m n (change.AddColumn table column) h = table-kinds names own (change.AddColumn table column) table h
each-kinds names own m n (change.DropColumn table field) h = table-kinds names own (change.DropColumn table field) table h
each-kinds names own m n (change.RenameColumn table field name) h = table-kinds names own (change.RenameColumn table field name) table h
each-kinds names own m n (change.PromoteColumn table field ty) h = table-kinds names own (change.PromoteColumn table field ty) table h
each-kinds names own m n (change.SetDefault table field value) h = table-kinds names own (change.SetDefault table field value) table h
each-kinds names own m n (change.Insert table rows) h = table-kinds names own (change.Insert table rows) table h
each-kinds names own m n (change.Delete table rows) h = table-kinds names own (change.Delete table rows) table h
each-kinds names own m n (change.Update table rows set) h = table-kinds names own (change.Update table rows set) table h
each-kinds names own m n (change.Compact table) h = table-kinds names own (change.Compact table) table h
each-kinds names own m n (change.Flush table) h = table-kinds names own (change.Flush table) table h

from-kinds : (names : List SchemaName) (own : List Change) (m n : ℕ) (rest : List Change) → AllByRecursion (IsKnown names) rest → AllByRecursion (Spelled names) (kinds_from names own m n rest)
from-kinds names own m n [] h = tt
from-kinds names own m n (c ∷ rest) h =
    all-joined (Spelled names) (kinds_at names own m n c) (kinds_from names own (schemas_after m c) (tables_after n c) rest)
    (each-kinds names own m n c h.0) (from-kinds names own (schemas_after m c) (tables_after n c) rest h.1)

firsts : (names : List SchemaName) (ks : List Kind) → AllByRecursion (Spelled names) ks → AllByRecursion HasId ks
firsts names [] h = tt
firsts names (k ∷ ks) h = (h.0.0, firsts names ks h.1)

seconds : (names : List SchemaName) (ks : List Kind) → AllByRecursion (Spelled names) ks → AreNamed names ks
seconds names [] h = tt
seconds names (k ∷ ks) h = (h.0.1, seconds names ks h.1)

pub kinds_spelled : KindsAreSpelled
kinds_spelled names own h =
    let all = all-put_all (Spelled names) (kinds_from names own 0 0 own) [] (from-kinds names own 0 0 own h) tt in
    let says : Says (changes_text (kinds names own)) (kinds names own) = record { in_order = kinds-order names own; ids = firsts names (kinds names own) all; spelled = refl } in
    record { says = says; named = seconds names (kinds names own) all }

-- ---- versions

-- one more version behind the last one
more-spelled : (names : List SchemaName) (vs : List Version) (w d v : Version) → AreSpelled names vs → v ≡ slice_index_or (d ∷ vs) (length vs) first_version → names ≡ d.state.schemas
    → SaysWith v.state.schemas w.text w.kinds → AreSpelled names (vs ++ w ∷ [])
more-spelled names [] w d v h last same says = (subst (λ ns. SaysWith ns w.text w.kinds) (ap (λ (x : Version). x.state.schemas) last ∙ sym same) says, tt)
more-spelled names (u ∷ vs) w d v h last same says = (h.0, more-spelled u.state.schemas vs w u v h.1 last refl says)

pub versions_have_kinds : VersionsHaveKinds
versions_have_kinds core own some known h = go core.versions refl
  where
    go : (vs : List Version) → core.versions ≡ vs → HaveKinds (with_version core own).versions
    go [] e = absurd (some e)
    go (d ∷ vs) e =
        let last = version_at core (head core) in
        let old : HaveKinds (d ∷ vs) = subst HaveKinds e h in
        let at : core.first + length core.versions - 1 - core.first ≡ length vs = omega (arith, ap length e) in
        let is : last ≡ slice_index_or (d ∷ vs) (length vs) first_version = ap (λ l. slice_index_or l (core.first + length core.versions - 1 - core.first) first_version) e ∙ ap (λ i. slice_index_or (d ∷ vs) i first_version) at in
        let P : List Version → Type 0 = λ l. HaveKinds (l ++ next_version last own ∷ []) in
        subst P (sym e) (old.0, more-spelled d.state.schemas vs (next_version last own) d last old.1 is refl (kinds_spelled last.state.schemas own known))

-- ---- lists of transactions

record Known (names : List SchemaName) (w : Work) : Type 0 where
  schemas : AllByRecursion (λ (x : SchemaDraft). KnownSchema names x.at) w.schemas
  tables : AllByRecursion (λ (d : Draft). KnownTable d.at) w.tables

altered-known : (names : List SchemaName) (w : Work) (c : Change) → Known names w → Known names (record w { tables = map (altered c) w.tables })
altered-known names w c h = record {
  schemas = h.schemas;
  tables = all-mapped (λ (d : Draft). KnownTable d.at) (λ (d : Draft). KnownTable d.at) (altered c) (λ d k. subst KnownTable (sym (altered-at c d)) k) w.tables h.tables;
}

changed-known : (names : List SchemaName) (w : Work) (c : Change) → Known names w → Known names (changed w c)
changed-known names w (change.CreateSchema name) h = record {
  schemas = all-joined (λ (x : SchemaDraft). KnownSchema names x.at) w.schemas (record { at = ref.New w.created_schemas; name = name } ∷ []) h.schemas (tt, tt);
  tables = h.tables;
}
changed-known names w (change.DropSchema schema) h = record {
  schemas = all-left (λ (x : SchemaDraft). KnownSchema names x.at) (λ (x : SchemaDraft). not (is_ref x.at schema)) w.schemas h.schemas;
  tables = h.tables;
}
changed-known names w (change.CreateTable schema name columns) h = record {
  schemas = h.schemas;
  tables = all-joined (λ (d : Draft). KnownTable d.at) w.tables (created w.created_tables schema name columns ∷ []) h.tables (tt, tt);
}
changed-known names w (change.DropTable table) h = record {
  schemas = h.schemas;
  tables = all-left (λ (d : Draft). KnownTable d.at) (λ (d : Draft). not (is_ref d.at table)) w.tables h.tables;
}
changed-known names w (change.AddColumn table column) h = altered-known names w (change.AddColumn table column) h
changed-known names w (change.DropColumn table field) h = altered-known names w (change.DropColumn table field) h
changed-known names w (change.RenameColumn table field name) h = altered-known names w (change.RenameColumn table field name) h
changed-known names w (change.PromoteColumn table field ty) h = altered-known names w (change.PromoteColumn table field ty) h
changed-known names w (change.SetDefault table field value) h = altered-known names w (change.SetDefault table field value) h
changed-known names w (change.Insert table rows) h = altered-known names w (change.Insert table rows) h
changed-known names w (change.Delete table rows) h = altered-known names w (change.Delete table rows) h
changed-known names w (change.Update table rows set) h = altered-known names w (change.Update table rows set) h
changed-known names w (change.Compact table) h = altered-known names w (change.Compact table) h
changed-known names w (change.Flush table) h = altered-known names w (change.Flush table) h

schema-found : (P : Ref → Type 0) (q : SchemaDraft → Bool) (ss : List SchemaDraft) (at : Ref) → option_map (λ (x : SchemaDraft). x.at) (find q ss) ≡ Some at → AllByRecursion (λ (x : SchemaDraft). P x.at) ss → P at
schema-found P q ss at e h = go (find q ss) refl
  where
    go : (o : Option SchemaDraft) → find q ss ≡ o → P at
    go None is = let none = rw is at e in absurd cc
    go (Some x) is =
        let some : Some x.at ≡ Some at = rw is at e in
        let same : x.at ≡ at = cc in
        subst P same (found-has (λ (y : SchemaDraft). P y.at) q ss x is h)

table-found : (names : List SchemaName) (w : Work) (at : Ref) (name : List ℕ) (d : Draft) → Known names w → p.table_named w at name ≡ Some d → KnownTable d.at
table-found names w at name d h e = found-has (λ (x : Draft). KnownTable x.at) _ w.tables d e h.tables

insertion-known : (names : List SchemaName) (d : Draft) (rows : List (List Cell)) → KnownTable d.at → plan.Holds (IsKnown names) (r.insertion d rows)
insertion-known names d [] h = plan.leaves (IsKnown names) _
insertion-known names d (row ∷ rows) h = plan.appends (IsKnown names) _ _ h

deletion-known : (names : List SchemaName) (d : Draft) (rows : List RowRef) → KnownTable d.at → plan.Holds (IsKnown names) (r.deletion d rows)
deletion-known names d [] h = plan.leaves (IsKnown names) _
deletion-known names d (row ∷ rows) h = plan.appends (IsKnown names) _ _ h

updating-known : (names : List SchemaName) (d : Draft) (set : Cells) (rows : List RowRef) → KnownTable d.at → plan.Holds (IsKnown names) (r.updating d set rows)
updating-known names d set [] h = plan.leaves (IsKnown names) _
updating-known names d set (row ∷ rows) h = plan.appends (IsKnown names) _ _ h

alters-known : (names : List SchemaName) (next : ℕ) (w : Work) (x : Alter) (table : TableName) → Known names w → plan.Holds (IsKnown names) (p.alter_table next w table x)
alters-known names next w (alter.Add def) table h =
    plan.on_table-holds (IsKnown names) w table _ (λ at d found. plan.unless-holds (IsKnown names) _ _ (plan.appends (IsKnown names) _ _ (table-found names w at table.table d h found)))
alters-known names next w (alter.Remove name) table h =
    plan.on_table-holds (IsKnown names) w table _ (λ at d found. plan.of_column-holds (IsKnown names) name _ (column_named d.columns name) (λ c. plan.unless-holds (IsKnown names) _ _ (plan.appends (IsKnown names) _ _ (table-found names w at table.table d h found))))
alters-known names next w (alter.Rename name to) table h =
    plan.on_table-holds (IsKnown names) w table _ (λ at d found. plan.of_column-holds (IsKnown names) name _ (column_named d.columns name) (λ c. plan.unless-holds (IsKnown names) _ _ (plan.appends (IsKnown names) _ _ (table-found names w at table.table d h found))))
alters-known names next w (alter.Promote name ty) table h =
    plan.on_table-holds (IsKnown names) w table _ (λ at d found. plan.of_column-holds (IsKnown names) name _ (column_named d.columns name) (λ c. plan.unless-holds (IsKnown names) _ _ (plan.appends (IsKnown names) _ _ (table-found names w at table.table d h found))))
alters-known names next w (alter.SetDefault name v) table h =
    plan.on_table-holds (IsKnown names) w table _ (λ at d found. plan.of_column-holds (IsKnown names) name _ (column_named d.columns name) (λ c. plan.unless-holds (IsKnown names) _ _ (plan.appends (IsKnown names) _ _ (table-found names w at table.table d h found))))

plans-known : (names : List SchemaName) (next : ℕ) (w : Work) (x : Stmt) → Known names w → plan.Holds (IsKnown names) (s.plan_in next w x)
plans-known names next w (stmt.CreateSchema name) h = plan.unless-holds (IsKnown names) _ _ (plan.appends (IsKnown names) _ _ tt)
plans-known names next w (stmt.DropSchema name) h =
    plan.in_schema-holds (IsKnown names) name _ (p.schema_named w name)
    (λ at named. plan.unless-holds (IsKnown names) _ _ (plan.appends (IsKnown names) _ _ (schema-found (KnownSchema names) _ w.schemas at named h.schemas)))
plans-known names next w (stmt.CreateTable table columns) h =
    plan.in_schema-holds (IsKnown names) table.schema _ (p.schema_named w table.schema) (λ at named. plan.unless-holds (IsKnown names) _ _ (plan.appends (IsKnown names) _ _ tt))
plans-known names next w (stmt.DropTable table) h = plan.on_table-holds (IsKnown names) w table _ (λ at d found. plan.appends (IsKnown names) _ _ (table-found names w at table.table d h found))
plans-known names next w (stmt.Change table x) h = alters-known names next w x table h
plans-known names next w (stmt.Insert table rows) h =
    plan.on_table-holds (IsKnown names) w table _ (λ at d found. plan.unless-holds (IsKnown names) _ _ (insertion-known names d rows (table-found names w at table.table d h found)))
plans-known names next w (stmt.Delete table test) h =
    plan.on_table-holds (IsKnown names) w table _ (λ at d found. plan.unless-holds (IsKnown names) _ _ (deletion-known names d _ (table-found names w at table.table d h found)))
plans-known names next w (stmt.Update table set test) h =
    plan.on_table-holds (IsKnown names) w table _ (λ at d found. plan.unless-holds (IsKnown names) _ _ (updating-known names d _ _ (table-found names w at table.table d h found)))
plans-known names next w (stmt.Compact table) h = plan.on_table-holds (IsKnown names) w table _ (λ at d found. plan.appends (IsKnown names) _ _ (table-found names w at table.table d h found))
plans-known names next w (stmt.Flush table) h = plan.on_table-holds (IsKnown names) w table _ (λ at d found. plan.appends (IsKnown names) _ _ (table-found names w at table.table d h found))
plans-known names next w x h = plan.leaves (IsKnown names) _

same_known : (a b : Ref) → is_ref a b ≡ true → KnownTable a → KnownTable b
same_known (ref.Old a) (ref.Old b) e h = subst (λ n. n < 2 ^ 64) (eqb-true a b e) h
same_known (ref.New a) b e h = new b e
  where
    new : (b : Ref) → is_ref (ref.New a) b ≡ true → KnownTable b
    new (ref.Old b) e = absurd cc
    new (ref.New b) e = tt
same_known (ref.Old a) (ref.New b) e h = tt

there-known : (names : List SchemaName) (w : Work) (table : Ref) (d : Draft) → Known names w → r.draft_at w table ≡ Some d → KnownTable table
there-known names w table d h e =
    same_known d.at table (found-passes (λ (x : Draft). is_ref x.at table) w.tables d e) (found-has (λ (x : Draft). KnownTable x.at) (λ (x : Draft). is_ref x.at table) w.tables d e h.tables)

allowed-known : (base : State) (before : List Change) (c : Change) → Known base.schemas (worked base before) → IsAllowed base before c → IsKnown base.schemas c
allowed-known base before (change.Delete table rows) h k = there-known base.schemas (worked base before) table k.draft h k.is_there
allowed-known base before (change.Update table rows set) h k = there-known base.schemas (worked base before) table k.0.draft h k.0.is_there
allowed-known base before c h k =
    plan.appended-holds (IsKnown base.schemas) _ c k.answer k.plan_is (plan.plan_of-holds (IsKnown base.schemas) base before k.stmt (plans-known base.schemas base.next_catalog (worked base before) k.stmt h))

fits-known : (base : State) (before own : List Change) → FitsFrom base before own → Known base.schemas (worked base before) → AllByRecursion (IsKnown base.schemas) own
fits-known base before [] fits h = tt
fits-known base before (c ∷ own) fits h =
    let one = changed-known base.schemas (worked base before) c h in
    (allowed-known base before c h fits.0, fits-known base (before ++ c ∷ []) own fits.2 (subst (Known base.schemas) (sym (worked-more base before c)) one))

-- each schema of a list has a name in it
all-named : (names : List SchemaName) → AllByRecursion (λ (x : SchemaName). IsSome (name_of names x.id)) names
all-named [] = tt
all-named (y ∷ names) = (here, more names (all-named names))
  where
    here : IsSome (name_of (y ∷ names) y.id)
    here = rw (eq-eqb y.id y.id refl) refl

    more : (xs : List SchemaName) → AllByRecursion (λ (x : SchemaName). IsSome (name_of names x.id)) xs → AllByRecursion (λ (x : SchemaName). IsSome (name_of (y ∷ names) x.id)) xs
    more [] h = tt
    more (x ∷ xs) h = (go (y.id == x.id) refl, more xs h.1)
      where
        go : (b : Bool) → (y.id == x.id) ≡ b → IsSome (name_of (y ∷ names) x.id)
        go true e = rw e refl
        go false e = rw e h.0

begun-schemas : (names ss : List SchemaName) (limit : ℕ) → limit ≤ 2 ^ 64 → RiseBelow limit (map (λ (x : SchemaName). x.id) ss) → AllByRecursion (λ (x : SchemaName). IsSome (name_of names x.id)) ss
    → AllByRecursion (λ (x : SchemaDraft). KnownSchema names x.at) (map drafted_schema ss)
begun-schemas names [] limit le ids h = tt
begun-schemas names (x ∷ ss) limit le ids h = ((omega (arith, ids.0, le), h.0), begun-schemas names ss limit le ids.2 h.1)

begun-tables : (ts : List Table) (limit : ℕ) → limit ≤ 2 ^ 64 → RiseBelow limit (map (λ (t : Table). t.id) ts) → AllByRecursion (λ (d : Draft). KnownTable d.at) (map drafted ts)
begun-tables [] limit le ids = tt
begun-tables (t ∷ ts) limit le ids = (omega (arith, ids.0, le), begun-tables ts limit le ids.2)

pub fits_known : FitsKnown
fits_known s own ids le fits =
    fits-known s [] own fits
    (record { schemas = begun-schemas s.schemas s.schemas s.next_catalog le ids.schemas (all-named s.schemas); tables = begun-tables s.tables s.next_catalog le ids.tables })
