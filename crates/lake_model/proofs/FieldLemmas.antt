-- The field ids of columns.
use Rattle.std.proofs.Common.{◌≡◌, ℕ, ◌+◌, ◌<◌, ◌≤◌, ◌==◌, List, [], ◌∷◌, ◌++◌, map, filter, length, refl, sym, ap, subst, ◌∙◌, arith, Bool, true, false, true≢false}
use Rattle.std.specs.Prelude.{Some, not, find, fold}
use Rattle.std.specs.List.{AllByRecursion}
use Rattle.std.proofs.lemmas.Bool.{ne_eqb}
use Rattle.std.proofs.lemmas.List.{map-append}
use Rattle.std.proofs.lemmas.List.Sums.{fold-append}
use Rattle.lake_types.specs.Cells.{column_named}
use Rattle.lake_types.specs.declared.stmt.Alter.{Alter}
use Rattle.lake_types.specs.declared.stmt.Alter.TheVariants as alter
use Rattle.lake_types.specs.declared.stmt.Cell.{Cell}
use Rattle.lake_types.specs.declared.stmt.Stmt.{Stmt}
use Rattle.lake_types.specs.declared.stmt.Stmt.TheVariants as stmt
use Rattle.lake_types.specs.declared.stmt.TableName.{TableName}
use Rattle.lake_types.specs.declared.value.Column.{Column}
use Rattle.lake_model.specs.Apply.{Cells, Draft, Work, altered, at_field, at_table, begun, changed, created, drafted, fields_from, is_ref, promoted, renamed, settled_table, with_column, with_default, with_rows, with_updates, without_column, without_rows, worked}
use Rattle.lake_model.specs.Fits.{FitsFrom, IsAllowed}
use Rattle.lake_model.specs.Laws.{FieldIdsRise, HasFieldIds, RiseBelow, fields_of}
use Rattle.lake_model.specs.Plans as p
use Rattle.lake_model.specs.Rows as r
use Rattle.lake_model.specs.State.{State, Table}
use Rattle.lake_model.specs.Step as s
use Rattle.lake_model.specs.declared.change.Change.{Change}
use Rattle.lake_model.specs.declared.change.Change.TheVariants as change
use Rattle.lake_model.specs.declared.change.Ref.{Ref}
use Rattle.lake_model.specs.declared.change.Ref.TheVariants as ref
use Rattle.lake_model.specs.declared.change.RowRef.{RowRef}
use Rattle.lake_model.proofs.CellLemmas.{fields-same}
use Rattle.lake_model.proofs.CreationLemmas.{altered-at}
use Rattle.lake_model.proofs.PlanLemmas as plan
use Rattle.lake_model.proofs.PlanLemmas.{found-has}
use Rattle.lake_model.proofs.RefLemmas.{ref_turned}
use Rattle.lake_model.proofs.RiseLemmas.{rise-filter, rise-join}
use Rattle.lake_model.proofs.TableLemmas.{all-joined, all-left, all-mapped, at-holds}

-- ---- a draft

pub record Numbered (columns : List Column) (next : ℕ) : Type 0 where
  pub rise : RiseBelow next (fields_of columns)
  pub positive : AllByRecursion (λ n. 1 ≤ n) (fields_of columns)
  pub next_positive : 1 ≤ next

abbrev Fields : Draft → Type 0
Fields d = Numbered d.columns d.next_field

from-past : (n k : ℕ) (columns : List Column) → n < k → AllByRecursion (λ y. n < y) (fields_of (fields_from k columns))
from-past n k [] lt = tt
from-past n k (c ∷ columns) lt = (lt, from-past n (k + 1) columns (omega (arith, lt)))

pub from-rise : (k limit : ℕ) (columns : List Column) → limit ≡ k + length columns → RiseBelow limit (fields_of (fields_from k columns))
from-rise k limit [] e = tt
from-rise k limit (c ∷ columns) e = (omega (arith, e), from-past k (k + 1) columns (omega arith), from-rise (k + 1) limit columns (omega (arith, e)))

pub from-positive : (k : ℕ) (columns : List Column) → 1 ≤ k → AllByRecursion (λ n. 1 ≤ n) (fields_of (fields_from k columns))
from-positive k [] le = tt
from-positive k (c ∷ columns) le = (le, from-positive (k + 1) columns (omega (arith, le)))

created-fields : (n : ℕ) (schema : Ref) (name : List ℕ) (columns : List Column) → Fields (created n schema name columns)
created-fields n schema name columns =
    record { rise = from-rise 1 (length columns + 1) columns (omega arith); positive = from-positive 1 columns (omega arith); next_positive = omega arith }

added-fields : (column : Column) (d : Draft) → column.field ≡ d.next_field → Fields d → Fields (with_column column d)
added-fields column d e h =
    let joined = sym (map-append (λ (c : Column). c.field) d.columns (column ∷ [])) in
    let le : d.next_field ≤ column.field + 1 = omega (arith, e) in
    let at : d.next_field ≤ column.field = omega (arith, e) in
    let one : 1 ≤ column.field = omega (arith, e, h.next_positive) in
    record {
      rise = subst (RiseBelow (column.field + 1)) joined (rise-join d.next_field (column.field + 1) (fields_of d.columns) (column.field ∷ []) le h.rise (at, tt) (omega arith, tt, tt));
      positive = subst (AllByRecursion (λ n. 1 ≤ n)) joined (all-joined (λ n. 1 ≤ n) (fields_of d.columns) (column.field ∷ []) h.positive (one, tt));
      next_positive = omega arith;
    }

positive-left : (q : Column → Bool) (columns : List Column) → AllByRecursion (λ n. 1 ≤ n) (fields_of columns) → AllByRecursion (λ n. 1 ≤ n) (fields_of (filter q columns))
positive-left q [] h = tt
positive-left q (c ∷ columns) h = go (q c) refl (positive-left q columns h.1)
  where
    go : (b : Bool) → q c ≡ b → AllByRecursion (λ n. 1 ≤ n) (fields_of (filter q columns)) → AllByRecursion (λ n. 1 ≤ n) (fields_of (filter q (c ∷ columns)))
    go true e rest = rw e (h.0, rest)
    go false e rest = rw e rest

dropped-fields : (field : ℕ) (d : Draft) → Fields d → Fields (without_column field d)
dropped-fields field d h = record {
  rise = rise-filter (λ (c : Column). c.field) d.next_field (λ c. not (c.field == field)) d.columns h.rise;
  positive = positive-left (λ c. not (c.field == field)) d.columns h.positive;
  next_positive = h.next_positive;
}

same-fields : (columns : List Column) (d : Draft) → fields_of columns ≡ fields_of d.columns → Fields d → Numbered columns d.next_field
same-fields columns d same h = record {
  rise = subst (RiseBelow d.next_field) (sym same) h.rise;
  positive = subst (AllByRecursion (λ n. 1 ≤ n)) (sym same) h.positive;
  next_positive = h.next_positive;
}

-- an added column has the next field id of its table
abbrev NextFor : Change → Draft → Type 0
NextFor (change.AddColumn table column) d = is_ref d.at table ≡ true → column.field ≡ d.next_field
NextFor c d = Unit {0}

altered-fields : (c : Change) (d : Draft) → NextFor c d → Fields d → Fields (altered c d)
altered-fields (change.AddColumn table column) d next h = go (is_ref d.at table) refl
  where
    go : (b : Bool) → is_ref d.at table ≡ b → Fields (at_table table (with_column column) d)
    go true e = rw e (added-fields column d (next e) h)
    go false e = rw e h
altered-fields (change.DropColumn table field) d next h = at-holds Fields table (without_column field) d h (dropped-fields field d h)
altered-fields (change.RenameColumn table field name) d next h =
    at-holds Fields table (renamed field name) d h (same-fields (map (at_field field (λ c. record c { name = name })) d.columns) d (fields-same field (λ c. record c { name = name }) (λ c. refl) d.columns) h)
altered-fields (change.PromoteColumn table field ty) d next h =
    at-holds Fields table (promoted field ty) d h (same-fields (map (at_field field (λ c. record c { ty = ty })) d.columns) d (fields-same field (λ c. record c { ty = ty }) (λ c. refl) d.columns) h)
altered-fields (change.SetDefault table field value) d next h =
    at-holds Fields table (with_default field value) d h (same-fields (map (at_field field (λ c. record c { default_value = value })) d.columns) d (fields-same field (λ c. record c { default_value = value }) (λ c. refl) d.columns) h)
altered-fields (change.Insert table rows) d next h = at-holds Fields table (with_rows rows) d h h
altered-fields (change.Delete table rows) d next h = at-holds Fields table (without_rows rows) d h h
altered-fields (change.Update table rows set) d next h = at-holds Fields table (with_updates rows set) d h h
altered-fields c d next h = h

-- ---- the tables of a work

-- no two tables have one reference
abbrev pub Differ : List Draft → Type 0
Differ [] = Unit {0}
Differ (d ∷ ds) = AllByRecursion (λ (e : Draft). is_ref e.at d.at ≡ false) ds × Differ ds

-- a new table's place is below this one
abbrev RefBelow : ℕ → Ref → Type 0
RefBelow n (ref.Old id) = Unit {0}
RefBelow n (ref.New place) = place < n

abbrev IsBelow : ℕ → Draft → Type 0
IsBelow n d = RefBelow n d.at

pub record Sound (n : ℕ) (ds : List Draft) : Type 0 where
  pub differ : Differ ds
  pub below : AllByRecursion (IsBelow n) ds
  pub fields : AllByRecursion Fields ds

-- a new table has another reference
new_ref : (n : ℕ) (at : Ref) → RefBelow n at → is_ref (ref.New n) at ≡ false
new_ref n (ref.Old id) h = refl
new_ref n (ref.New place) h = ne_eqb n place (λ same. absurd (omega (arith, same, h)))

more_below : (n : ℕ) (at : Ref) → RefBelow n at → RefBelow (n + 1) at
more_below n (ref.Old id) h = tt
more_below n (ref.New place) h = omega (arith, h)

below-more : (n : ℕ) (ds : List Draft) → AllByRecursion (IsBelow n) ds → AllByRecursion (IsBelow (n + 1)) ds
below-more n [] h = tt
below-more n (d ∷ ds) h = (more_below n d.at h.0, below-more n ds h.1)

differ-new : (n : ℕ) (new : Draft) → new.at ≡ ref.New n → (ds : List Draft) → AllByRecursion (IsBelow n) ds → Differ ds → Differ (ds ++ new ∷ [])
differ-new n new e [] below h = (tt, tt)
differ-new n new e (d ∷ ds) below h =
    (all-joined (λ (x : Draft). is_ref x.at d.at ≡ false) ds (new ∷ []) h.0 (ap (λ at. is_ref at d.at) e ∙ new_ref n d.at below.0, tt), differ-new n new e ds below.1 h.1)

differ-left : (q : Draft → Bool) (ds : List Draft) → Differ ds → Differ (filter q ds)
differ-left q [] h = tt
differ-left q (d ∷ ds) h = go (q d) refl (all-left (λ (x : Draft). is_ref x.at d.at ≡ false) q ds h.0) (differ-left q ds h.1)
  where
    go : (b : Bool) → q d ≡ b → AllByRecursion (λ (x : Draft). is_ref x.at d.at ≡ false) (filter q ds) → Differ (filter q ds) → Differ (filter q (d ∷ ds))
    go true e first rest = rw e (first, rest)
    go false e first rest = rw e rest

differ-altered : (c : Change) (ds : List Draft) → Differ ds → Differ (map (altered c) ds)
differ-altered c [] h = tt
differ-altered c (d ∷ ds) h = (
  all-mapped (λ (x : Draft). is_ref x.at d.at ≡ false) (λ (x : Draft). is_ref x.at (altered c d).at ≡ false) (altered c)
      (λ x k. ap (λ at. is_ref at (altered c d).at) (altered-at c x) ∙ ap (is_ref x.at) (altered-at c d) ∙ k) ds h.0,
  differ-altered c ds h.1,
)

fields-altered : (c : Change) (ds : List Draft) → AllByRecursion (NextFor c) ds → AllByRecursion Fields ds → AllByRecursion Fields (map (altered c) ds)
fields-altered c [] next h = tt
fields-altered c (d ∷ ds) next h = (altered-fields c d next.0 h.0, fields-altered c ds next.1 h.1)

sound-altered : (n : ℕ) (c : Change) (ds : List Draft) → AllByRecursion (NextFor c) ds → Sound n ds → Sound n (map (altered c) ds)
sound-altered n c ds next h = record {
  differ = differ-altered c ds h.differ;
  below = all-mapped (IsBelow n) (IsBelow n) (altered c) (λ d k. subst (RefBelow n) (sym (altered-at c d)) k) ds h.below;
  fields = fields-altered c ds next h.fields;
}

all-free : (ds : List Draft) → AllByRecursion (λ (d : Draft). Unit {0}) ds
all-free [] = tt
all-free (d ∷ ds) = (tt, all-free ds)

-- the premise of a change: an added column has the next field id of its table
abbrev AddsNext : List Draft → Change → Type 0
AddsNext ds (change.AddColumn table column) = AllByRecursion (NextFor (change.AddColumn table column)) ds
AddsNext ds c = Unit {0}

changed-sound : (w : Work) (c : Change) → AddsNext w.tables c → Sound w.created_tables w.tables → Sound (changed w c).created_tables (changed w c).tables
changed-sound w (change.CreateSchema name) next h = h
changed-sound w (change.DropSchema schema) next h = h
changed-sound w (change.CreateTable schema name columns) next h =
    let d = created w.created_tables schema name columns in
    let own_below : w.created_tables < w.created_tables + 1 = omega arith in
    record {
      differ = differ-new w.created_tables d refl w.tables h.below h.differ;
      below = all-joined (IsBelow (w.created_tables + 1)) w.tables (d ∷ []) (below-more w.created_tables w.tables h.below) (own_below, tt);
      fields = all-joined Fields w.tables (d ∷ []) h.fields (created-fields w.created_tables schema name columns, tt);
    }
changed-sound w (change.DropTable table) next h = record {
  differ = differ-left (λ (d : Draft). not (is_ref d.at table)) w.tables h.differ;
  below = all-left (IsBelow w.created_tables) (λ (d : Draft). not (is_ref d.at table)) w.tables h.below;
  fields = all-left Fields (λ (d : Draft). not (is_ref d.at table)) w.tables h.fields;
}
changed-sound w (change.AddColumn table column) next h = sound-altered w.created_tables (change.AddColumn table column) w.tables next h
changed-sound w (change.DropColumn table field) next h = sound-altered w.created_tables (change.DropColumn table field) w.tables (all-free w.tables) h
changed-sound w (change.RenameColumn table field name) next h = sound-altered w.created_tables (change.RenameColumn table field name) w.tables (all-free w.tables) h
changed-sound w (change.PromoteColumn table field ty) next h = sound-altered w.created_tables (change.PromoteColumn table field ty) w.tables (all-free w.tables) h
changed-sound w (change.SetDefault table field value) next h = sound-altered w.created_tables (change.SetDefault table field value) w.tables (all-free w.tables) h
changed-sound w (change.Insert table rows) next h = sound-altered w.created_tables (change.Insert table rows) w.tables (all-free w.tables) h
changed-sound w (change.Delete table rows) next h = sound-altered w.created_tables (change.Delete table rows) w.tables (all-free w.tables) h
changed-sound w (change.Update table rows set) next h = sound-altered w.created_tables (change.Update table rows set) w.tables (all-free w.tables) h
changed-sound w (change.Compact table) next h = sound-altered w.created_tables (change.Compact table) w.tables (all-free w.tables) h
changed-sound w (change.Flush table) next h = sound-altered w.created_tables (change.Flush table) w.tables (all-free w.tables) h

-- ---- what a statement appends

-- the table that is found is the only one with its reference
only-found : (q : Draft → Bool) (ds : List Draft) (d : Draft) → find q ds ≡ Some d → Differ ds → AllByRecursion (λ (e : Draft). is_ref e.at d.at ≡ true → d.next_field ≡ e.next_field) ds
only-found q [] d e h = tt
only-found q (x ∷ ds) d e h = go (q x) refl (λ more. only-found q ds d more h.1)
  where
    others : (es : List Draft) → AllByRecursion (λ (y : Draft). is_ref y.at x.at ≡ false) es → AllByRecursion (λ (y : Draft). is_ref y.at x.at ≡ true → x.next_field ≡ y.next_field) es
    others [] k = tt
    others (y ∷ es) k = ((λ yes. absurd (true≢false (sym yes ∙ k.0))), others es k.1)

    go : (b : Bool) → q x ≡ b → (find q ds ≡ Some d → AllByRecursion (λ (y : Draft). is_ref y.at d.at ≡ true → d.next_field ≡ y.next_field) ds)
        → AllByRecursion (λ (y : Draft). is_ref y.at d.at ≡ true → d.next_field ≡ y.next_field) (x ∷ ds)
    go true is more =
        let some : Some x ≡ Some d = rw is at e in
        let same : x ≡ d = cc in
        let P : Draft → Type 0 = λ z. AllByRecursion (λ (y : Draft). is_ref y.at z.at ≡ true → z.next_field ≡ y.next_field) (x ∷ ds) in
        subst P same ((λ yes. refl), others ds h.0)
    go false is more =
        let found : find q ds ≡ Some d = rw is at e in
        let apart : is_ref x.at d.at ≡ false = ref_turned x.at d.at ∙ found-has (λ (y : Draft). is_ref y.at x.at ≡ false) q ds d found h.0 in
        ((λ yes. absurd (true≢false (sym yes ∙ apart))), more found)

insertion-adds : (ds : List Draft) (d : Draft) (rows : List (List Cell)) → plan.Holds (AddsNext ds) (r.insertion d rows)
insertion-adds ds d [] = plan.leaves (AddsNext ds) _
insertion-adds ds d (row ∷ rows) = plan.appends (AddsNext ds) _ _ tt

deletion-adds : (ds : List Draft) (d : Draft) (rows : List RowRef) → plan.Holds (AddsNext ds) (r.deletion d rows)
deletion-adds ds d [] = plan.leaves (AddsNext ds) _
deletion-adds ds d (row ∷ rows) = plan.appends (AddsNext ds) _ _ tt

updating-adds : (ds : List Draft) (d : Draft) (set : Cells) (rows : List RowRef) → plan.Holds (AddsNext ds) (r.updating d set rows)
updating-adds ds d set [] = plan.leaves (AddsNext ds) _
updating-adds ds d set (row ∷ rows) = plan.appends (AddsNext ds) _ _ tt

alters-adds : (next : ℕ) (w : Work) (x : Alter) (table : TableName) → Differ w.tables → plan.Holds (AddsNext w.tables) (p.alter_table next w table x)
alters-adds next w (alter.Add def) table h =
    plan.on_table-holds (AddsNext w.tables) w table _ (λ at d found. plan.unless-holds (AddsNext w.tables) _ _ (plan.appends (AddsNext w.tables) _ _ (only-found _ w.tables d found h)))
alters-adds next w (alter.Remove name) table h =
    plan.on_table-holds (AddsNext w.tables) w table _ (λ at d found. plan.of_column-holds (AddsNext w.tables) name _ (column_named d.columns name) (λ c. plan.unless-holds (AddsNext w.tables) _ _ (plan.appends (AddsNext w.tables) _ _ tt)))
alters-adds next w (alter.Rename name to) table h =
    plan.on_table-holds (AddsNext w.tables) w table _ (λ at d found. plan.of_column-holds (AddsNext w.tables) name _ (column_named d.columns name) (λ c. plan.unless-holds (AddsNext w.tables) _ _ (plan.appends (AddsNext w.tables) _ _ tt)))
alters-adds next w (alter.Promote name ty) table h =
    plan.on_table-holds (AddsNext w.tables) w table _ (λ at d found. plan.of_column-holds (AddsNext w.tables) name _ (column_named d.columns name) (λ c. plan.unless-holds (AddsNext w.tables) _ _ (plan.appends (AddsNext w.tables) _ _ tt)))
alters-adds next w (alter.SetDefault name v) table h =
    plan.on_table-holds (AddsNext w.tables) w table _ (λ at d found. plan.of_column-holds (AddsNext w.tables) name _ (column_named d.columns name) (λ c. plan.unless-holds (AddsNext w.tables) _ _ (plan.appends (AddsNext w.tables) _ _ tt)))

plans-add : (next : ℕ) (w : Work) (x : Stmt) → Differ w.tables → plan.Holds (AddsNext w.tables) (s.plan_in next w x)
plans-add next w (stmt.CreateSchema name) h = plan.unless-holds (AddsNext w.tables) _ _ (plan.appends (AddsNext w.tables) _ _ tt)
plans-add next w (stmt.DropSchema name) h = plan.in_schema-holds (AddsNext w.tables) name _ (p.schema_named w name) (λ at named. plan.unless-holds (AddsNext w.tables) _ _ (plan.appends (AddsNext w.tables) _ _ tt))
plans-add next w (stmt.CreateTable table columns) h = plan.in_schema-holds (AddsNext w.tables) table.schema _ (p.schema_named w table.schema) (λ at named. plan.unless-holds (AddsNext w.tables) _ _ (plan.appends (AddsNext w.tables) _ _ tt))
plans-add next w (stmt.DropTable table) h = plan.on_table-holds (AddsNext w.tables) w table _ (λ at d found. plan.appends (AddsNext w.tables) _ _ tt)
plans-add next w (stmt.Change table x) h = alters-adds next w x table h
plans-add next w (stmt.Insert table rows) h =
    plan.on_table-holds (AddsNext w.tables) w table _ (λ at d found. plan.unless-holds (AddsNext w.tables) _ _ (insertion-adds w.tables d rows))
plans-add next w (stmt.Delete table test) h =
    plan.on_table-holds (AddsNext w.tables) w table _ (λ at d found. plan.unless-holds (AddsNext w.tables) _ _ (deletion-adds w.tables d _))
plans-add next w (stmt.Update table set test) h =
    plan.on_table-holds (AddsNext w.tables) w table _ (λ at d found. plan.unless-holds (AddsNext w.tables) _ _ (updating-adds w.tables d _ _))
plans-add next w (stmt.Compact table) h = plan.on_table-holds (AddsNext w.tables) w table _ (λ at d found. plan.appends (AddsNext w.tables) _ _ tt)
plans-add next w (stmt.Flush table) h = plan.on_table-holds (AddsNext w.tables) w table _ (λ at d found. plan.appends (AddsNext w.tables) _ _ tt)
plans-add next w x h = plan.leaves (AddsNext w.tables) _

allowed-adds : (base : State) (before : List Change) (c : Change) → Differ (worked base before).tables → IsAllowed base before c → AddsNext (worked base before).tables c
allowed-adds base before (change.AddColumn table column) h k =
    let ds = (worked base before).tables in
    plan.appended-holds (AddsNext ds) _ _ k.answer k.plan_is (plan.plan_of-holds (AddsNext ds) base before k.stmt (plans-add base.next_catalog (worked base before) k.stmt h))
allowed-adds base before c h k = tt

-- ---- the whole list

pub worked-more : (base : State) (before : List Change) (c : Change) → worked base (before ++ c ∷ []) ≡ changed (worked base before) c
worked-more base before c = fold-append changed (begun base) before (c ∷ [])

fits-sound : (base : State) (before own : List Change) → FitsFrom base before own → Sound (worked base before).created_tables (worked base before).tables
    → Sound (fold changed (worked base before) own).created_tables (fold changed (worked base before) own).tables
fits-sound base before [] fits h = h
fits-sound base before (c ∷ own) fits h =
    let P : Work → Type 0 = λ w. Sound w.created_tables w.tables in
    let Q : Work → Type 0 = λ w. Sound (fold changed w own).created_tables (fold changed w own).tables in
    let one = changed-sound (worked base before) c (allowed-adds base before c h.differ fits.0) h in
    subst Q (worked-more base before c) (fits-sound base (before ++ c ∷ []) own fits.2 (subst P (sym (worked-more base before c)) one))

begun-sound : (limit : ℕ) (ts : List Table) → RiseBelow limit (map (λ (t : Table). t.id) ts) → AllByRecursion HasFieldIds ts → Sound 0 (map drafted ts)
begun-sound limit [] ids h = record { differ = tt; below = tt; fields = tt }
begun-sound limit (t ∷ ts) ids h =
    let rest = begun-sound limit ts ids.2 h.1 in
    record {
      differ = (apart ts ids.1, rest.differ);
      below = (tt, rest.below);
      fields = (record { rise = h.0.rise; positive = h.0.positive; next_positive = h.0.next_positive }, rest.fields);
    }
  where
    apart : (us : List Table) → AllByRecursion (λ y. t.id < y) (map (λ (u : Table). u.id) us) → AllByRecursion (λ (d : Draft). is_ref d.at (ref.Old t.id) ≡ false) (map drafted us)
    apart [] k = tt
    apart (u ∷ us) k = (ne_eqb u.id t.id (λ same. absurd (omega (arith, same, k.0))), apart us k.1)

pub field_ids_rise : FieldIdsRise
field_ids_rise s own ids fits h =
    let sound = fits-sound s [] own fits (begun-sound s.next_catalog s.tables ids.tables h) in
    all-mapped Fields HasFieldIds (settled_table s.next_catalog (worked s own).created)
    (λ d k. record { rise = k.rise; positive = k.positive; next_positive = k.next_positive }) (worked s own).tables sound.fields
