-- The fresh rows that a list leaves which a transaction may have can stand in files.
use Rattle.std.proofs.Common.{◌≡◌, ◌≢◌, ℕ, zero, suc, ◌+◌, ◌*◌, ◌<◌, ◌≤◌, ◌==◌, not, nat_lt, ◌++◌, Bool, true, false, cond, List, [], ◌∷◌, length, map, filter, fold, get_or, All, AllPairs, Option, Some, None, find, refl, sym, ap, subst, ◌∙◌, arith, true≢false}
use Rattle.std.specs.List.{AllByRecursion, AllZip, sum_by}
use Rattle.std.proofs.lemmas.Bool.{leb-true, ne_eqb, not-false}
use Rattle.std.proofs.lemmas.List.{append_assoc, append-nil}
use Rattle.std.proofs.lemmas.List.Elements.{All-cons, All-from_recursion}
use Rattle.std.proofs.lemmas.List.Kept.{AllPairs-cons}
use Rattle.std.proofs.lemmas.List.Sums.{sum_by-append, sum_by-cons}
use Rattle.lake_types.specs.Cells.{laid_cells}
use Rattle.lake_types.specs.Fits.{fits}
use Rattle.lake_types.specs.Weights.{row_weight}
use Rattle.lake_types.specs.declared.limits.TheConstants.{MAX_CELL_BYTES, MAX_COLUMNS, MAX_FIELD, MAX_NAME_BYTES, MAX_TXN_WEIGHT}
use Rattle.lake_types.specs.declared.stmt.Alter.{Alter}
use Rattle.lake_types.specs.declared.stmt.Alter.TheVariants as alter
use Rattle.lake_types.specs.declared.stmt.Cell.{Cell}
use Rattle.lake_types.specs.declared.stmt.ColumnDef.{ColumnDef}
use Rattle.lake_types.specs.declared.stmt.Stmt.{Stmt}
use Rattle.lake_types.specs.declared.stmt.Stmt.TheVariants as stmt
use Rattle.lake_types.specs.declared.value.Column.{Column}
use Rattle.lake_types.specs.declared.value.Value.{Value}
use Rattle.lake_types.specs.declared.value.Value.TheVariants as value
use Rattle.lake_types.specs.Cells.{column_named}
use Rattle.lake_model.specs.Apply.{Cells, Draft, Work, changed, created, drafted, fields_from, is_ref, left, with_rows, worked}
use Rattle.lake_model.specs.Fits.{AreCells, Fits, FitsFrom, IsAllowed, IsAtMost, IsColumn, IsSized}
use Rattle.lake_model.specs.Growth.{IsGrowth}
use Rattle.lake_model.specs.Plans as p
use Rattle.lake_model.specs.Plans.{Plan, columns_from, or_else, refused_if}
use Rattle.lake_model.specs.Rows as r
use Rattle.lake_model.specs.State.{State, Table}
use Rattle.lake_model.specs.Step as s
use Rattle.lake_model.specs.declared.answer.Answer.{Answer}
use Rattle.lake_model.specs.declared.change.Change.{Change}
use Rattle.lake_model.specs.declared.change.Change.TheVariants as change
use Rattle.lake_model.specs.declared.change.Ref.{Ref}
use Rattle.lake_model.specs.declared.change.Ref.TheVariants as ref
use Rattle.lake_model.proofs.FieldLemmas.{Differ, worked-more}
use Rattle.lake_model.proofs.PlanLemmas as plan
use Rattle.lake_model.proofs.RefLemmas.{ref-is, ref_turned}
use Rattle.pq_file.specs.Writable.{IsCell, IsShort}
use Rattle.cat_view.specs.Named.{NamedTable, NamedVersion}
use Rattle.row_files.specs.Fresh.{IsLaid, MayHold}
use Rattle.cat_view.specs.Workable.{AreColumns, AreTables, HasOtherField, HasOtherId}
use Rattle.row_files.specs.Growing.{HasFields, HasTables, IsSameTable, fresh_of, fresh_tables, has_rows, is_some_row}
use Rattle.row_files.specs.Own.{IsEarlier}
use Rattle.row_files.specs.Stages.{CanBeStaged}
use Rattle.lake_model.proofs.GrowthLemmas.{left_laid}
use Rattle.row_files.proofs.JoinLemmas.{drafts_are}
use Rattle.row_files.proofs.LaidLemmas.{kept, laid_twice, same_number}

-- ---- what a change was planned of

pub record PlannedRows (w : Work) (table : Ref) (rows : List Cells) : Type 0 where
  pub draft : Draft
  pub test : Draft → Bool
  pub found : find test w.tables ≡ Some draft
  pub at : draft.at ≡ table
  pub given : List (List Cell)
  pub faultless : r.rows_fault draft.columns given ≡ None
  pub rows_are : rows ≡ map (r.cells_of draft.columns) given

pub record PlannedColumns (columns : List Column) : Type 0 where
  pub defs : List ColumnDef
  pub are : columns ≡ columns_from 1 defs
  pub few : length defs ≤ MAX_COLUMNS

abbrev pub Planned : Work → Change → Type 0
Planned w (change.CreateTable schema name columns) = PlannedColumns columns
Planned w (change.Insert table rows) = PlannedRows w table rows
Planned w c = Unit {0}

insertion-planned : (w : Work) (d : Draft) (test : Draft → Bool) (rows : List (List Cell)) → find test w.tables ≡ Some d → r.rows_fault d.columns rows ≡ None → plan.Holds (Planned w) (r.insertion d rows)
insertion-planned w d test [] found none = plan.leaves (Planned w) _
insertion-planned w d test (row ∷ rows) found none =
    plan.appends (Planned w) _ _ (record { draft = d; test = test; found = found; at = refl; given = row ∷ rows; faultless = none; rows_are = refl })

deletion-planned : (w : Work) (d : Draft) (rows : _) → plan.Holds (Planned w) (r.deletion d rows)
deletion-planned w d [] = plan.leaves (Planned w) _
deletion-planned w d (row ∷ rows) = plan.appends (Planned w) _ _ tt

updating-planned : (w : Work) (d : Draft) (set : Cells) (rows : _) → plan.Holds (Planned w) (r.updating d set rows)
updating-planned w d set [] = plan.leaves (Planned w) _
updating-planned w d set (row ∷ rows) = plan.appends (Planned w) _ _ tt

alters-planned : (next : ℕ) (w : Work) (x : Alter) (d : Draft) → plan.Holds (Planned w) (p.alter_column next w x d)
alters-planned next w (alter.Add def) d = plan.unless-holds (Planned w) _ _ (plan.appends (Planned w) _ _ tt)
alters-planned next w (alter.Remove name) d = plan.of_column-holds (Planned w) name _ (column_named d.columns name) (λ c. plan.unless-holds (Planned w) _ _ (plan.appends (Planned w) _ _ tt))
alters-planned next w (alter.Rename name to) d = plan.of_column-holds (Planned w) name _ (column_named d.columns name) (λ c. plan.unless-holds (Planned w) _ _ (plan.appends (Planned w) _ _ tt))
alters-planned next w (alter.Promote name ty) d = plan.of_column-holds (Planned w) name _ (column_named d.columns name) (λ c. plan.unless-holds (Planned w) _ _ (plan.appends (Planned w) _ _ tt))
alters-planned next w (alter.SetDefault name v) d = plan.of_column-holds (Planned w) name _ (column_named d.columns name) (λ c. plan.unless-holds (Planned w) _ _ (plan.appends (Planned w) _ _ tt))

few_columns : (a b c : Option Answer) (n : ℕ) (why : Answer) → or_else a (or_else (refused_if (nat_lt MAX_COLUMNS n) why) c) ≡ None → n ≤ MAX_COLUMNS
few_columns a b c n why none =
    let over : nat_lt MAX_COLUMNS n ≡ false = plan.not_refused (nat_lt MAX_COLUMNS n) why (plan.first_none (refused_if (nat_lt MAX_COLUMNS n) why) c (plan.first_none a _ none).1).0 in
    grind (arith, over)

plans : (next : ℕ) (w : Work) (x : Stmt) → plan.Holds (Planned w) (s.plan_in next w x)
plans next w (stmt.CreateSchema name) = plan.unless-holds (Planned w) _ _ (plan.appends (Planned w) _ _ tt)
plans next w (stmt.DropSchema name) = plan.in_schema-holds (Planned w) name _ (p.schema_named w name) (λ at named. plan.unless-holds (Planned w) _ _ (plan.appends (Planned w) _ _ tt))
plans next w (stmt.CreateTable table defs) =
    plan.in_schema-holds (Planned w) table.schema _ (p.schema_named w table.schema)
    (λ at named. plan.unless-none (Planned w) _ _ (λ none. plan.appends (Planned w) _ _ (record { defs = defs; are = refl; few = few_columns _ None _ (length defs) _ none })))
plans next w (stmt.DropTable table) = plan.on_table-holds (Planned w) w table _ (λ at d found. plan.appends (Planned w) _ _ tt)
plans next w (stmt.Change table x) = plan.on_table-holds (Planned w) w table _ (λ at d found. alters-planned next w x d)
plans next w (stmt.Insert table rows) =
    plan.on_table-holds (Planned w) w table _ (λ at d found. plan.unless-none (Planned w) (r.rows_fault d.columns rows) _ (λ none. insertion-planned w d _ rows found none))
plans next w (stmt.Delete table test) = plan.on_table-holds (Planned w) w table _ (λ at d found. plan.unless-holds (Planned w) _ _ (deletion-planned w d _))
plans next w (stmt.Update table set test) = plan.on_table-holds (Planned w) w table _ (λ at d found. plan.unless-holds (Planned w) _ _ (updating-planned w d _ _))
plans next w (stmt.Compact table) = plan.on_table-holds (Planned w) w table _ (λ at d found. plan.appends (Planned w) _ _ tt)
plans next w (stmt.Flush table) = plan.on_table-holds (Planned w) w table _ (λ at d found. plan.appends (Planned w) _ _ tt)
plans next w x = plan.leaves (Planned w) _

pub planned : (base : State) (before : List Change) (c : Change) → IsGrowth c → IsAllowed base before c → Planned (worked base before) c
planned base before (change.CreateTable schema name columns) g k =
    let w = worked base before in
    plan.appended-holds (Planned w) _ _ k.answer k.plan_is (plan.plan_of-holds (Planned w) base before k.stmt (plans base.next_catalog w k.stmt))
planned base before (change.Insert table rows) g k =
    let w = worked base before in
    plan.appended-holds (Planned w) _ _ k.answer k.plan_is (plan.plan_of-holds (Planned w) base before k.stmt (plans base.next_catalog w k.stmt))
planned base before (change.CreateSchema name) g k = tt
planned base before (change.DropSchema schema) g k = tt
planned base before (change.DropTable table) g k = tt
planned base before (change.AddColumn table column) g k = absurd g
planned base before (change.DropColumn table field) g k = absurd g
planned base before (change.RenameColumn table field name) g k = absurd g
planned base before (change.PromoteColumn table field ty) g k = absurd g
planned base before (change.SetDefault table field v) g k = absurd g
planned base before (change.Delete table rows) g k = absurd g
planned base before (change.Update table rows set) g k = absurd g
planned base before (change.Compact table) g k = absurd g
planned base before (change.Flush table) g k = absurd g

-- ---- created columns

fields_past : (k n : ℕ) (defs : List ColumnDef) → n < k → All (λ (c : Column). n ≢ c.field) (columns_from k defs)
fields_past k n [] lt = λ i d within. absurd (omega (arith, within))
fields_past k n (def ∷ defs) lt =
    All-cons (λ (c : Column). n ≢ c.field) (p.column_of k def) (columns_from (k + 1) defs) (λ same. absurd (omega (arith, same, lt))) (fields_past (k + 1) n defs (omega (arith, lt)))

fields_apart : (k : ℕ) (defs : List ColumnDef) → AllPairs HasOtherField (columns_from k defs)
fields_apart k [] = λ i j d lt within. absurd (omega (arith, within))
fields_apart k (def ∷ defs) = AllPairs-cons HasOtherField (p.column_of k def) (columns_from (k + 1) defs) (fields_past (k + 1) k defs (omega arith)) (fields_apart (k + 1) defs)

fields_small : (k : ℕ) (defs : List ColumnDef) → k + length defs ≤ MAX_FIELD → All (λ (c : Column). c.field < MAX_FIELD) (columns_from k defs)
fields_small k [] few = λ i d within. absurd (omega (arith, within))
fields_small k (def ∷ defs) few =
    All-cons (λ (c : Column). c.field < MAX_FIELD) (p.column_of k def) (columns_from (k + 1) defs) (omega (arith, few)) (fields_small (k + 1) defs (omega (arith, few)))

names_short : (columns : List Column) → AllByRecursion IsColumn columns → All (λ (c : Column). length c.name ≤ MAX_NAME_BYTES) columns
names_short [] all = λ i d within. absurd (omega (arith, within))
names_short (c ∷ columns) all = All-cons (λ (x : Column). length x.name ≤ MAX_NAME_BYTES) c columns all.0.0 (names_short columns all.1)

created_columns : (columns : List Column) → PlannedColumns columns → AllByRecursion IsColumn columns → AreColumns columns
created_columns columns planned sized = record {
  few = omega (arith, ap length planned.are, plan.columns-length 1 planned.defs, planned.few);
  names = names_short columns sized;
  fields = subst (All (λ (c : Column). c.field < MAX_FIELD)) (sym planned.are) (fields_small 1 planned.defs (omega (arith, planned.few)));
  differ = subst (AllPairs HasOtherField) (sym planned.are) (fields_apart 1 planned.defs);
}

has_fields : (columns : List Column) → PlannedColumns columns → fields_from 1 columns ≡ columns
has_fields columns planned = ap (fields_from 1) planned.are ∙ plan.fields-are 1 planned.defs ∙ sym planned.are

-- ---- cells of a row

short_cell : (v : Value) → IsAtMost MAX_CELL_BYTES v → IsShort v
short_cell (value.Text x) h = h
short_cell (value.Bytes x) h = h
short_cell value.Null h = tt
short_cell (value.Bool b) h = tt
short_cell (value.Int n) h = tt
short_cell (value.Date d) h = tt

cell_fits : (c : Column) (x : Cell) → r.cell_fault c x ≡ None → fits (r.given c x) c.ty ≡ true
cell_fits c x none = not-false (fits (r.given c x) c.ty) (plan.not_refused (not (fits (r.given c x) c.ty)) _ (plan.first_none _ _ none).0)

row_fits : (columns : List Column) (row : List Cell) → AllPairs HasOtherField columns → length columns ≡ length row → r.cells_fault columns row ≡ None → AreCells (r.cells_of columns row)
    → All (λ c. MayHold c (r.cells_of columns row)) columns
row_fits [] row apart count none sized = λ i d within. absurd (omega (arith, within))
row_fits (c ∷ columns) [] apart count none sized = absurd (omega (arith, count))
row_fits (c ∷ columns) (x ∷ row) apart count none sized =
    let both = plan.first_none (r.cell_fault c x) (r.cells_fault columns row) none in
    let rest : All (λ d. MayHold d (r.cells_of columns row)) columns =
    row_fits columns row (λ i j d lt within. apart (suc i) (suc j) d (omega (arith, lt)) (omega (arith, within))) (omega (arith, count)) both.1 sized.1 in
    let one : IsCell c.ty (r.given c x) = record { short = short_cell (r.given c x) sized.0; fits = cell_fits c x both.0 } in
    All-cons (λ d. MayHold d (r.cells_of (c ∷ columns) (x ∷ row))) c columns (rw (same_number c.field) one)
    (λ k d lt. rw (ne_eqb c.field (get_or columns k d).field (apart zero (suc k) d (omega arith) (omega (arith, lt)))) (rest k d lt))

-- ---- rows that can stand in a file

pub record IsGoodRow (columns : List Column) (cells : Cells) : Type 0 where
  pub laid : IsLaid columns cells
  pub fit : All (λ c. MayHold c cells) columns

abbrev pub RowOf : List Column → Option Cells → Type 0
RowOf columns None = Unit {0}
RowOf columns (Some cells) = IsGoodRow columns cells

-- a draft whose columns files can hold, and whose fresh rows stand in them and weigh at most so much
pub record IsGood (most : ℕ) (d : Draft) : Type 0 where
  pub columns : AreColumns d.columns
  pub rows : AllByRecursion (RowOf d.columns) d.fresh
  pub light : sum_by row_weight (left d.fresh) ≤ most

good_row : (columns : List Column) (row : List Cell) → AllPairs HasOtherField columns → r.row_fault columns row ≡ None → AreCells (r.cells_of columns row)
    → IsGoodRow columns (laid_cells columns (r.cells_of columns row))
good_row columns row apart none sized =
    let both = plan.first_none _ (r.cells_fault columns row) none in
    let alike : (length columns == length row) ≡ true = not-false (length columns == length row) (plan.not_refused _ _ both.0) in
    let fit = row_fits columns row apart (grind (arith, alike)) both.1 sized in
    record {
      laid = laid_twice columns (r.cells_of columns row) apart;
      fit = λ k d lt. subst (λ v. IsCell (get_or columns k d).ty v) (sym (kept columns (r.cells_of columns row) apart k d lt)) (fit k d lt);
    }

good_rows : (columns : List Column) (given : List (List Cell)) → AllPairs HasOtherField columns → r.rows_fault columns given ≡ None → AllByRecursion AreCells (map (r.cells_of columns) given)
    → AllByRecursion (RowOf columns) (map (λ cells. Some (laid_cells columns cells)) (map (r.cells_of columns) given))
good_rows columns [] apart none sized = tt
good_rows columns (row ∷ given) apart none sized =
    let both = plan.first_none (r.row_fault columns row) (r.rows_fault columns given) none in
    (good_row columns row apart both.0 sized.0, good_rows columns given apart both.1 sized.1)

joined : {X : Type 0} (P : X → Type 0) (xs ys : List X) → AllByRecursion P xs → AllByRecursion P ys → AllByRecursion P (xs ++ ys)
joined P [] ys one two = two
joined P (x ∷ xs) ys one two = (one.0, joined P xs ys one.1 two)

left_both : (xs ys : List (Option Cells)) → left (xs ++ ys) ≡ left xs ++ left ys
left_both [] ys = refl
left_both (None ∷ xs) ys = left_both xs ys
left_both (Some x ∷ xs) ys = ap (λ l. x ∷ l) (left_both xs ys)

-- the weight with rows that are inserted
more_weight : (d : Draft) (rows : List Cells) → sum_by row_weight (left (with_rows rows d).fresh) ≡ sum_by row_weight (left d.fresh) + sum_by row_weight (map (laid_cells d.columns) rows)
more_weight d rows =
    ap (sum_by row_weight) (left_both d.fresh (map (λ cells. Some (laid_cells d.columns cells)) rows) ∙ ap (λ l. left d.fresh ++ l) (left_laid d.columns rows))
    ∙ sum_by-append row_weight (left d.fresh) (map (laid_cells d.columns) rows)

-- ---- drafts have references of their own

pub record AreGood (most n : ℕ) (ds : List Draft) : Type 0 where
  pub good : AllByRecursion (IsGood most) ds
  pub below : AllByRecursion (λ (d : Draft). IsEarlier n d.at) ds
  pub differ : Differ ds

-- the draft that is found is the only one with its reference
alone : (q : Draft → Bool) (ds : List Draft) (d : Draft) → find q ds ≡ Some d → Differ ds → AllByRecursion (λ (e : Draft). is_ref e.at d.at ≡ true → e ≡ d) ds
alone q [] d e h = tt
alone q (x ∷ ds) d e h = go (q x) refl (λ more. alone q ds d more h.1)
  where
    others : (es : List Draft) → AllByRecursion (λ (y : Draft). is_ref y.at x.at ≡ false) es → AllByRecursion (λ (y : Draft). is_ref y.at x.at ≡ true → y ≡ x) es
    others [] k = tt
    others (y ∷ es) k = ((λ same. absurd (true≢false (sym same ∙ k.0))), others es k.1)

    go : (b : Bool) → q x ≡ b → (find q ds ≡ Some d → AllByRecursion (λ (y : Draft). is_ref y.at d.at ≡ true → y ≡ d) ds) → AllByRecursion (λ (y : Draft). is_ref y.at d.at ≡ true → y ≡ d) (x ∷ ds)
    go true is more =
        let some : Some x ≡ Some d = rw is at e in
        let same : x ≡ d = cc in
        subst (λ z. AllByRecursion (λ (y : Draft). is_ref y.at z.at ≡ true → y ≡ z) (x ∷ ds)) same ((λ yes_. refl), others ds h.0)
    go false is more =
        let found : find q ds ≡ Some d = rw is at e in
        let apart : is_ref x.at d.at ≡ false = ref_turned x.at d.at ∙ plan.found-has (λ (y : Draft). is_ref y.at x.at ≡ false) q ds d found h.0 in
        ((λ same. absurd (true≢false (sym same ∙ apart))), more found)

by_reference : (q : Draft → Bool) (ds : List Draft) (d : Draft) → find q ds ≡ Some d → Differ ds → find (λ (e : Draft). is_ref e.at d.at) ds ≡ Some d
by_reference q [] d e h = absurd cc
by_reference q (x ∷ ds) d e h = go (q x) refl (λ more. by_reference q ds d more h.1)
  where
    go : (b : Bool) → q x ≡ b → (find q ds ≡ Some d → find (λ (y : Draft). is_ref y.at d.at) ds ≡ Some d) → find (λ (y : Draft). is_ref y.at d.at) (x ∷ ds) ≡ Some d
    go true is more =
        let some : Some x ≡ Some d = rw is at e in
        let same : x ≡ d = cc in
        let itself : is_ref x.at d.at ≡ true = ref-is x.at d.at (ap (λ (y : Draft). y.at) same) in
        rw itself some
    go false is more =
        let found : find q ds ≡ Some d = rw is at e in
        let apart : is_ref x.at d.at ≡ false = ref_turned x.at d.at ∙ plan.found-has (λ (y : Draft). is_ref y.at x.at ≡ false) q ds d found h.0 in
        rw apart (more found)

-- ---- one change

only_left : (P : Draft → Type 0) (q : Draft → Bool) (ds : List Draft) → AllByRecursion P ds → AllByRecursion P (filter q ds)
only_left P q [] all = tt
only_left P q (d ∷ ds) all = go (q d) refl (only_left P q ds all.1)
  where
    go : (b : Bool) → q d ≡ b → AllByRecursion P (filter q ds) → AllByRecursion P (filter q (d ∷ ds))
    go true e more = rw e (all.0, more)
    go false e more = rw e more

new_ref : (n : ℕ) (at : Ref) → IsEarlier n at → is_ref (ref.New n) at ≡ false
new_ref n (ref.Old id) h = refl
new_ref n (ref.New place) h = ne_eqb n place (λ same. absurd (omega (arith, same, h)))

later_ref : (n : ℕ) (at : Ref) → IsEarlier n at → IsEarlier (n + 1) at
later_ref n (ref.Old id) h = tt
later_ref n (ref.New place) h = omega (arith, h)

heavier : (most more : ℕ) (ds : List Draft) → most ≤ more → AllByRecursion (IsGood most) ds → AllByRecursion (IsGood more) ds
heavier most more [] le all = tt
heavier most more (d ∷ ds) le all = (record { columns = all.0.columns; rows = all.0.rows; light = omega (arith, all.0.light, le) }, heavier most more ds le all.1)

differ_left : (q : Draft → Bool) (ds : List Draft) → Differ ds → Differ (filter q ds)
differ_left q [] h = tt
differ_left q (d ∷ ds) h = go (q d) refl (only_left (λ (e : Draft). is_ref e.at d.at ≡ false) q ds h.0) (differ_left q ds h.1)
  where
    go : (b : Bool) → q d ≡ b → AllByRecursion (λ (e : Draft). is_ref e.at d.at ≡ false) (filter q ds) → Differ (filter q ds) → Differ (filter q (d ∷ ds))
    go true e one more = rw e (one, more)
    go false e one more = rw e more

left_good : (most n : ℕ) (q : Draft → Bool) (ds : List Draft) → AreGood most n ds → AreGood most n (filter q ds)
left_good most n q ds h = record { good = only_left (IsGood most) q ds h.good; below = only_left (λ (d : Draft). IsEarlier n d.at) q ds h.below; differ = differ_left q ds h.differ }

new_apart : (n : ℕ) (ds : List Draft) → AllByRecursion (λ (d : Draft). IsEarlier n d.at) ds → (d : Draft) → d.at ≡ ref.New n → Differ ds → Differ (ds ++ d ∷ [])
new_apart n [] below d is h = (tt, tt)
new_apart n (e ∷ ds) below d is h =
    (joined (λ (x : Draft). is_ref x.at e.at ≡ false) ds (d ∷ []) h.0 (ap (λ a. is_ref a e.at) is ∙ new_ref n e.at below.0, tt), new_apart n ds below.1 d is h.1)

still_below : (n : ℕ) (ds : List Draft) → AllByRecursion (λ (d : Draft). IsEarlier n d.at) ds → AllByRecursion (λ (d : Draft). IsEarlier (n + 1) d.at) ds
still_below n [] all = tt
still_below n (d ∷ ds) all = (later_ref n d.at all.0, still_below n ds all.1)

created_good : (most n : ℕ) (ds : List Draft) (schema : Ref) (name : List ℕ) (columns : List Column) → AreColumns (fields_from 1 columns) → AreGood most n ds
    → AreGood most (n + 1) (ds ++ created n schema name columns ∷ [])
created_good most n ds schema name columns are h = record {
  good = joined (IsGood most) ds (created n schema name columns ∷ []) h.good (record { columns = are; rows = tt; light = omega arith }, tt);
  below = joined (λ (d : Draft). IsEarlier (n + 1) d.at) ds (created n schema name columns ∷ []) (still_below n ds h.below) (omega arith, tt);
  differ = new_apart n ds h.below (created n schema name columns) refl h.differ;
}

module _ (table : Ref) (rows : List Cells) (most : ℕ) (d : Draft) (at : d.at ≡ table) (are : AllByRecursion (RowOf d.columns) (map (λ cells. Some (laid_cells d.columns cells)) rows)) where
  abbrev inserted_at : Draft → Draft
  inserted_at e = cond (is_ref e.at table) (with_rows rows e) e

  abbrev heavy : ℕ
  heavy = most + sum_by row_weight (map (laid_cells d.columns) rows)

  one_good : (e : Draft) → (is_ref e.at d.at ≡ true → e ≡ d) → IsGood most e → IsGood heavy (inserted_at e)
  one_good e same good = go (is_ref e.at table) refl
    where
      rows_in : IsGood most d → IsGood heavy (with_rows rows d)
      rows_in g = record {
        columns = g.columns;
        rows = joined (RowOf d.columns) d.fresh (map (λ cells. Some (laid_cells d.columns cells)) rows) g.rows are;
        light = omega (arith, more_weight d rows, g.light);
      }

      go : (b : Bool) → is_ref e.at table ≡ b → IsGood heavy (inserted_at e)
      go true is =
          let e_is : e ≡ d = same (ap (is_ref e.at) at ∙ is) in
          rw is (subst (λ x. IsGood heavy (with_rows rows x)) (sym e_is) (rows_in (subst (IsGood most) e_is good)))
      go false is = rw is (record { columns = good.columns; rows = good.rows; light = omega (arith, good.light) })

  inserted_ref : (e : Draft) → (inserted_at e).at ≡ e.at
  inserted_ref e = go (is_ref e.at table)
    where
      go : (b : Bool) → (cond b (with_rows rows e) e).at ≡ e.at
      go true = refl
      go false = refl

  all_inserted : (ds : List Draft) → AllByRecursion (λ (e : Draft). is_ref e.at d.at ≡ true → e ≡ d) ds → AllByRecursion (IsGood most) ds → AllByRecursion (IsGood heavy) (map inserted_at ds)
  all_inserted [] same all = tt
  all_inserted (e ∷ ds) same all = (one_good e same.0 all.0, all_inserted ds same.1 all.1)

  all_below : (n : ℕ) (ds : List Draft) → AllByRecursion (λ (e : Draft). IsEarlier n e.at) ds → AllByRecursion (λ (e : Draft). IsEarlier n e.at) (map inserted_at ds)
  all_below n [] all = tt
  all_below n (e ∷ ds) all = (subst (IsEarlier n) (sym (inserted_ref e)) all.0, all_below n ds all.1)

  apart_from : (x : Ref) (ds : List Draft) → AllByRecursion (λ (e : Draft). is_ref e.at x ≡ false) ds → AllByRecursion (λ (e : Draft). is_ref e.at x ≡ false) (map inserted_at ds)
  apart_from x [] all = tt
  apart_from x (e ∷ ds) all = (ap (λ a. is_ref a x) (inserted_ref e) ∙ all.0, apart_from x ds all.1)

  all_differ : (ds : List Draft) → Differ ds → Differ (map inserted_at ds)
  all_differ [] h = tt
  all_differ (e ∷ ds) h =
      (subst (λ a. AllByRecursion (λ (x : Draft). is_ref x.at a ≡ false) (map inserted_at ds)) (sym (inserted_ref e)) (apart_from e.at ds h.0), all_differ ds h.1)

  inserted_good : (n : ℕ) (q : Draft → Bool) (ds : List Draft) → find q ds ≡ Some d → AreGood most n ds → AreGood heavy n (map inserted_at ds)
  inserted_good n q ds found h = record { good = all_inserted ds (alone q ds d found h.differ) h.good; below = all_below n ds h.below; differ = all_differ ds h.differ }

-- ---- the list

more_good : (most more n : ℕ) (ds : List Draft) → most ≤ more → AreGood most n ds → AreGood more n ds
more_good most more n ds le h = record { good = heavier most more ds le h.good; below = h.below; differ = h.differ }

abbrev IsGoodWork : ℕ → Work → Type 0
IsGoodWork most w = AreGood most w.created_tables w.tables

step_good : (w : Work) (before : List Change) (c : Change) (most : ℕ) → IsGrowth c → IsSized c → Planned w c → IsGoodWork most w → IsGoodWork (most + r.change_weight w before c) (changed w c)
step_good w before (change.CreateSchema name) most g sized planned h = more_good most (most + 0) w.created_tables w.tables (omega arith) h
step_good w before (change.DropSchema schema) most g sized planned h = more_good most (most + 0) w.created_tables w.tables (omega arith) h
step_good w before (change.CreateTable schema name columns) most g sized planned h =
    let are : AreColumns (fields_from 1 columns) = subst AreColumns (sym (has_fields columns planned)) (created_columns columns planned sized.2) in
    more_good most (most + 0) (w.created_tables + 1) (w.tables ++ created w.created_tables schema name columns ∷ []) (omega arith)
    (created_good most w.created_tables w.tables schema name columns are h)
step_good w before (change.DropTable table) most g sized planned h =
    more_good most (most + 0) w.created_tables (filter (λ (d : Draft). not (is_ref d.at table)) w.tables) (omega arith)
    (left_good most w.created_tables (λ (d : Draft). not (is_ref d.at table)) w.tables h)
step_good w before (change.Insert table rows) most g sized planned h =
    let d : Draft = planned.draft in
    let good : IsGood most d = plan.found-has (IsGood most) planned.test w.tables d planned.found h.good in
    let are : AllByRecursion (RowOf d.columns) (map (λ cells. Some (laid_cells d.columns cells)) rows) =
    subst (λ rs. AllByRecursion (RowOf d.columns) (map (λ cells. Some (laid_cells d.columns cells)) rs)) (sym planned.rows_are)
    (good_rows d.columns planned.given good.columns.differ planned.faultless (subst (AllByRecursion AreCells) planned.rows_are sized)) in
    let found : r.draft_at w table ≡ Some d =
    subst (λ a. find (λ (e : Draft). is_ref e.at a) w.tables ≡ Some d) planned.at (by_reference planned.test w.tables d planned.found h.differ) in
    let weight : r.insert_weight rows (r.draft_at w table) ≡ sum_by row_weight (map (laid_cells d.columns) rows) = ap (r.insert_weight rows) found in
    more_good (most + sum_by row_weight (map (laid_cells d.columns) rows)) (most + r.insert_weight rows (r.draft_at w table)) w.created_tables
    (map (inserted_at table rows most d planned.at are) w.tables) (omega (arith, weight))
    (inserted_good table rows most d planned.at are w.created_tables planned.test w.tables planned.found h)
step_good w before (change.AddColumn table column) most g sized planned h = absurd g
step_good w before (change.DropColumn table field) most g sized planned h = absurd g
step_good w before (change.RenameColumn table field name) most g sized planned h = absurd g
step_good w before (change.PromoteColumn table field ty) most g sized planned h = absurd g
step_good w before (change.SetDefault table field v) most g sized planned h = absurd g
step_good w before (change.Delete table rows) most g sized planned h = absurd g
step_good w before (change.Update table rows set) most g sized planned h = absurd g
step_good w before (change.Compact table) most g sized planned h = absurd g
step_good w before (change.Flush table) most g sized planned h = absurd g

all_good : (base : State) (before own : List Change) (most : ℕ) → FitsFrom base before own → AllByRecursion IsGrowth own → IsGoodWork most (worked base before)
    → IsGoodWork (most + r.weight_from (worked base before) before own) (fold changed (worked base before) own)
all_good base before [] most fits growth h = more_good most (most + 0) (worked base before).created_tables (worked base before).tables (omega arith) h
all_good base before (c ∷ own) most fits growth h =
    let w : Work = worked base before in
    let next : worked base (before ++ c ∷ []) ≡ changed w c = worked-more base before c in
    let one : IsGoodWork (most + r.change_weight w before c) (changed w c) = step_good w before c most growth.0 fits.1 (planned base before c growth.0 fits.0) h in
    let rest = all_good base (before ++ c ∷ []) own (most + r.change_weight w before c) fits.2 growth.1 (subst (IsGoodWork (most + r.change_weight w before c)) (sym next) one) in
    let there : IsGoodWork ((most + r.change_weight w before c) + r.weight_from (changed w c) (before ++ c ∷ []) own) (fold changed (changed w c) own) =
    subst (λ v. IsGoodWork ((most + r.change_weight w before c) + r.weight_from v (before ++ c ∷ []) own) (fold changed v own)) next rest in
    let last : Work = fold changed (changed w c) own in
    more_good ((most + r.change_weight w before c) + r.weight_from (changed w c) (before ++ c ∷ []) own) (most + r.weight_from w before (c ∷ own)) last.created_tables last.tables (omega arith) there

-- ---- its weight

module _ (base : State) (own : List Change) where
  abbrev HasRoom : Change → Type 0
  HasRoom c = s.has_room base (own ++ c ∷ []) ≡ true

  within_room : (q : Plan) → plan.Holds HasRoom (s.within base own q)
  within_room (p.Refuse a) = plan.refuses HasRoom a
  within_room (p.Leave a) = plan.leaves HasRoom a
  within_room (p.Append c a) = go (s.has_room base (own ++ c ∷ [])) refl
    where
      go : (b : Bool) → s.has_room base (own ++ c ∷ []) ≡ b → plan.Holds HasRoom (s.within base own (p.Append c a))
      go true e = rw e (plan.appends HasRoom c a e)
      go false e = rw e (plan.refuses HasRoom _)

  plan_room : (x : Stmt) → plan.Holds HasRoom (s.plan_of base own x)
  plan_room x = go (s.is_mixed own x) refl
    where
      go : (b : Bool) → s.is_mixed own x ≡ b → plan.Holds HasRoom (s.plan_of base own x)
      go true e = rw e (plan.refuses HasRoom _)
      go false e = rw e (within_room (s.plan_in base.next_catalog (worked base own) x))

one_room : (base : State) (before : List Change) (c : Change) → IsGrowth c → IsAllowed base before c → s.has_room base (before ++ c ∷ []) ≡ true
one_room base before (change.CreateSchema name) g k = plan.appended-holds (HasRoom base before) _ _ k.answer k.plan_is (plan_room base before k.stmt)
one_room base before (change.DropSchema schema) g k = plan.appended-holds (HasRoom base before) _ _ k.answer k.plan_is (plan_room base before k.stmt)
one_room base before (change.CreateTable schema name columns) g k = plan.appended-holds (HasRoom base before) _ _ k.answer k.plan_is (plan_room base before k.stmt)
one_room base before (change.DropTable table) g k = plan.appended-holds (HasRoom base before) _ _ k.answer k.plan_is (plan_room base before k.stmt)
one_room base before (change.Insert table rows) g k = plan.appended-holds (HasRoom base before) _ _ k.answer k.plan_is (plan_room base before k.stmt)
one_room base before (change.AddColumn table column) g k = absurd g
one_room base before (change.DropColumn table field) g k = absurd g
one_room base before (change.RenameColumn table field name) g k = absurd g
one_room base before (change.PromoteColumn table field ty) g k = absurd g
one_room base before (change.SetDefault table field v) g k = absurd g
one_room base before (change.Delete table rows) g k = absurd g
one_room base before (change.Update table rows set) g k = absurd g
one_room base before (change.Compact table) g k = absurd g
one_room base before (change.Flush table) g k = absurd g

all_room : (base : State) (before own : List Change) → FitsFrom base before own → AllByRecursion IsGrowth own → r.own_weight base before ≤ MAX_TXN_WEIGHT → r.own_weight base (before ++ own) ≤ MAX_TXN_WEIGHT
all_room base before [] fits growth light = subst (λ l. r.own_weight base l ≤ MAX_TXN_WEIGHT) (sym (append-nil before)) light
all_room base before (c ∷ own) fits growth light =
    let room : s.has_room base (before ++ c ∷ []) ≡ true = one_room base before c growth.0 fits.0 in
    subst (λ l. r.own_weight base l ≤ MAX_TXN_WEIGHT) (append_assoc before (c ∷ []) own) (all_room base (before ++ c ∷ []) own fits.2 growth.1 (leb-true (r.own_weight base (before ++ c ∷ [])) MAX_TXN_WEIGHT room))

-- ---- the base

base_apart : (x : NamedTable) (ts : List Table) (xs : List NamedTable) → AllZip IsSameTable ts xs → All (HasOtherId x) xs
    → AllByRecursion (λ (d : Draft). is_ref d.at (ref.Old x.id) ≡ false) (map drafted ts)
base_apart x [] [] same others = tt
base_apart x [] (y ∷ ys) same others = absurd same
base_apart x (t ∷ ts) [] same others = absurd same
base_apart x (t ∷ ts) (y ∷ ys) same others =
    (ne_eqb t.id x.id (λ alike. others 0 y (omega arith) (sym alike ∙ same.0.id)), base_apart x ts ys same.1 (λ k d lt. others (suc k) d (omega (arith, lt))))

base_good : (ts : List Table) (xs : List NamedTable) → AllZip IsSameTable ts xs → AllPairs HasOtherId xs → AllByRecursion (λ (x : NamedTable). AreColumns x.columns) xs → AreGood 0 0 (map drafted ts)
base_good [] [] same ids columns = record { good = tt; below = tt; differ = tt }
base_good [] (x ∷ xs) same ids columns = absurd same
base_good (t ∷ ts) [] same ids columns = absurd same
base_good (t ∷ ts) (x ∷ xs) same ids columns =
    let rest = base_good ts xs same.1 (λ i j d lt within. ids (suc i) (suc j) d (omega (arith, lt)) (omega (arith, within))) columns.1 in
    let others : All (HasOtherId x) xs = λ k d lt. ids 0 (suc k) d (omega arith) (omega (arith, lt)) in
    record {
      good = (record { columns = subst AreColumns (sym same.0.columns) columns.0; rows = tt; light = omega arith }, rest.good);
      below = (tt, rest.below);
      differ = (subst (λ id. AllByRecursion (λ (d : Draft). is_ref d.at (ref.Old id) ≡ false) (map drafted ts)) (sym same.0.id) (base_apart x ts xs same.1 others), rest.differ);
    }

-- ---- the whole

rows_heavy : (rows : List Cells) → 16 * length rows ≤ sum_by row_weight rows
rows_heavy [] = omega arith
rows_heavy (cells ∷ rows) = omega (arith, rows_heavy rows, sum_by-cons row_weight cells rows)

rows_of_left : (columns : List Column) (fresh : List (Option Cells)) → AllByRecursion (RowOf columns) fresh → AllByRecursion (IsGoodRow columns) (left fresh)
rows_of_left columns [] all = tt
rows_of_left columns (None ∷ fresh) all = rows_of_left columns fresh all.1
rows_of_left columns (Some cells ∷ fresh) all = (all.0, rows_of_left columns fresh all.1)

some_rows : (rows : List Cells) → is_some_row rows ≡ true → 1 ≤ length rows
some_rows [] some = absurd cc
some_rows (cells ∷ rows) some = omega arith

can_stage : (most : ℕ) (d : Draft) → most ≤ MAX_TXN_WEIGHT → IsGood most d → has_rows (fresh_of d) ≡ true → CanBeStaged (fresh_of d)
can_stage most d light good some =
    let rows : All (IsGoodRow d.columns) (left d.fresh) = All-from_recursion (IsGoodRow d.columns) (left d.fresh) (rows_of_left d.columns d.fresh good.rows) in
    record {
      columns = good.columns;
      rows = record {
        some = some_rows (left d.fresh) some;
        few = omega (arith, rows_heavy (left d.fresh), good.light, light);
        laid = λ k c lt. (rows k c lt).laid;
        fit = λ k c lt i cells within. (rows i cells within).fit k c lt;
        light = omega (arith, good.light, light);
      };
    }

all_can : (most : ℕ) (ds : List Draft) → most ≤ MAX_TXN_WEIGHT → AllByRecursion (IsGood most) ds → AllByRecursion CanBeStaged (filter has_rows (map fresh_of ds))
all_can most [] light all = tt
all_can most (d ∷ ds) light all = go (has_rows (fresh_of d)) refl (all_can most ds light all.1)
  where
    go : (b : Bool) → has_rows (fresh_of d) ≡ b → AllByRecursion CanBeStaged (filter has_rows (map fresh_of ds)) → AllByRecursion CanBeStaged (filter has_rows (map fresh_of (d ∷ ds)))
    go true e more = rw e (can_stage most d light all.0 e, more)
    go false e more = rw e more

pub can_be_staged : (v : NamedVersion) (state : State) (own : List Change) → AllByRecursion IsGrowth own → AreTables v.tables → HasTables v state → Fits state own → All CanBeStaged (fresh_tables v own)
can_be_staged v state own growth tables same fits =
    let good = all_good state [] own 0 fits growth (base_good state.tables v.tables same tables.ids tables.columns) in
    let light : r.own_weight state own ≤ MAX_TXN_WEIGHT = all_room state [] own fits growth (omega arith) in
    subst (λ ts. All CanBeStaged (filter has_rows ts)) (drafts_are v state own growth same)
    (All-from_recursion CanBeStaged (filter has_rows (map fresh_of (worked state own).tables)) (all_can (0 + r.own_weight state own) (worked state own).tables (omega (arith, light)) good.good))

fields_of : (base : State) (before : List Change) (c : Change) → IsGrowth c → IsAllowed base before c → HasFields c
fields_of base before (change.CreateTable schema name columns) g k = has_fields columns (planned base before (change.CreateTable schema name columns) g k)
fields_of base before (change.CreateSchema name) g k = tt
fields_of base before (change.DropSchema schema) g k = tt
fields_of base before (change.DropTable table) g k = tt
fields_of base before (change.Insert table rows) g k = tt
fields_of base before (change.AddColumn table column) g k = tt
fields_of base before (change.DropColumn table field) g k = tt
fields_of base before (change.RenameColumn table field name) g k = tt
fields_of base before (change.PromoteColumn table field ty) g k = tt
fields_of base before (change.SetDefault table field v) g k = tt
fields_of base before (change.Delete table rows) g k = tt
fields_of base before (change.Update table rows set) g k = tt
fields_of base before (change.Compact table) g k = tt
fields_of base before (change.Flush table) g k = tt

pub all_fields : (base : State) (before own : List Change) → FitsFrom base before own → AllByRecursion IsGrowth own → AllByRecursion HasFields own
all_fields base before [] fits growth = tt
all_fields base before (c ∷ own) fits growth = (fields_of base before c growth.0 fits.0, all_fields base (before ++ c ∷ []) own fits.2 growth.1)
