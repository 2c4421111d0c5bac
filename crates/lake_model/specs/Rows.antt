-- The statements on rows: what they insert, choose, change and show, and how much the rows of a list weigh.
use Rattle.std.specs.Prelude.{ℕ, ◌+◌, ◌*◌, ◌==◌, not, Bool, true, false, List, [], ◌∷◌, ◌++◌, length, map, filter, find, sum_by, is_some, decimal, Option, Some, None, option_map, unwrap_or, if◌then◌else◌}
use Rattle.std.specs.List.{list_any, filter_map, join_with_byte}
use Rattle.lake_types.specs.Cells.{cell_at, cell_named, column_named, laid_cells}
use Rattle.lake_types.specs.Fits.{reach}
use Rattle.lake_types.specs.Texts.{literal_text}
use Rattle.lake_types.specs.Truth.{chooses}
use Rattle.lake_types.specs.Weights.{row_weight, weight}
use Rattle.lake_types.specs.declared.pred.Pred.{Pred}
use Rattle.lake_types.specs.declared.pred.Pred.TheOpen.{Pred-F}
use Rattle.lake_types.specs.declared.pred.Pred.TheFolds.{fold-Pred}
use Rattle.lake_types.specs.declared.stmt.Cell.{Cell}
use Rattle.lake_types.specs.declared.stmt.Cell.TheVariants as cell
use Rattle.lake_types.specs.declared.stmt.Item.{Item}
use Rattle.lake_types.specs.declared.stmt.Item.TheVariants as item
use Rattle.lake_types.specs.declared.stmt.TableName.{TableName}
use Rattle.lake_types.specs.declared.value.ColType.{ColType}
use Rattle.lake_types.specs.declared.value.ColType.TheVariants as type
use Rattle.lake_types.specs.declared.value.Column.{Column}
use Rattle.lake_types.specs.declared.value.Row.{Row}
use Rattle.lake_types.specs.declared.value.Value.{Value}
use Rattle.lake_types.specs.declared.value.Value.TheVariants as value
use Rattle.lake_model.specs.Apply.{Cells, Draft, Work, begun, changed, is_ref, is_row, set_cells}
use Rattle.lake_model.specs.Clashes.{same_name}
use Rattle.lake_model.specs.Plans.{Plan, Append, Leave, refused_if, or_else, unless, on_table, value_fault}
use Rattle.lake_model.specs.State.{State}
use Rattle.lake_model.specs.declared.answer.Answer.{Answer}
use Rattle.lake_model.specs.declared.answer.Answer.TheVariants as answer
use Rattle.lake_model.specs.declared.change.Change.{Change}
use Rattle.lake_model.specs.declared.change.Change.TheVariants as change
use Rattle.lake_model.specs.declared.change.Ref.{Ref}
use Rattle.lake_model.specs.declared.change.RowRef.{RowRef}
use Rattle.lake_model.specs.declared.change.RowRef.TheVariants as row_ref

-- ---- the rows that a transaction sees of a table

-- A row with its reference. A fresh one has the id that it would get if the base were the newest version.
pub record SeenRow : Type 0 where
  pub at : RowRef
  pub id : ℕ
  pub cells : Cells

abbrev pub old_row : Row → SeenRow
old_row r = record { at = row_ref.Old r.id; id = r.id; cells = r.cells }

-- the fresh rows, the first of which has this place, and would get this id if it is left
abbrev pub fresh_rows : ℕ → ℕ → List (Option Cells) → List SeenRow
fresh_rows place id [] = []
fresh_rows place id (None ∷ fresh) = fresh_rows (place + 1) id fresh
fresh_rows place id (Some cells ∷ fresh) =
    record { at = row_ref.Fresh place; id = id; cells = cells } ∷ fresh_rows (place + 1) (id + 1) fresh

-- rising by id, the fresh ones after the others
abbrev pub seen_rows : Draft → List SeenRow
seen_rows d = map old_row d.rows ++ fresh_rows 0 d.next_row d.fresh

-- the rows for which a test is true
abbrev pub chosen : Option Pred → Draft → List SeenRow
chosen test d = filter (λ (r : SeenRow). chooses test (cell_named d.columns r.cells)) (seen_rows d)

-- ---- tests of rows

-- whether a literal may be compared with the cells of a column: NULL with all, and an integer of any size with all
-- columns of integers
abbrev pub agrees : Value → ColType → Bool
agrees value.Null t = true
agrees (value.Bool b) type.Bool = true
agrees (value.Int n) t = is_some (reach t)
agrees (value.Text text) type.Varchar = true
agrees (value.Bytes bytes) type.Blob = true
agrees (value.Date day) type.Date = true
agrees v t = false

-- what is wrong with a test: it names a column that isn't there, or compares one with a literal of another type
pub data TestFault : Type 0 where
  LacksColumn : List ℕ → TestFault
  HasWrongType : List ℕ → TestFault

abbrev pub compare_fault : List ℕ → Value → Option Column → Option TestFault
compare_fault name literal None = Some (LacksColumn name)
compare_fault name literal (Some c) = if agrees literal c.ty then None else Some (HasWrongType name)

abbrev pub column_fault : List ℕ → Option Column → Option TestFault
column_fault name None = Some (LacksColumn name)
column_fault name (Some c) = None

abbrev pub first_of : {A : Type 0} → List (Option A) → Option A
first_of [] = None
first_of (Some x ∷ more) = Some x
first_of (None ∷ more) = first_of more

-- one level of a test, with the first fault of each part in its place
abbrev pub fault_at : List Column → Pred-F (Option TestFault) → Option TestFault
fault_at columns (Pred-F.Compare name op literal) = compare_fault name literal (column_named columns name)
fault_at columns (Pred-F.IsNull name) = column_fault name (column_named columns name)
fault_at columns (Pred-F.NotNull name) = column_fault name (column_named columns name)
fault_at columns (Pred-F.Not fault) = fault
fault_at columns (Pred-F.And faults) = first_of faults
fault_at columns (Pred-F.Or faults) = first_of faults

-- the first fault of a test, from the left
abbrev pub fault_of_test : List Column → Option Pred → Option TestFault
fault_of_test columns None = None
fault_of_test columns (Some test) = fold-Pred (Option TestFault) (fault_at columns) test

abbrev pub answer_to : TestFault → Answer
answer_to (LacksColumn name) = answer.NoColumn name
answer_to (HasWrongType name) = answer.WrongType name

abbrev pub test_fault : List Column → Option Pred → Option Answer
test_fault columns test = option_map answer_to (fault_of_test columns test)

-- ---- how much a list weighs: the rows that it inserts and the whole new rows of its updates, when they are made

abbrev pub rows_weight : List Cells → ℕ
rows_weight rows = sum_by row_weight rows

abbrev pub draft_at : Work → Ref → Option Draft
draft_at w table = find (λ d. is_ref d.at table) w.tables

abbrev pub row_at : Draft → RowRef → Option SeenRow
row_at d row = find (λ r. is_row r.at row) (seen_rows d)

-- the whole new row of one that is updated
abbrev pub new_image : Cells → Draft → RowRef → Option Cells
new_image set d row = option_map (λ (r : SeenRow). set_cells set r.cells) (row_at d row)

abbrev pub insert_weight : List Cells → Option Draft → ℕ
insert_weight rows None = 0
insert_weight rows (Some d) = rows_weight (map (laid_cells d.columns) rows)

abbrev pub update_weight : List RowRef → Cells → Option Draft → ℕ
update_weight rows set None = 0
update_weight rows set (Some d) = rows_weight (filter_map (new_image set d) rows)

-- how many rows of a table one change makes
abbrev pub made_by : Ref → Change → ℕ
made_by table (change.Insert at rows) = if is_ref at table then length rows else 0
made_by table (change.Update at rows set) = if is_ref at table then length rows else 0
made_by table c = 0

-- a column that is added weighs its initial default for each row of the table that the list made before
abbrev pub change_weight : Work → List Change → Change → ℕ
change_weight w before (change.Insert table rows) = insert_weight rows (draft_at w table)
change_weight w before (change.Update table rows set) = update_weight rows set (draft_at w table)
change_weight w before (change.AddColumn table column) = weight column.initial * sum_by (made_by table) before
change_weight w before c = 0

abbrev pub weight_from : Work → List Change → List Change → ℕ
weight_from w before [] = 0
weight_from w before (c ∷ own) = change_weight w before c + weight_from (changed w c) (before ++ c ∷ []) own

abbrev pub own_weight : State → List Change → ℕ
own_weight base own = weight_from (begun base) [] own

-- ---- INSERT

abbrev pub given : Column → Cell → Value
given column (cell.Given v) = v
given column cell.Default = column.default_value

abbrev pub cell_fault : Column → Cell → Option Answer
cell_fault column c = value_fault column.name column.ty column.nulls (given column c)

abbrev pub cells_fault : List Column → List Cell → Option Answer
cells_fault (column ∷ columns) (c ∷ row) = or_else (cell_fault column c) (cells_fault columns row)
cells_fault columns row = None

-- a row has a cell for each column
abbrev pub row_fault : List Column → List Cell → Option Answer
row_fault columns row =
    or_else (refused_if (not (length columns == length row)) (answer.Arity (length columns) (length row))) (cells_fault columns row)

abbrev pub rows_fault : List Column → List (List Cell) → Option Answer
rows_fault columns [] = None
rows_fault columns (row ∷ rows) = or_else (row_fault columns row) (rows_fault columns rows)

abbrev pub cells_of : List Column → List Cell → Cells
cells_of (column ∷ columns) (c ∷ row) = (column.field, given column c) ∷ cells_of columns row
cells_of columns row = []

-- without rows nothing is appended
abbrev pub insertion : Draft → List (List Cell) → Plan
insertion d [] = Leave (answer.Number 0)
insertion d (row ∷ rows) = Append (change.Insert d.at (map (cells_of d.columns) (row ∷ rows))) (answer.Number (length (row ∷ rows)))

abbrev pub insert : Work → TableName → List (List Cell) → Plan
insert w table rows = on_table w table (λ d. unless (rows_fault d.columns rows) (insertion d rows))

-- ---- DELETE

abbrev pub places : List SeenRow → List RowRef
places rows = map (λ (r : SeenRow). r.at) rows

-- where no row is chosen nothing is appended
abbrev pub deletion : Draft → List RowRef → Plan
deletion d [] = Leave (answer.Number 0)
deletion d (row ∷ rows) = Append (change.Delete d.at (row ∷ rows)) (answer.Number (length (row ∷ rows)))

abbrev pub delete : Work → TableName → Option Pred → Plan
delete w table test = on_table w table (λ d. unless (test_fault d.columns test) (deletion d (places (chosen test d))))

-- ---- UPDATE

abbrev pub of_assignment : List ℕ → Bool → Value → Option Column → Option Answer
of_assignment name again v None = Some (answer.NoColumn name)
of_assignment name again v (Some c) = or_else (refused_if again (answer.NameUsed name)) (value_fault name c.ty c.nulls v)

-- an assignment behind others; no column is assigned twice
abbrev pub assignment_fault : List Column → List (List ℕ × Value) → List ℕ × Value → Option Answer
assignment_fault columns before a =
    of_assignment a.0 (list_any (λ (b : List ℕ × Value). same_name b.0 a.0) before) a.1 (column_named columns a.0)

abbrev pub assignments_fault : List Column → List (List ℕ × Value) → List (List ℕ × Value) → Option Answer
assignments_fault columns before [] = None
assignments_fault columns before (a ∷ set) =
    or_else (assignment_fault columns before a) (assignments_fault columns (a ∷ before) set)

abbrev pub assigned_cell : List Column → List ℕ × Value → Option (ℕ × Value)
assigned_cell columns a = option_map (λ (c : Column). (c.field, a.1)) (column_named columns a.0)

abbrev pub assigned : List Column → List (List ℕ × Value) → Cells
assigned columns set = filter_map (assigned_cell columns) set

abbrev pub updating : Draft → Cells → List RowRef → Plan
updating d set [] = Leave (answer.Number 0)
updating d set (row ∷ rows) = Append (change.Update d.at (row ∷ rows) set) (answer.Number (length (row ∷ rows)))

abbrev pub update : Work → TableName → List (List ℕ × Value) → Option Pred → Plan
update w table set test =
    on_table w table (λ d. unless (or_else (assignments_fault d.columns [] set) (test_fault d.columns test))
    (updating d (assigned d.columns set) (places (chosen test d))))

-- ---- SELECT

abbrev pub item_fault : List Column → Item → Option TestFault
item_fault columns (item.Column name) = column_fault name (column_named columns name)
item_fault columns item.RowId = None

abbrev pub value_text : Option Value → List ℕ
value_text v = literal_text (unwrap_or v value.Null)

abbrev pub item_text : List Column → SeenRow → Item → List ℕ
item_text columns r (item.Column name) = value_text (cell_named columns r.cells name)
item_text columns r item.RowId = decimal r.id

abbrev pub column_text : SeenRow → Column → List ℕ
column_text r c = value_text (cell_at r.cells c.field)

-- without items all columns are shown
abbrev pub texts_of : List Column → List Item → SeenRow → List (List ℕ)
texts_of columns [] r = map (column_text r) columns
texts_of columns (i ∷ items) r = map (item_text columns r) (i ∷ items)

abbrev pub row_text : List Column → List Item → SeenRow → List ℕ
row_text columns items r = join_with_byte 44 (texts_of columns items r)

abbrev pub select_fault : Draft → List Item → Option Pred → Option Answer
select_fault d items test = or_else (option_map answer_to (first_of (map (item_fault d.columns) items))) (test_fault d.columns test)
