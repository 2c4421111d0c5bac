-- Which lists of changes a transaction may have: each change is one that a statement appends after those before it.
use Rattle.std.specs.Prelude.{◌≡◌, ◌≢◌, ◌≤◌, ℕ, true, false, List, [], ◌∷◌, ◌++◌, length, IsSome, Some, None}
use Rattle.std.specs.List.{AllByRecursion, list_any}
use Rattle.lake_types.specs.declared.limits.TheConstants.{MAX_CELL_BYTES, MAX_DEFAULT_BYTES, MAX_NAME_BYTES}
use Rattle.lake_types.specs.declared.stmt.Stmt.{Stmt}
use Rattle.lake_types.specs.declared.value.Column.{Column}
use Rattle.lake_types.specs.declared.value.Value.{Value}
use Rattle.lake_types.specs.declared.value.Value.TheVariants as value
use Rattle.lake_model.specs.Apply.{Cells, Draft, worked}
use Rattle.lake_model.specs.Plans.{Append}
use Rattle.lake_model.specs.Rows.{assigned, assignments_fault, draft_at, row_at}
use Rattle.lake_model.specs.State.{State}
use Rattle.lake_model.specs.Step.{has_room, is_compaction, plan_of}
use Rattle.lake_model.specs.declared.answer.Answer.{Answer}
use Rattle.lake_model.specs.declared.change.Change.{Change}
use Rattle.lake_model.specs.declared.change.Change.TheVariants as change
use Rattle.lake_model.specs.declared.change.Ref.{Ref}
use Rattle.lake_model.specs.declared.change.RowRef.{RowRef}

-- ---- sizes, and that a table has a column

abbrev pub IsAtMost : ℕ → Value → Type 0
IsAtMost most (value.Text text) = length text ≤ most
IsAtMost most (value.Bytes bytes) = length bytes ≤ most
IsAtMost most v = Unit {0}

abbrev pub IsName : List ℕ → Type 0
IsName name = length name ≤ MAX_NAME_BYTES

abbrev pub AreCells : Cells → Type 0
AreCells cells = AllByRecursion (λ (cell : ℕ × Value). IsAtMost MAX_CELL_BYTES cell.1) cells

abbrev pub IsColumn : Column → Type 0
IsColumn c = IsName c.name × IsAtMost MAX_DEFAULT_BYTES c.initial × IsAtMost MAX_DEFAULT_BYTES c.default_value

abbrev pub IsSized : Change → Type 0
IsSized (change.CreateSchema name) = IsName name
IsSized (change.CreateTable schema name columns) = IsName name × (columns ≢ []) × AllByRecursion IsColumn columns
IsSized (change.AddColumn table column) = IsColumn column
IsSized (change.RenameColumn table field name) = IsName name
IsSized (change.SetDefault table field v) = IsAtMost MAX_DEFAULT_BYTES v
IsSized (change.Insert table rows) = AllByRecursion AreCells rows
IsSized (change.Update table rows set) = AreCells set
IsSized c = Unit {0}

-- ---- changes

-- a statement appends the change
pub record IsAppended (base : State) (before : List Change) (c : Change) : Type 0 where
  pub stmt : Stmt
  pub answer : Answer
  pub plan_is : plan_of base before stmt ≡ Append c answer

-- some rows that are seen of a table, whichever they are, behind changes that compact nothing
pub record NamesRows (base : State) (before : List Change) (table : Ref) (rows : List RowRef) : Type 0 where
  pub draft : Draft
  pub is_there : draft_at (worked base before) table ≡ Some draft
  pub some : rows ≢ []
  pub seen : AllByRecursion (λ r. IsSome (row_at draft r)) rows
  pub unmixed : list_any is_compaction before ≡ false

-- the cells that assignments without a fault set
pub record AreAssigned (base : State) (before : List Change) (table : Ref) (set : Cells) : Type 0 where
  pub draft : Draft
  pub is_there : draft_at (worked base before) table ≡ Some draft
  pub assignments : List (List ℕ × Value)
  pub some : assignments ≢ []
  pub faultless : assignments_fault draft.columns [] assignments ≡ None
  pub set_is : set ≡ assigned draft.columns assignments

-- a change that may stand behind others; a DELETE or an UPDATE may name any rows
abbrev pub IsAllowed : State → List Change → Change → Type 0
IsAllowed base before (change.Delete table rows) = NamesRows base before table rows
IsAllowed base before (change.Update table rows set) =
    NamesRows base before table rows × AreAssigned base before table set
    × (has_room base (before ++ change.Update table rows set ∷ []) ≡ true)
IsAllowed base before c = IsAppended base before c

abbrev pub FitsFrom : State → List Change → List Change → Type 0
FitsFrom base before [] = Unit {0}
FitsFrom base before (c ∷ own) = IsAllowed base before c × IsSized c × FitsFrom base (before ++ c ∷ []) own

abbrev pub Fits : State → List Change → Type 0
Fits base own = FitsFrom base [] own
