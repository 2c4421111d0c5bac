-- Scripts with their replies, which show what the definitions say. Each follows by computing.
use Rattle.std.specs.Prelude.{◌≡◌, ℕ, pos, true, List, [], ◌∷◌, codes, decimal, length, Some, None}
use Rattle.std.specs.Fmt.{signed_decimal}
use Rattle.std.specs.List.{join_with_byte}
use Rattle.lake_types.specs.Kinds.{changes_text}
use Rattle.lake_types.specs.declared.kind.Kind.{Kind}
use Rattle.lake_types.specs.declared.kind.Kind.TheVariants as kind
use Rattle.lake_types.specs.declared.kind.SchemaName.{SchemaName}
use Rattle.lake_types.specs.declared.stmt.Alter.TheVariants as alter
use Rattle.lake_types.specs.declared.stmt.Cell.TheVariants as cell
use Rattle.lake_types.specs.declared.stmt.ColumnDef.{ColumnDef}
use Rattle.lake_types.specs.declared.stmt.Item.TheVariants as item
use Rattle.lake_types.specs.declared.stmt.Stmt.{Stmt}
use Rattle.lake_types.specs.declared.stmt.Stmt.TheVariants as stmt
use Rattle.lake_types.specs.declared.stmt.TableName.{TableName}
use Rattle.lake_types.specs.declared.value.ColType.TheVariants as type
use Rattle.lake_types.specs.declared.value.Value.TheVariants as value
use Rattle.lake_model.specs.Apply.{Cells, fresh_from, left, numbered}
use Rattle.lake_model.specs.Kinds.{kinds}
use Rattle.lake_model.specs.Replay.{Lake, new_lake, own_at, with_own}
use Rattle.lake_model.specs.Step.{Step, step, only, snapshot_text}
use Rattle.lake_model.specs.declared.answer.Answer.TheVariants as answer
use Rattle.lake_model.specs.declared.answer.Reply.{Reply}
use Rattle.lake_model.specs.declared.change.Change.TheVariants as change
use Rattle.lake_model.specs.declared.change.Ref.{Ref}
use Rattle.lake_model.specs.declared.change.Ref.TheVariants as ref
use Rattle.lake_model.specs.declared.change.RowRef.TheVariants as row_ref

-- ---- words of the examples

abbrev pub t : TableName
t = record { schema = codes "main"; table = codes "t" }

abbrev pub column : List ℕ → ColumnDef
column name = record { name = name; ty = type.Int64; nulls = true; default_value = None }

-- a statement of a session
abbrev pub by : ℕ → Stmt → ℕ × Stmt
by session x = (session, x)

abbrev pub int : ℕ → List ℕ
int n = signed_decimal (pos n)

abbrev pub null : List ℕ
null = codes "NULL"

abbrev pub joined : List (List ℕ) → List ℕ
joined cells = join_with_byte 44 cells

-- the row of SNAPSHOTS for a version
abbrev pub changed_by : ℕ → List Kind → List ℕ
changed_by n kinds = snapshot_text (record { snapshot = n; changes = changes_text kinds })

abbrev pub rows : List (List ℕ) → Reply
rows found = record { rows = found; last = answer.Number (length found) }

abbrev pub stepped : Lake → ℕ → Step → Lake
stepped lake session s = record { core = s.core; owns = with_own lake.owns session s.own }

-- the replies to statements, one after the other
abbrev pub replies : Lake → List (ℕ × Stmt) → List Reply
replies lake [] = []
replies lake (x ∷ more) =
    (step lake.core (own_at lake.owns x.0) x.0 x.1).reply
    ∷ replies (stepped lake x.0 (step lake.core (own_at lake.owns x.0) x.0 x.1)) more

infix 4 ◌AreAnswered◌
abbrev pub ◌AreAnswered◌ : List (ℕ × Stmt) → List Reply → Type 0
lines AreAnswered expected = replies new_lake lines ≡ expected

-- ---- scripts

abbrev pub TwoInsertsRenumber : Type 0
TwoInsertsRenumber =
    (
    by 1 stmt.Begin
    ∷ by 1 (stmt.CreateTable t (column (codes "a") ∷ []))
    ∷ by 1 stmt.Commit
    ∷ by 1 stmt.Begin
    ∷ by 2 stmt.Begin
    ∷ by 1 (stmt.Insert t ((cell.Given (value.Int (pos 10)) ∷ []) ∷ (cell.Given (value.Int (pos 11)) ∷ []) ∷ []))
    ∷ by 2 (stmt.Insert t ((cell.Given (value.Int (pos 20)) ∷ []) ∷ (cell.Given (value.Int (pos 21)) ∷ []) ∷ []))
    ∷ by 2 (stmt.Select t (item.RowId ∷ item.Column (codes "a") ∷ []) None)
    ∷ by 1 stmt.Commit
    ∷ by 2 stmt.Commit
    ∷ by 2 stmt.Begin
    ∷ by 2 (stmt.Select t (item.RowId ∷ item.Column (codes "a") ∷ []) None)
    ∷ []
    ) AreAnswered (
    only (answer.Number 0)
    ∷ only answer.Done
    ∷ only (answer.Number 1)
    ∷ only (answer.Number 1)
    ∷ only (answer.Number 1)
    ∷ only (answer.Number 2)
    ∷ only (answer.Number 2)
    ∷ rows (joined (decimal 0 ∷ int 20 ∷ []) ∷ joined (decimal 1 ∷ int 21 ∷ []) ∷ [])
    ∷ only (answer.Number 2)
    ∷ only (answer.Number 3)
    ∷ only (answer.Number 3)
    ∷ rows (joined (decimal 0 ∷ int 10 ∷ []) ∷ joined (decimal 1 ∷ int 11 ∷ []) ∷ joined (decimal 2 ∷ int 20 ∷ []) ∷ joined (decimal 3 ∷ int 21 ∷ []) ∷ [])
    ∷ []
    )

abbrev pub RenameStillConflicts : Type 0
RenameStillConflicts =
    (
    by 1 stmt.Begin
    ∷ by 1 (stmt.CreateTable t (column (codes "a") ∷ []))
    ∷ by 1 stmt.Commit
    ∷ by 1 stmt.Begin
    ∷ by 2 stmt.Begin
    ∷ by 1 (stmt.Insert t ((cell.Given (value.Int (pos 1)) ∷ []) ∷ []))
    ∷ by 2 (stmt.Change t (alter.Rename (codes "a") (codes "c")))
    ∷ by 2 stmt.Commit
    ∷ by 1 stmt.Commit
    ∷ []
    ) AreAnswered (
    only (answer.Number 0)
    ∷ only answer.Done
    ∷ only (answer.Number 1)
    ∷ only (answer.Number 1)
    ∷ only (answer.Number 1)
    ∷ only (answer.Number 1)
    ∷ only answer.Done
    ∷ only (answer.Number 2)
    ∷ only (answer.Conflict (record { snapshot = 2; mine = kind.InsertedInto 1; theirs = kind.Altered 1 }))
    ∷ []
    )

abbrev pub TwoDeletesClash : Type 0
TwoDeletesClash =
    (
    by 1 stmt.Begin
    ∷ by 1 (stmt.CreateTable t (column (codes "a") ∷ []))
    ∷ by 1 stmt.Commit
    ∷ by 1 stmt.Begin
    ∷ by 1 (stmt.Insert t ((cell.Given (value.Int (pos 1)) ∷ []) ∷ (cell.Given (value.Int (pos 2)) ∷ []) ∷ []))
    ∷ by 1 stmt.Commit
    ∷ by 1 stmt.Begin
    ∷ by 2 stmt.Begin
    ∷ by 1 (stmt.Delete t None)
    ∷ by 2 (stmt.Delete t None)
    ∷ by 1 stmt.Commit
    ∷ by 2 stmt.Commit
    ∷ by 2 stmt.Rollback
    ∷ []
    ) AreAnswered (
    only (answer.Number 0)
    ∷ only answer.Done
    ∷ only (answer.Number 1)
    ∷ only (answer.Number 1)
    ∷ only (answer.Number 2)
    ∷ only (answer.Number 2)
    ∷ only (answer.Number 2)
    ∷ only (answer.Number 2)
    ∷ only (answer.Number 2)
    ∷ only (answer.Number 2)
    ∷ only (answer.Number 3)
    ∷ only (answer.Conflict (record { snapshot = 3; mine = kind.DeletedFrom 1; theirs = kind.DeletedFrom 1 }))
    ∷ only answer.NoTransaction
    ∷ []
    )

abbrev pub DropAfterInsert : Type 0
DropAfterInsert =
    (
    by 1 stmt.Begin
    ∷ by 1 (stmt.CreateTable t (column (codes "a") ∷ []))
    ∷ by 1 stmt.Commit
    ∷ by 1 stmt.Begin
    ∷ by 2 stmt.Begin
    ∷ by 1 (stmt.Insert t ((cell.Given (value.Int (pos 1)) ∷ []) ∷ []))
    ∷ by 2 (stmt.DropTable t)
    ∷ by 1 stmt.Commit
    ∷ by 2 stmt.Commit
    ∷ []
    ) AreAnswered (
    only (answer.Number 0)
    ∷ only answer.Done
    ∷ only (answer.Number 1)
    ∷ only (answer.Number 1)
    ∷ only (answer.Number 1)
    ∷ only (answer.Number 1)
    ∷ only answer.Done
    ∷ only (answer.Number 2)
    ∷ only (answer.Number 3)
    ∷ []
    )

abbrev pub InsertAfterAlteration : Type 0
InsertAfterAlteration =
    (
    by 1 stmt.Begin
    ∷ by 1 (stmt.CreateTable t (column (codes "a") ∷ []))
    ∷ by 1 stmt.Commit
    ∷ by 1 stmt.Begin
    ∷ by 2 stmt.Begin
    ∷ by 1 (stmt.Insert t ((cell.Given (value.Int (pos 1)) ∷ []) ∷ []))
    ∷ by 2 (stmt.Change t (alter.Add (record { name = codes "b"; ty = type.Int32; nulls = true; default_value = Some (value.Int (pos 5)) })))
    ∷ by 2 stmt.Commit
    ∷ by 1 stmt.Commit
    ∷ []
    ) AreAnswered (
    only (answer.Number 0)
    ∷ only answer.Done
    ∷ only (answer.Number 1)
    ∷ only (answer.Number 1)
    ∷ only (answer.Number 1)
    ∷ only (answer.Number 1)
    ∷ only answer.Done
    ∷ only (answer.Number 2)
    ∷ only (answer.Conflict (record { snapshot = 2; mine = kind.InsertedInto 1; theirs = kind.Altered 1 }))
    ∷ []
    )

abbrev pub UpdateKeepsTheId : Type 0
UpdateKeepsTheId =
    (
    by 1 stmt.Begin
    ∷ by 1 (stmt.CreateTable t (column (codes "a") ∷ []))
    ∷ by 1 (stmt.Insert t ((cell.Given (value.Int (pos 7)) ∷ []) ∷ (cell.Given value.Null ∷ []) ∷ []))
    ∷ by 1 stmt.Commit
    ∷ by 1 stmt.Begin
    ∷ by 1 (stmt.Update t ((codes "a", value.Int (pos 8)) ∷ []) None)
    ∷ by 1 stmt.Commit
    ∷ by 1 stmt.Begin
    ∷ by 1 (stmt.Select t (item.RowId ∷ item.Column (codes "a") ∷ []) None)
    ∷ by 1 stmt.Rollback
    ∷ by 1 (stmt.BeginAt 1)
    ∷ by 1 (stmt.Select t (item.RowId ∷ item.Column (codes "a") ∷ []) None)
    ∷ by 1 (stmt.Insert t ((cell.Given (value.Int (pos 1)) ∷ []) ∷ []))
    ∷ by 1 stmt.Commit
    ∷ []
    ) AreAnswered (
    only (answer.Number 0)
    ∷ only answer.Done
    ∷ only (answer.Number 2)
    ∷ only (answer.Number 1)
    ∷ only (answer.Number 1)
    ∷ only (answer.Number 2)
    ∷ only (answer.Number 2)
    ∷ only (answer.Number 2)
    ∷ rows (joined (decimal 0 ∷ int 8 ∷ []) ∷ joined (decimal 1 ∷ int 8 ∷ []) ∷ [])
    ∷ only answer.Done
    ∷ only (answer.Number 1)
    ∷ rows (joined (decimal 0 ∷ int 7 ∷ []) ∷ joined (decimal 1 ∷ null ∷ []) ∷ [])
    ∷ only answer.ReadOnly
    ∷ only (answer.Number 1)
    ∷ []
    )

abbrev pub FieldIdsAndDefaults : Type 0
FieldIdsAndDefaults =
    (
    by 1 stmt.Begin
    ∷ by 1 (stmt.CreateTable t (column (codes "a") ∷ column (codes "b") ∷ []))
    ∷ by 1 (stmt.Insert t ((cell.Given (value.Int (pos 1)) ∷ cell.Given (value.Int (pos 2)) ∷ []) ∷ []))
    ∷ by 1 stmt.Commit
    ∷ by 1 stmt.Begin
    ∷ by 1 (stmt.Change t (alter.Rename (codes "a") (codes "c")))
    ∷ by 1 (stmt.Change t (alter.Remove (codes "b")))
    ∷ by 1 (stmt.Change t (alter.Add (column (codes "b"))))
    ∷ by 1 (stmt.Change t (alter.SetDefault (codes "b") (value.Int (pos 4))))
    ∷ by 1 (stmt.Insert t ((cell.Given (value.Int (pos 5)) ∷ cell.Default ∷ []) ∷ []))
    ∷ by 1 stmt.Commit
    ∷ by 1 stmt.Begin
    ∷ by 1 (stmt.Select t [] None)
    ∷ by 1 (stmt.Select t (item.Column (codes "a") ∷ []) None)
    ∷ []
    ) AreAnswered (
    only (answer.Number 0)
    ∷ only answer.Done
    ∷ only (answer.Number 1)
    ∷ only (answer.Number 1)
    ∷ only (answer.Number 1)
    ∷ only answer.Done
    ∷ only answer.Done
    ∷ only answer.Done
    ∷ only answer.Done
    ∷ only (answer.Number 1)
    ∷ only (answer.Number 2)
    ∷ only (answer.Number 2)
    ∷ rows (joined (int 1 ∷ null ∷ []) ∷ joined (int 5 ∷ int 4 ∷ []) ∷ [])
    ∷ only (answer.NoColumn (codes "a"))
    ∷ []
    )

abbrev pub FreshRowsUpdated : Type 0
FreshRowsUpdated =
    (
    by 1 stmt.Begin
    ∷ by 1 (stmt.CreateTable t (column (codes "a") ∷ []))
    ∷ by 1 stmt.Commit
    ∷ by 1 stmt.Begin
    ∷ by 1 (stmt.Insert t ((cell.Given (value.Int (pos 1)) ∷ []) ∷ (cell.Given (value.Int (pos 2)) ∷ []) ∷ (cell.Given (value.Int (pos 3)) ∷ []) ∷ []))
    ∷ by 1 (stmt.Update t ((codes "a", value.Int (pos 30)) ∷ []) None)
    ∷ by 2 stmt.Begin
    ∷ by 2 (stmt.Insert t ((cell.Given (value.Int (pos 9)) ∷ []) ∷ []))
    ∷ by 2 stmt.Commit
    ∷ by 1 stmt.Commit
    ∷ by 1 stmt.Begin
    ∷ by 1 (stmt.Select t (item.RowId ∷ item.Column (codes "a") ∷ []) None)
    ∷ by 1 stmt.Snapshots
    ∷ []
    ) AreAnswered (
    only (answer.Number 0)
    ∷ only answer.Done
    ∷ only (answer.Number 1)
    ∷ only (answer.Number 1)
    ∷ only (answer.Number 3)
    ∷ only (answer.Number 3)
    ∷ only (answer.Number 1)
    ∷ only (answer.Number 1)
    ∷ only (answer.Number 2)
    ∷ only (answer.Number 3)
    ∷ only (answer.Number 3)
    ∷ rows (joined (decimal 0 ∷ int 9 ∷ []) ∷ joined (decimal 1 ∷ int 30 ∷ []) ∷ joined (decimal 2 ∷ int 30 ∷ []) ∷ joined (decimal 3 ∷ int 30 ∷ []) ∷ [])
    ∷ rows (changed_by 0 (kind.CreatedSchema (codes "main") ∷ []) ∷ changed_by 1 (kind.CreatedTable (codes "main") (codes "t") ∷ []) ∷ changed_by 2 (kind.InsertedInto 1 ∷ []) ∷ changed_by 3 (kind.InsertedInto 1 ∷ []) ∷ [])
    ∷ []
    )

abbrev pub CompactionAfterDelete : Type 0
CompactionAfterDelete =
    (
    by 1 stmt.Begin
    ∷ by 1 (stmt.CreateTable t (column (codes "a") ∷ []))
    ∷ by 1 stmt.Commit
    ∷ by 1 stmt.Begin
    ∷ by 1 (stmt.Insert t ((cell.Given (value.Int (pos 1)) ∷ []) ∷ []))
    ∷ by 1 stmt.Commit
    ∷ by 1 stmt.Begin
    ∷ by 1 (stmt.Insert t ((cell.Given (value.Int (pos 2)) ∷ []) ∷ []))
    ∷ by 1 stmt.Commit
    ∷ by 1 stmt.Begin
    ∷ by 1 (stmt.Compact t)
    ∷ by 1 (stmt.Insert t ((cell.Given (value.Int (pos 1)) ∷ []) ∷ []))
    ∷ by 2 stmt.Begin
    ∷ by 2 (stmt.Delete t None)
    ∷ by 2 stmt.Commit
    ∷ by 1 stmt.Commit
    ∷ []
    ) AreAnswered (
    only (answer.Number 0)
    ∷ only answer.Done
    ∷ only (answer.Number 1)
    ∷ only (answer.Number 1)
    ∷ only (answer.Number 1)
    ∷ only (answer.Number 2)
    ∷ only (answer.Number 2)
    ∷ only (answer.Number 1)
    ∷ only (answer.Number 3)
    ∷ only (answer.Number 3)
    ∷ only answer.Done
    ∷ only answer.Mixed
    ∷ only (answer.Number 3)
    ∷ only (answer.Number 2)
    ∷ only (answer.Number 4)
    ∷ only (answer.Conflict (record { snapshot = 4; mine = kind.Compacted 1; theirs = kind.DeletedFrom 1 }))
    ∷ []
    )

abbrev pub LowestSnapshot : Type 0
LowestSnapshot =
    (
    by 1 stmt.Begin
    ∷ by 1 (stmt.CreateTable t (column (codes "a") ∷ []))
    ∷ by 1 stmt.Commit
    ∷ by 1 stmt.Begin
    ∷ by 2 stmt.Begin
    ∷ by 1 (stmt.Insert t ((cell.Given (value.Int (pos 1)) ∷ []) ∷ []))
    ∷ by 2 (stmt.DropTable t)
    ∷ by 2 stmt.Commit
    ∷ by 3 stmt.Begin
    ∷ by 3 (stmt.CreateSchema (codes "s"))
    ∷ by 3 stmt.Commit
    ∷ by 1 stmt.Commit
    ∷ []
    ) AreAnswered (
    only (answer.Number 0)
    ∷ only answer.Done
    ∷ only (answer.Number 1)
    ∷ only (answer.Number 1)
    ∷ only (answer.Number 1)
    ∷ only (answer.Number 1)
    ∷ only answer.Done
    ∷ only (answer.Number 2)
    ∷ only (answer.Number 2)
    ∷ only answer.Done
    ∷ only (answer.Number 3)
    ∷ only (answer.Conflict (record { snapshot = 2; mine = kind.InsertedInto 1; theirs = kind.DroppedTable 1 }))
    ∷ []
    )

-- ---- lists of changes

abbrev pub a_row : ℕ → Cells
a_row n = (1, value.Int (pos n)) ∷ []

-- a fresh row that is deleted keeps its place, and those that are left get the next ids
abbrev pub FreshRowKeepsItsPlace : Type 0
FreshRowKeepsItsPlace =
    numbered 4 (left (fresh_from 0 (row_ref.Fresh 1 ∷ []) (λ cells. None) (Some (a_row 1) ∷ Some (a_row 2) ∷ Some (a_row 3) ∷ [])))
    ≡ record { id = 4; cells = a_row 1 } ∷ record { id = 5; cells = a_row 3 } ∷ []

abbrev pub main : List SchemaName
main = record { id = 0; name = codes "main" } ∷ []

abbrev pub old : Ref
old = ref.Old 1

-- an update of an old row inserts and deletes, though the row is deleted later
abbrev pub UpdateInsertsAndDeletes : Type 0
UpdateInsertsAndDeletes =
    kinds main (change.Update old (row_ref.Old 0 ∷ []) (a_row 8) ∷ change.Delete old (row_ref.Old 0 ∷ []) ∷ [])
    ≡ kind.InsertedInto 1 ∷ kind.DeletedFrom 1 ∷ []

-- rows that are deleted again, and a table that is dropped again, have no kind
abbrev pub WhatGoesAgainHasNoKind : Type 0
WhatGoesAgainHasNoKind =
    kinds main
    (
    change.Insert old (a_row 1 ∷ []) ∷ change.Delete old (row_ref.Fresh 0 ∷ []) ∷ change.CreateTable (ref.Old 0) (codes "u") []
    ∷ change.Insert (ref.New 0) (a_row 1 ∷ [])
    ∷ change.DropTable (ref.New 0)
    ∷ []
    )
    ≡ []

-- a table of the base that is dropped has the dropped kind alone, and kinds stand in order
abbrev pub DroppedTableHasOneKind : Type 0
DroppedTableHasOneKind =
    kinds main (change.Insert old (a_row 1 ∷ []) ∷ change.DropTable old ∷ change.CreateSchema (codes "s") ∷ change.Compact (ref.Old 2) ∷ [])
    ≡ kind.CreatedSchema (codes "s") ∷ kind.Compacted 2 ∷ kind.DroppedTable 1 ∷ []
