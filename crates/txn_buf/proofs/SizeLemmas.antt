-- What a small statement appends is small.
use Rattle.std.proofs.Common.{◌≡◌, ◌≢◌, ℕ, ◌+◌, List, [], ◌∷◌, refl, arith}
use Rattle.std.specs.Prelude.{Option, Some, None, unwrap_or}
use Rattle.std.specs.List.{AllByRecursion}
use Rattle.lake_types.specs.Cells.{column_named}
use Rattle.lake_types.specs.declared.limits.TheConstants.{MAX_CELL_BYTES, MAX_DEFAULT_BYTES}
use Rattle.lake_types.specs.declared.stmt.Alter.{Alter}
use Rattle.lake_types.specs.declared.stmt.Alter.TheVariants as alter
use Rattle.lake_types.specs.declared.stmt.Cell.{Cell}
use Rattle.lake_types.specs.declared.stmt.Cell.TheVariants as cell
use Rattle.lake_types.specs.declared.stmt.ColumnDef.{ColumnDef}
use Rattle.lake_types.specs.declared.stmt.Stmt.{Stmt}
use Rattle.lake_types.specs.declared.stmt.Stmt.TheVariants as stmt
use Rattle.lake_types.specs.declared.value.Column.{Column}
use Rattle.lake_types.specs.declared.value.Value.{Value}
use Rattle.lake_types.specs.declared.value.Value.TheVariants as value
use Rattle.lake_model.specs.Apply.{Cells, Draft, Work, worked}
use Rattle.lake_model.specs.Fits.{AreCells, IsAtMost, IsColumn, IsSized}
use Rattle.lake_model.specs.Plans as p
use Rattle.lake_model.specs.Rows as r
use Rattle.lake_model.specs.Step as s
use Rattle.lake_model.specs.declared.change.RowRef.{RowRef}
use Rattle.lake_model.proofs.FitsLemmas.{HasSmall, fits_small}
use Rattle.lake_model.proofs.PlanLemmas as plan
use Rattle.lake_model.proofs.TableLemmas.{all-mapped}
use Rattle.txn_buf.specs.Laws.{SizedAppendsSized}
use Rattle.txn_buf.specs.Sizes.{IsSizedAlter, IsSizedAssignment, IsSizedCell, IsSizedDef, IsSizedDefault, IsSizedRow, IsSizedStmt}

-- ---- columns of a definition

default-small : (o : Option Value) → IsSizedDefault o → IsAtMost MAX_DEFAULT_BYTES (unwrap_or o value.Null)
default-small None h = tt
default-small (Some v) h = h

column-small : (field : ℕ) (def : ColumnDef) → IsSizedDef def → IsColumn (p.column_of field def)
column-small field def h = (h.0, default-small def.default_value h.1, default-small def.default_value h.1)

columns-small : (field : ℕ) (defs : List ColumnDef) → AllByRecursion IsSizedDef defs → AllByRecursion IsColumn (p.columns_from field defs)
columns-small field [] h = tt
columns-small field (def ∷ defs) h = (column-small field def h.0, columns-small (field + 1) defs h.1)

some-columns : (field : ℕ) (defs : List ColumnDef) → defs ≢ [] → p.columns_from field defs ≢ []
some-columns field [] some = λ e. some refl
some-columns field (def ∷ defs) some = λ e. absurd cc

-- ---- cells of a row

default-is_cell : (v : Value) → IsAtMost MAX_DEFAULT_BYTES v → IsAtMost MAX_CELL_BYTES v
default-is_cell (value.Text text) h = omega (arith, h)
default-is_cell (value.Bytes bytes) h = omega (arith, h)
default-is_cell value.Null h = tt
default-is_cell (value.Bool b) h = tt
default-is_cell (value.Int n) h = tt
default-is_cell (value.Date day) h = tt

given-small : (column : Column) (c : Cell) → IsColumn column → IsSizedCell c → IsAtMost MAX_CELL_BYTES (r.given column c)
given-small column (cell.Given v) h k = k
given-small column cell.Default h k = default-is_cell column.default_value h.2

cells-small : (columns : List Column) (row : List Cell) → AllByRecursion IsColumn columns → IsSizedRow row → AreCells (r.cells_of columns row)
cells-small [] row h k = tt
cells-small (column ∷ columns) [] h k = tt
cells-small (column ∷ columns) (c ∷ row) h k = (given-small column c h.0 k.0, cells-small columns row h.1 k.1)

assigned-small : (columns : List Column) (set : List (List ℕ × Value)) → AllByRecursion IsSizedAssignment set → AreCells (r.assigned columns set)
assigned-small columns [] h = tt
assigned-small columns (a ∷ set) h = go (column_named columns a.0) refl (assigned-small columns set h.1)
  where
    go : (o : Option Column) → column_named columns a.0 ≡ o → AreCells (r.assigned columns set) → AreCells (r.assigned columns (a ∷ set))
    go None e rest = rw e rest
    go (Some c) e rest = rw e (h.0, rest)

-- ---- plans

insertion-sized : (d : Draft) (rows : List (List Cell)) → HasSmall d → AllByRecursion IsSizedRow rows → plan.Holds IsSized (r.insertion d rows)
insertion-sized d [] small sized = plan.leaves IsSized _
insertion-sized d (row ∷ rows) small sized =
    plan.appends IsSized _ _ (all-mapped IsSizedRow AreCells (r.cells_of d.columns) (λ row h. cells-small d.columns row small h) (row ∷ rows) sized)

deletion-sized : (d : Draft) (rows : List RowRef) → plan.Holds IsSized (r.deletion d rows)
deletion-sized d [] = plan.leaves IsSized _
deletion-sized d (row ∷ rows) = plan.appends IsSized _ _ tt

updating-sized : (d : Draft) (set : Cells) (rows : List RowRef) → AreCells set → plan.Holds IsSized (r.updating d set rows)
updating-sized d set [] small = plan.leaves IsSized _
updating-sized d set (row ∷ rows) small = plan.appends IsSized _ _ small

alters-sized : (next : ℕ) (w : Work) (x : Alter) (d : Draft) → IsSizedAlter x → plan.Holds IsSized (p.alter_column next w x d)
alters-sized next w (alter.Add def) d sized = plan.unless-holds IsSized _ _ (plan.appends IsSized _ _ (column-small d.next_field def sized))
alters-sized next w (alter.Remove name) d sized = plan.of_column-holds IsSized name _ (column_named d.columns name) (λ c. plan.unless-holds IsSized _ _ (plan.appends IsSized _ _ tt))
alters-sized next w (alter.Rename name to) d sized = plan.of_column-holds IsSized name _ (column_named d.columns name) (λ c. plan.unless-holds IsSized _ _ (plan.appends IsSized _ _ sized))
alters-sized next w (alter.Promote name ty) d sized = plan.of_column-holds IsSized name _ (column_named d.columns name) (λ c. plan.unless-holds IsSized _ _ (plan.appends IsSized _ _ tt))
alters-sized next w (alter.SetDefault name v) d sized = plan.of_column-holds IsSized name _ (column_named d.columns name) (λ c. plan.unless-holds IsSized _ _ (plan.appends IsSized _ _ sized))

plans-sized : (next : ℕ) (w : Work) (x : Stmt) → AllByRecursion HasSmall w.tables → IsSizedStmt x → plan.Holds IsSized (s.plan_in next w x)
plans-sized next w (stmt.CreateSchema name) small sized = plan.unless-holds IsSized _ _ (plan.appends IsSized _ _ sized)
plans-sized next w (stmt.DropSchema name) small sized =
    plan.in_schema-holds IsSized name _ (p.schema_named w name) (λ at named. plan.unless-holds IsSized _ _ (plan.appends IsSized _ _ tt))
plans-sized next w (stmt.CreateTable table defs) small sized =
    plan.in_schema-holds IsSized table.schema _ (p.schema_named w table.schema)
    (λ at named. plan.unless-holds IsSized _ _ (plan.appends IsSized _ _ (sized.0, some-columns 1 defs sized.1, columns-small 1 defs sized.2)))
plans-sized next w (stmt.DropTable table) small sized = plan.on_table-holds IsSized w table _ (λ at d found. plan.appends IsSized _ _ tt)
plans-sized next w (stmt.Change table x) small sized = plan.on_table-holds IsSized w table _ (λ at d found. alters-sized next w x d sized)
plans-sized next w (stmt.Insert table rows) small sized =
    plan.on_table-holds IsSized w table _ (λ at d found. plan.unless-holds IsSized _ _ (insertion-sized d rows (plan.found-has HasSmall _ w.tables d found small) sized))
plans-sized next w (stmt.Delete table test) small sized =
    plan.on_table-holds IsSized w table _ (λ at d found. plan.unless-holds IsSized _ _ (deletion-sized d _))
plans-sized next w (stmt.Update table set test) small sized =
    plan.on_table-holds IsSized w table _ (λ at d found. plan.unless-holds IsSized _ _ (updating-sized d _ _ (assigned-small d.columns set sized)))
plans-sized next w (stmt.Compact table) small sized = plan.on_table-holds IsSized w table _ (λ at d found. plan.appends IsSized _ _ tt)
plans-sized next w (stmt.Flush table) small sized = plan.on_table-holds IsSized w table _ (λ at d found. plan.appends IsSized _ _ tt)
plans-sized next w x small sized = plan.leaves IsSized _

pub sized_appends : SizedAppendsSized
sized_appends base own x c a small fits sized is =
    plan.appended-holds IsSized _ c a is (plan.plan_of-holds IsSized base own x (plans-sized base.next_catalog (worked base own) x (fits_small base own small fits) sized))
