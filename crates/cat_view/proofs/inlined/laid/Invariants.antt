use Rattle.std.proofs.Common.{◌≡◌, ◌++◌, drop}
use Rattle.lake_types.specs.Cells.{laid_cells}
use Rattle.cat_view.proofs.inlined.laid.Given as goal

-- the cells so far, and those for the columns that are left
abbrev pub invariant-loop-column : goal.invariant-loop-column
invariant-loop-column l = l.laid ++ laid_cells (drop l.column-index l.columns) l.cells ≡ laid_cells l.columns l.cells
