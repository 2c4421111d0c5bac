use Rattle.std.proofs.Common.{◌≡◌, drop}
use Rattle.lake_types.specs.Cells.{cell_at, laid_cells}
use Rattle.scan_exec.proofs.own.LaidCells.cell.Given as goal

-- the columns that are left decide
abbrev pub invariant-loop-column : goal.invariant-loop-column
invariant-loop-column l = cell_at (laid_cells l.self.columns.now l.self.cells.now) l.field
    ≡ cell_at (laid_cells (drop l.column-index l.self.columns.now) l.self.cells.now) l.field
