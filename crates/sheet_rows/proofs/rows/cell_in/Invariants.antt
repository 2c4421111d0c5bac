use Rattle.std.proofs.Common.{◌≡◌, drop, map}
use Rattle.field_map.specs.Steps.{cell}
use Rattle.lake_types.specs.Cells.{cell_at}
use Rattle.sheet_rows.proofs.rows.cell_in.Given as goal

-- the columns that are left decide
abbrev pub invariant-loop-at : goal.invariant-loop-at
invariant-loop-at l = cell_at (map (cell l.sheet l.row) l.columns) l.field ≡ cell_at (map (cell l.sheet l.row) (drop l.at l.columns)) l.field
