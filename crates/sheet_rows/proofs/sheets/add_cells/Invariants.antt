use Rattle.std.proofs.Common.{◌≡◌, ◌++◌, map, take}
use Rattle.sheet_rows.specs.Sheets.{file_cell}
use Rattle.sheet_rows.proofs.sheets.add_cells.Given as goal

abbrev pub invariant-loop-row : goal.invariant-loop-row
invariant-loop-row l = l.made ≡ record l.fn.made { cells = l.fn.made.cells ++ map (file_cell l.column) (take l.row-index l.rows) }
