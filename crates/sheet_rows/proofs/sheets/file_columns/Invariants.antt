use Rattle.std.proofs.Common.{◌≡◌, map, take}
use Rattle.sheet_rows.specs.Sheets.{file_column}
use Rattle.sheet_rows.proofs.sheets.file_columns.Given as goal

abbrev pub invariant-loop-column : goal.invariant-loop-column
invariant-loop-column l = l.made ≡ map (file_column l.rows) (take l.column-index l.columns)
