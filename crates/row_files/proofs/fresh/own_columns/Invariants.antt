use Rattle.std.proofs.Common.{◌≡◌, map, take}
use Rattle.sheet_rows.specs.Sheets.{file_column}
use Rattle.row_files.specs.Own.{own_rows}
use Rattle.row_files.proofs.fresh.own_columns.Given as goal

abbrev pub invariant-loop-column : goal.invariant-loop-column
invariant-loop-column l = l.made ≡ map (file_column (own_rows l.own l.places)) (take l.column-index l.columns)
