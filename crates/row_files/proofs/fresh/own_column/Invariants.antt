use Rattle.std.proofs.Common.{◌≡◌, take}
use Rattle.sheet_rows.specs.Sheets.{file_column}
use Rattle.row_files.specs.Own.{own_rows}
use Rattle.row_files.proofs.fresh.own_column.Given as goal

abbrev pub invariant-loop-place : goal.invariant-loop-place
invariant-loop-place l = l.made ≡ file_column (own_rows l.own (take l.place-index l.places)) l.column
