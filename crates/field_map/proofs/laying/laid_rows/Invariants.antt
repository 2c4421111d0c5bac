use Rattle.std.proofs.Common.{◌≡◌, map}
use Rattle.std.specs.List.{range_with_len}
use Rattle.field_map.specs.Laid.{laid_row}
use Rattle.field_map.proofs.laying.laid_rows.Given as goal

-- the rows so far
abbrev pub invariant-loop-id : goal.invariant-loop-id
invariant-loop-id l = l.rows ≡ map (laid_row l.sheet.columns l.columns) (range_with_len 0 l.id)
