use Rattle.std.proofs.Common.{take}
use Rattle.row_files.specs.Fresh.{HoldAllBytes}
use Rattle.row_files.proofs.fresh.columns_hold_bytes.Given as goal

abbrev pub invariant-loop-column : goal.invariant-loop-column
invariant-loop-column l = HoldAllBytes (take l.column-index l.columns)
