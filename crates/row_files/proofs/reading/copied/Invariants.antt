use Rattle.std.proofs.Common.{◌≡◌, take}
use Rattle.row_files.proofs.reading.copied.Given as goal

-- the columns so far
abbrev pub invariant-loop-column : goal.invariant-loop-column
invariant-loop-column l = l.copy ≡ take l.column-index l.columns
