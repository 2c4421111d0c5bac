use Rattle.std.proofs.Common.{take}
use Rattle.std.specs.List.{AllZip}
use Rattle.sheet_rows.specs.Sheets.{AreCounts}
use Rattle.sheet_rows.proofs.stats.column_stats.Given as goal

abbrev pub invariant-loop-at : goal.invariant-loop-at
invariant-loop-at l = AllZip AreCounts (take l.at l.sheet) l.stats.items
