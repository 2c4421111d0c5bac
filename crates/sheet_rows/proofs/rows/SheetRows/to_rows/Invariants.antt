use Rattle.std.proofs.Common.{◌≡◌, take}
use Rattle.sheet_rows.proofs.rows.SheetRows.to_rows.Given as goal

abbrev pub invariant-loop-at : goal.invariant-loop-at
invariant-loop-at l = l.rows ≡ take l.at l.self
