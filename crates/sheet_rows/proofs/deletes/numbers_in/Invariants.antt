use Rattle.std.proofs.Common.{◌≡◌, take}
use Rattle.std.specs.List.{filter_map}
use Rattle.sheet_rows.specs.Live.{number_in}
use Rattle.sheet_rows.proofs.deletes.numbers_in.Given as goal

abbrev pub invariant-loop-cell : goal.invariant-loop-cell
invariant-loop-cell l = l.made.items ≡ filter_map number_in (take l.cell-index l.cells)
