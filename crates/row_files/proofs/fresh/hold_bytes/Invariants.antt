use Rattle.std.proofs.Common.{All, take}
use Rattle.lake_types.specs.Texts.{HoldsBytes}
use Rattle.row_files.proofs.fresh.hold_bytes.Given as goal

abbrev pub invariant-loop-cell : goal.invariant-loop-cell
invariant-loop-cell l = All HoldsBytes (take l.cell-index l.cells)
