use Rattle.std.proofs.Common.{◌≡◌, take}
use Rattle.std.specs.List.{flat_map}
use Rattle.pq_file.specs.Raw.{cell_bytes}
use Rattle.pq_file.specs.Writable.{HoldTexts}
use Rattle.pq_file.proofs.raw.cells_bytes.Given as goal

abbrev pub invariant-loop-cell : goal.invariant-loop-cell
invariant-loop-cell l = (l.out.items ≡ flat_map (cell_bytes l.ty) (take l.cell-index l.cells)) × HoldTexts l.ty (take l.cell-index l.cells)
