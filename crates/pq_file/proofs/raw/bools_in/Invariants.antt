use Rattle.std.proofs.Common.{◌≡◌, take}
use Rattle.std.specs.List.{filter_map}
use Rattle.pq_file.specs.Raw.{bool_in}
use Rattle.pq_file.proofs.raw.bools_in.Given as goal

abbrev pub invariant-loop-cell : goal.invariant-loop-cell
invariant-loop-cell l = l.bools.items ≡ filter_map bool_in (take l.cell-index l.cells)
