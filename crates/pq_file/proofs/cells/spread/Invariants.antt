use Rattle.std.proofs.Common.{◌≡◌, ◌++◌, drop}
use Rattle.std.specs.Vec.Iter.{into_iter_items}
use Rattle.pq_file.specs.Cells.{spread}
use Rattle.pq_file.proofs.cells.spread.Given as goal

abbrev pub invariant-loop-flag : goal.invariant-loop-flag
invariant-loop-flag l = l.cells ++ spread (drop l.flag-index l.flags) (into_iter_items l.values) ≡ spread l.flags l.fn.values
