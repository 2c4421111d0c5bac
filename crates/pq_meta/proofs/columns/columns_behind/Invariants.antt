use Rattle.std.proofs.Common.{◌≡◌, [], drop}
use Rattle.pq_meta.specs.Columns.{columns_behind}
use Rattle.pq_meta.proofs.columns.columns_behind.Given as goal

abbrev pub invariant-loop-element : goal.invariant-loop-element
invariant-loop-element l = columns_behind l.columns (drop l.element-index l.elements) ≡ columns_behind [] l.elements
