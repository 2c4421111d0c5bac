use Rattle.std.proofs.Common.{◌≡◌, take, map}
use Rattle.pq_file.specs.Canonical.{meta_column}
use Rattle.pq_file.proofs.writing.meta_columns.Given as goal

abbrev pub invariant-loop-column : goal.invariant-loop-column
invariant-loop-column l = l.made ≡ map meta_column (take l.column-index l.columns)
