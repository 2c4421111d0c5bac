use Rattle.std.proofs.Common.{◌≡◌, ◌++◌, drop, take}
use Rattle.std.specs.Prelude.{All}
use Rattle.std.specs.List.{flat_map}
use Rattle.pq_meta.specs.Consistency.{IsNamed}
use Rattle.pq_meta.specs.Spelling.{column_bytes}
use Rattle.pq_meta.proofs.writing.put_columns.Given as goal

abbrev pub invariant-loop-column : goal.invariant-loop-column
invariant-loop-column l =
    (l.writer ++ flat_map column_bytes (drop l.column-index l.columns) ≡ l.fn.writer ++ flat_map column_bytes l.columns)
    × All IsNamed (take l.column-index l.columns)
