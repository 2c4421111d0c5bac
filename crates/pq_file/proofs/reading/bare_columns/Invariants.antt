use Rattle.std.proofs.Common.{◌≡◌, ◌++◌, drop, map, filter}
use Rattle.std.specs.Option.{option_copied}
use Rattle.pq_file.specs.Reading.{bare, is_wanted}
use Rattle.pq_file.proofs.reading.bare_columns.Given as goal

abbrev pub invariant-loop-column : goal.invariant-loop-column
invariant-loop-column l =
    l.kept ++ map bare (filter (is_wanted (option_copied l.fields)) (drop l.column-index l.columns)) ≡ map bare (filter (is_wanted (option_copied l.fields)) l.columns)
