use Rattle.std.proofs.Common.{length}
use Rattle.std.specs.Prelude.{◌↔◌}
use Rattle.std.specs.List.{AllByRecursion}
use Rattle.cat_tables.specs.Validity.{visible_at}
use Rattle.cat_rows.specs.Batches.{tables_of}
use Rattle.cat_rows.specs.Seen.{seen_at}
use Rattle.cat_rows.specs.Validities.{table_validity}
use Rattle.cat_core.specs.Readable.{IsCounted}
use Rattle.cat_core.proofs.readable.are_tables_counted.Given as goal

abbrev pub invariant-loop-rest : goal.invariant-loop-rest
invariant-loop-rest l =
    AllByRecursion (IsCounted (tables_of l.rows)) (visible_at table_validity l.snapshot l.rest)
    ↔ AllByRecursion (IsCounted (tables_of l.rows)) (seen_at l.snapshot (tables_of l.rows)).table

abbrev pub decreases-loop-rest : goal.decreases-loop-rest
decreases-loop-rest l = length l.rest
