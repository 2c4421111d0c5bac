use Rattle.std.proofs.Common.{length}
use Rattle.std.specs.Prelude.{◌↔◌}
use Rattle.std.specs.List.{AllByRecursion}
use Rattle.cat_tables.specs.Validity.{visible_at}
use Rattle.cat_rows.specs.Batches.{tables_of}
use Rattle.cat_rows.specs.Seen.{seen_at}
use Rattle.cat_rows.specs.Validities.{inlined_row_validity}
use Rattle.cat_core.specs.Readable.{IsInlinedRead}
use Rattle.cat_core.proofs.readable.are_inlined_read.Given as goal

abbrev pub invariant-loop-rest : goal.invariant-loop-rest
invariant-loop-rest l =
    AllByRecursion (IsInlinedRead (seen_at l.snapshot (tables_of l.rows))) (visible_at inlined_row_validity l.snapshot l.rest)
    ↔ AllByRecursion (IsInlinedRead (seen_at l.snapshot (tables_of l.rows))) (seen_at l.snapshot (tables_of l.rows)).inlined_row

abbrev pub decreases-loop-rest : goal.decreases-loop-rest
decreases-loop-rest l = length l.rest
