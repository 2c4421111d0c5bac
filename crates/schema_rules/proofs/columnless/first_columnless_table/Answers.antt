use Rattle.std.proofs.Common.{◌≡◌, true, ap, is_lt}
use Rattle.cat_tables.specs.Table.{IsBelow}
use Rattle.cat_rows.specs.Batches.{tables_of}
use Rattle.cat_rows.specs.Keys.{table_key}
use Rattle.cat_rules.specs.Places.{is_sooner, of_table}
use Rattle.cat_rules.proofs.DatedLemmas.{none_missing, dated_columns, dated_tables}
use Rattle.cat_rules.proofs.FirstLemmas.{ascends_like}
use Rattle.schema_rules.proofs.ColumnlessLemmas.{first_columnless_among}
use Rattle.schema_rules.proofs.columnless.first_columnless_table.Goals as goal

pub first_bare-requires : goal.first_bare-requires
first_bare-requires c =
    ascends_like (IsBelow table_key) (λ a b. is_sooner (of_table a) (of_table b) ≡ true) (λ a b below. ap is_lt below) c.table.result.now c.table.ensures.rises

pub returns : goal.returns
returns c =
    let t = tables_of c.args.rows.now in
    let first = c.first_kept-first in
    first_columnless_among t first.ensures.rises (none_missing t c.requires.history) (dated_columns t c.requires.intervals) (dated_tables t c.requires.intervals)
    c.first_bare.result first.result c.table.result.now c.column.result.now first.ensures.first c.table.ensures.rows c.column.ensures.rows c.first_bare.ensures
