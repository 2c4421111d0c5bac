use Rattle.std.proofs.Common.{◌≡◌, true, ap, is_lt, subst}
use Rattle.cat_tables.specs.Table.{IsBelow, RisesByKey}
use Rattle.cat_rows.specs.Batches.{tables_of}
use Rattle.cat_rows.specs.Keys.{inlined_row_key, table_key}
use Rattle.cat_rules.specs.Places.{is_sooner, of_inlined}
use Rattle.cat_rules.proofs.DatedLemmas.{dated_inlined, dated_tables, none_missing}
use Rattle.cat_rules.proofs.FirstLemmas.{ascends_like}
use Rattle.inlined_rules.proofs.ThousandLemmas.{first_thousand_among}
use Rattle.inlined_rules.proofs.crowded_inlined.first_crowded_inlined.Goals as goal

pub first_crowded-requires : goal.first_crowded-requires
first_crowded-requires c =
    ascends_like (IsBelow inlined_row_key) (λ a b. is_sooner (of_inlined a) (of_inlined b) ≡ true) (λ a b below. ap is_lt below) c.inlined_row.result.now c.inlined_row.ensures.rises

pub returns : goal.returns
returns c =
    let t = tables_of c.args.rows.now in
    let first = c.first_kept-first in
    let tables = subst (RisesByKey table_key) c.table-tables.ensures.rows c.table-tables.ensures.rises in
    first_thousand_among t first.ensures.rises tables (none_missing t c.requires.history) (dated_tables t c.requires.intervals) (dated_inlined t c.requires.intervals)
    c.first_crowded.result first.result c.inlined_row.result.now first.ensures.first c.inlined_row.ensures.rows c.first_crowded.ensures
