use Rattle.std.proofs.Common.{rules, ◌≡◌, true, Some}
use Rattle.cat_tables.specs.Validity.{is_visible}
use Rattle.cat_rows.specs.Batches.{tables_of}
use Rattle.cat_rows.specs.Validities.{table_validity}
use Rattle.cat_view.specs.Sight.{stats_row}
use Rattle.cat_core.proofs.ReadLemmas.{where_counted}
use Rattle.cat_core.proofs.readable.is_counted.Goals as goal

pub returns-in-Some : goal.returns-in-Some
returns-in-Some c =
    let t = tables_of c.args.rows.now in
    let there : stats_row t c.args.row.now.table_id ≡ Some c.in-Some.stats.now = search rules in
    let seen : is_visible table_validity c.args.snapshot c.args.row.now ≡ true = search rules in
    let most : c.from.result ≡ 4294967295 = search rules in
    where_counted t c.args.row.now.table_id c.from.result c.in-Some.stats.now most there seen
