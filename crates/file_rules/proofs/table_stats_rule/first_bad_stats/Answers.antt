use Rattle.std.proofs.Common.{Bool, not}
use Rattle.cat_rows.specs.Batches.{holds, tables_of}
use Rattle.cat_rows.specs.declared.schemas.TableRow.{TableRow}
use Rattle.cat_rules.specs.TableStatsRule.{are_stats_large, stats_of}
use Rattle.cat_rules.specs.Places.{of_table_stats}
use Rattle.cat_rules.specs.Rows.{NamesIf}
use Rattle.cat_rules.proofs.FirstLemmas.{first_in, first_or}
use Rattle.file_rules.proofs.table_stats_rule.first_bad_stats.Goals as goal

pub returns : goal.returns
returns c =
    let t = tables_of c.args.rows.now in
    let lacks : TableRow → Bool = λ r. not (holds t (stats_of r)) in
    first_or (NamesIf stats_of lacks t.table) (NamesIf of_table_stats (are_stats_large t) t.table_stats) _ _ _ c.sooner.ensures
    (first_in stats_of lacks t.table _ _ c.table.ensures.rows c.first_bad-missing.ensures)
    (first_in of_table_stats (are_stats_large t) t.table_stats _ _ c.table_stats.ensures.rows c.first_bad-large.ensures)
