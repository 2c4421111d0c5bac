use Rattle.std.proofs.Common.{◌≡◌, true, List, ap, is_lt, subst}
use Rattle.std.specs.Prelude.{IfOk}
use Rattle.cat_tables.specs.Table.{IsBelow}
use Rattle.cat_rows.specs.Batches.{tables_of}
use Rattle.cat_rows.specs.Keys.{file_column_stats_key}
use Rattle.cat_rows.specs.declared.files.FileColumnStatsRow.{FileColumnStatsRow}
use Rattle.cat_rules.specs.ColumnStatsRule.{AreStatsWrong}
use Rattle.cat_rules.specs.First.{FirstBad}
use Rattle.cat_rules.specs.Places.{is_sooner, of_column_stats}
use Rattle.cat_rules.specs.Rows.{Names}
use Rattle.cat_rules.proofs.FirstLemmas.{ascends_like}
use Rattle.file_rules.proofs.column_stats_rule.first_bad_column_stats.Goals as goal

pub first_checked-requires : goal.first_checked-requires
first_checked-requires c =
    ascends_like (IsBelow file_column_stats_key) (λ a b. is_sooner (of_column_stats a) (of_column_stats b) ≡ true) (λ a b below. ap is_lt below) c.file_column_stats.result.now c.file_column_stats.ensures.rises

pub returns : goal.returns
returns c =
    let t = tables_of c.args.rows.now in
    let First : List FileColumnStatsRow → Type 0 = λ rows. IfOk c.first_checked.result (FirstBad (Names of_column_stats (AreStatsWrong t) rows)) in
    subst First c.file_column_stats.ensures.rows c.first_checked.ensures
