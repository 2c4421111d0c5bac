use Rattle.std.proofs.Common.{◌≡◌, true, List, ap, is_lt, subst}
use Rattle.std.specs.Prelude.{IfOk}
use Rattle.std.proofs.lemmas.Result.{IfOk-weaker}
use Rattle.cat_tables.specs.Table.{IsBelow, RisesByKey}
use Rattle.cat_rows.specs.Batches.{tables_of}
use Rattle.cat_rows.specs.Keys.{column_key, snapshot_key, table_key}
use Rattle.cat_rows.specs.declared.schemas.ColumnRow.{ColumnRow}
use Rattle.cat_rules.specs.First.{FirstBad}
use Rattle.cat_rules.specs.Places.{is_sooner, of_column}
use Rattle.cat_rules.specs.Rows.{Names}
use Rattle.cat_rules.proofs.FirstLemmas.{ascends_like}
use Rattle.cat_rows.specs.Validities.{column_validity}
use Rattle.cat_rules.specs.ColumnRule.{IsColumnWrong}
use Rattle.cat_rules.specs.Meeting.{meets_table}
use Rattle.cat_rules.specs.Lookups.{table_of}
use Rattle.schema_rules.proofs.ColumnLemmas.{first_column}
use Rattle.schema_rules.proofs.column_rule.first_wrong_column.Goals as goal

pub first_checked-requires : goal.first_checked-requires
first_checked-requires c =
    ascends_like (IsBelow column_key) (λ a b. is_sooner (of_column a) (of_column b) ≡ true) (λ a b below. ap is_lt below) c.column.result.now c.column.ensures.rises

pub returns : goal.returns
returns c =
    let t = tables_of c.args.rows.now in
    let up = subst (RisesByKey snapshot_key) c.snapshot-snapshots.ensures.rows c.snapshot-snapshots.ensures.rises in
    let tables = subst (RisesByKey table_key) c.table-tables.ensures.rows c.table-tables.ensures.rises in
    let First : List ColumnRow → Type 0 = λ rows. IfOk c.first_checked.result (FirstBad (Names of_column (λ q. (meets_table column_validity q (table_of t q.table_id) ≡ true) × IsColumnWrong t q) rows)) in
    IfOk-weaker c.first_checked.result _ _ (first_column t up tables c.requires.history c.requires.intervals) (subst First c.column.ensures.rows c.first_checked.ensures)
