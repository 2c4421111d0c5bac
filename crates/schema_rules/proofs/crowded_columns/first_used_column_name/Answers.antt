use Rattle.std.proofs.Common.{◌≡◌, true, subst, ap, ap₂, is_lt, ◌∷◌}
use Rattle.cat_tables.specs.Table.{IsBelow, RisesByKey}
use Rattle.cat_rows.specs.Batches.{tables_of}
use Rattle.cat_rows.specs.Keys.{column_key, table_key}
use Rattle.cat_rules.specs.Places.{is_sooner, of_column}
use Rattle.cat_rules.proofs.DatedLemmas.{none_missing, dated_columns, dated_tables}
use Rattle.cat_rules.proofs.FirstLemmas.{ascends_like}
use Rattle.cat_rules.specs.ColumnRule.{HaveOneColumnName}
use Rattle.schema_rules.specs.Groups.{group_by_name}
use Rattle.schema_rules.proofs.CrowdedColumnLemmas.{first_alike_among}
use Rattle.schema_rules.proofs.crowded_columns.first_used_column_name.Goals as goal

pub first_crowded-requires : goal.first_crowded-requires
first_crowded-requires c =
    ascends_like (IsBelow column_key) (λ a b. is_sooner (of_column a) (of_column b) ≡ true) (λ a b below. ap is_lt below) c.column.result.now c.column.ensures.rises

pub returns : goal.returns
returns c =
    let t = tables_of c.args.rows.now in
    let first = c.first_kept-first in
    let tables = subst (RisesByKey table_key) c.table-tables.ensures.rows c.table-tables.ensures.rises in
    first_alike_among t first.ensures.rises tables (none_missing t c.requires.history) (dated_columns t c.requires.intervals) (dated_tables t c.requires.intervals)
    c.first_crowded.result first.result c.column.result.now first.ensures.first c.column.ensures.rows group_by_name (λ q c e. cc) HaveOneColumnName (λ q c e. e) (λ q c e. e) (λ q c e. e) (λ q c e. e) (λ q c e. cc) (λ q c e o. ap₂ (λ m n. m ∷ 0 ∷ n) e o)
    c.first_crowded.ensures
