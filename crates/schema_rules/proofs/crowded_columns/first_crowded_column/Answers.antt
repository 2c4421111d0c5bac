use Rattle.std.proofs.Common.{◌⊎◌}
use Rattle.cat_rows.specs.Batches.{tables_of}
use Rattle.cat_rows.specs.Seen.{Seen}
use Rattle.cat_rows.specs.declared.batch.Key.{Key}
use Rattle.cat_rules.specs.ColumnRule.{HaveOneColumnName, HaveOneOrder, IsAlikeEarlier, IsPastHundred}
use Rattle.cat_rules.specs.EachKept.{AtKept}
use Rattle.cat_rules.specs.Places.{of_column}
use Rattle.cat_rules.specs.Rows.{Names}
use Rattle.cat_rules.proofs.FirstLemmas.{first_or}
use Rattle.cat_rules.proofs.SeenLemmas.{first_at_or}
use Rattle.schema_rules.proofs.crowded_columns.first_crowded_column.Goals as goal

pub returns : goal.returns
returns c =
    let t = tables_of c.args.rows.now in
    let Past : Seen → Key → Type 0 = λ seen. Names of_column (IsPastHundred seen) seen.column in
    let Order : Seen → Key → Type 0 = λ seen. Names of_column (IsAlikeEarlier HaveOneOrder seen) seen.column in
    let Name : Seen → Key → Type 0 = λ seen. Names of_column (IsAlikeEarlier HaveOneColumnName seen) seen.column in
    let Either : Seen → Key → Type 0 = λ seen k. Order seen k ⊎ Name seen k in
    first_at_or Past Either t _
    (first_or (AtKept Past t) (AtKept Either t) _ _ _ c.sooner-2.ensures c.in_ok-past.ensures
    (first_at_or Order Name t _ (first_or (AtKept Order t) (AtKept Name t) _ _ _ c.sooner.ensures c.in_ok-order.ensures c.in_ok-name.ensures)))
