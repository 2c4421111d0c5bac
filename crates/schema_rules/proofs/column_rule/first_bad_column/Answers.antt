use Rattle.std.proofs.Common.{◌⊎◌}
use Rattle.cat_rows.specs.Batches.{tables_of}
use Rattle.cat_rows.specs.Seen.{Seen}
use Rattle.cat_rows.specs.declared.batch.Key.{Key}
use Rattle.cat_rules.specs.ColumnRule.{IsColumnBad, IsColumnless, IsCrowdedColumn}
use Rattle.cat_rules.specs.EachKept.{AtKept}
use Rattle.cat_rules.proofs.FirstLemmas.{first_or}
use Rattle.cat_rules.proofs.SeenLemmas.{first_at_or}
use Rattle.schema_rules.proofs.column_rule.first_bad_column.Goals as goal

pub returns : goal.returns
returns c =
    let t = tables_of c.args.rows.now in
    let Either : Seen → Key → Type 0 = λ seen k. IsCrowdedColumn seen k ⊎ IsColumnBad t seen k in
    first_at_or IsColumnless Either t _
    (first_or (AtKept IsColumnless t) (AtKept Either t) _ _ _ c.sooner-2.ensures c.in_ok-columnless.ensures
    (first_at_or IsCrowdedColumn (IsColumnBad t) t _ (first_or (AtKept IsCrowdedColumn t) (AtKept (IsColumnBad t) t) _ _ _ c.sooner.ensures c.in_ok-crowded.ensures c.in_ok-wrong.ensures)))
