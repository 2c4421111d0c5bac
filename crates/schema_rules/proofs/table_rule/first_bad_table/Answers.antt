use Rattle.cat_rows.specs.Batches.{tables_of}
use Rattle.cat_rules.specs.EachKept.{AtKept}
use Rattle.cat_rules.specs.TableRule.{IsTableUnmatched, IsTableNameUsed}
use Rattle.cat_rules.proofs.FirstLemmas.{first_or}
use Rattle.cat_rules.proofs.SeenLemmas.{first_at_or}
use Rattle.schema_rules.proofs.table_rule.first_bad_table.Goals as goal

pub returns : goal.returns
returns c =
    let t = tables_of c.args.rows.now in
    first_at_or (IsTableUnmatched t) IsTableNameUsed t _
    (first_or (AtKept (IsTableUnmatched t) t) (AtKept IsTableNameUsed t) _ _ _ c.sooner.ensures c.first_unmatched_table.ensures c.in_ok-name.ensures)
