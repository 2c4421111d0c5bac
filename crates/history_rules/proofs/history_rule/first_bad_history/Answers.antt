use Rattle.cat_rows.specs.Batches.{tables_of}
use Rattle.cat_rules.specs.HistoryRule.{IsSnapshotBad, IsTextBad}
use Rattle.cat_rules.proofs.FirstLemmas.{first_or}
use Rattle.history_rules.proofs.history_rule.first_bad_history.Goals as goal

pub returns : goal.returns
returns c =
    let t = tables_of c.args.rows.now in
    first_or (IsSnapshotBad t) (IsTextBad t) _ _ _ c.sooner.ensures c.first_bad_snapshot.ensures c.in_ok-text.ensures
