use Rattle.std.proofs.Common.{◌⊎◌, Bool, subst, not}
use Rattle.cat_rows.specs.Batches.{holds, tables_of}
use Rattle.cat_rows.specs.declared.batch.Key.{Key}
use Rattle.cat_rows.specs.declared.history.SnapshotRow.{SnapshotRow}
use Rattle.cat_rows.specs.declared.history.SnapshotChangesRow.{SnapshotChangesRow}
use Rattle.cat_rules.specs.First.{FirstBad}
use Rattle.cat_rules.specs.HistoryRule.{IsMissing, changes_of, snapshot_of}
use Rattle.cat_rules.specs.Rows.{NamesIf}
use Rattle.cat_rules.proofs.FirstLemmas.{first_in, first_or}
use Rattle.history_rules.proofs.history_rule.first_bad_snapshot.Goals as goal

pub returns : goal.returns
returns c =
    let t = tables_of c.args.rows.now in
    let lacks_text : SnapshotRow → Bool = λ r. not (holds t (changes_of r)) in
    let lacks_snapshot : SnapshotChangesRow → Bool = λ r. not (holds t (snapshot_of r)) in
    let Text : Key → Type 0 = NamesIf changes_of lacks_text t.snapshot in
    let Snapshot : Key → Type 0 = NamesIf snapshot_of lacks_snapshot t.snapshot_changes in
    first_or (IsMissing t.snapshot) (λ k. Text k ⊎ Snapshot k) _ _ _ c.sooner-2.ensures
    (subst (λ rows. FirstBad (IsMissing rows) c.first_gap-gap.result) c.snapshot.ensures.rows c.first_gap-gap.ensures)
    (first_or Text Snapshot _ _ _ c.sooner.ensures
    (first_in changes_of lacks_text t.snapshot _ _ c.snapshot-2.ensures.rows c.first_bad-text.ensures)
    (first_in snapshot_of lacks_snapshot t.snapshot_changes _ _ c.snapshot_changes.ensures.rows c.first_bad-snapshot.ensures))
