use Rattle.std.proofs.Common.{◌≡◌, true, List, ap, ◌∙◌, is_lt, subst}
use Rattle.std.specs.Prelude.{IfOk}
use Rattle.cat_tables.specs.Table.{IsBelow}
use Rattle.cat_rows.specs.Batches.{tables_of}
use Rattle.cat_rows.specs.Keys.{snapshot_changes_key}
use Rattle.cat_rows.specs.declared.history.SnapshotChangesRow.{SnapshotChangesRow}
use Rattle.cat_rows.specs.declared.schemas.SchemaRow.{SchemaRow}
use Rattle.cat_rules.specs.First.{FirstBad}
use Rattle.cat_rules.specs.Places.{is_sooner, of_changes}
use Rattle.cat_rules.specs.Rows.{Names}
use Rattle.cat_rules.proofs.FirstLemmas.{ascends_like}
use Rattle.history_rules.specs.Endings.{names_at}
use Rattle.cat_rules.specs.HistoryRule.{IsUnread, names_ending}
use Rattle.history_rules.proofs.TextLemmas.{first_unread_like}
use Rattle.history_rules.proofs.text_rule.first_unread_text.Goals as goal

pub first_checked-requires : goal.first_checked-requires
first_checked-requires c =
    ascends_like (IsBelow snapshot_changes_key) (λ a b. is_sooner (of_changes a) (of_changes b) ≡ true) (λ a b below. ap is_lt below) c.snapshot_changes.result.now c.snapshot_changes.ensures.rises

pub returns : goal.returns
returns c =
    let t = tables_of c.args.rows.now in
    let names = names_at c.in_ok-endings.endings in
    let First : List SnapshotChangesRow → Type 0 = λ rows. IfOk c.first_checked.result (FirstBad (Names of_changes (IsUnread t names) rows)) in
    let found = subst First c.snapshot_changes.ensures.rows c.first_checked.ensures in
    first_unread_like t names (names_ending t.schema) t.snapshot_changes c.first_checked.result
    (λ n. c.in_ok-endings.ensures n ∙ ap (λ (rows : List SchemaRow). names_ending rows n) c.schema.ensures.rows) found
