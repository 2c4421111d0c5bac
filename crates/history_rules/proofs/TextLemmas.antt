-- Texts that are read with the same names.
use Rattle.std.proofs.Common.{◌≡◌, ℕ, List, Option, Result, Ok, Err, IfOk, sym, subst}
use Rattle.lake_types.specs.declared.kind.SchemaName.{SchemaName}
use Rattle.cat_rows.specs.Tables.{Tables}
use Rattle.cat_rows.specs.declared.batch.Key.{Key}
use Rattle.cat_rows.specs.declared.history.SnapshotChangesRow.{SnapshotChangesRow}
use Rattle.cat_rules.specs.First.{FirstBad}
use Rattle.cat_rules.specs.Places.{of_changes}
use Rattle.cat_rules.specs.Rows.{Names}
use Rattle.cat_rules.proofs.FirstLemmas.{SomeOf_like, first_like}
use Rattle.cat_rules.specs.HistoryRule.{IsRead, IsUnread}

unread_like : (t : Tables) (names others : ℕ → List SchemaName) → ((n : ℕ) → names n ≡ others n) → (r : SnapshotChangesRow) → IsUnread t names r → IsUnread t others r
unread_like t names others same r h =
    let T : List SchemaName → Type 0 = λ l. IsRead l r.changes_made in
    (h.0, h.1, λ read. h.2 (subst T (sym (same r.snapshot_id)) read))

pub first_unread_like : {E : Type 0} (t : Tables) (names others : ℕ → List SchemaName) (rows : List SnapshotChangesRow) (r : Result (Option Key) E) → ((n : ℕ) → names n ≡ others n)
    → IfOk r (FirstBad (Names of_changes (IsUnread t names) rows)) → IfOk r (FirstBad (Names of_changes (IsUnread t others) rows))
first_unread_like t names others rows (Ok o) same h =
    first_like (Names of_changes (IsUnread t names) rows) (Names of_changes (IsUnread t others) rows)
    (λ k p. SomeOf_like _ _ (λ r x. (unread_like t names others same r x.0, x.1)) rows p)
    (λ k p. SomeOf_like _ _ (λ r x. (unread_like t others names (λ n. sym (same n)) r x.0, x.1)) rows p) o h
first_unread_like t names others rows (Err e) same h = tt
