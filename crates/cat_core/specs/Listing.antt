-- What a core tells of its snapshots.
use Rattle.std.specs.Prelude.{List, [], ◌∷◌}
use Rattle.lake_model.specs.declared.call.SnapRow.{SnapRow}
use Rattle.cat_rows.specs.declared.history.SnapshotChangesRow.{SnapshotChangesRow}
use Rattle.cat_rows.specs.declared.history.SnapshotRow.{SnapshotRow}

-- each snapshot with the text of what it changed
abbrev pub listed : List SnapshotRow → List SnapshotChangesRow → List SnapRow
listed [] changes = []
listed (r ∷ rows) [] = []
listed (r ∷ rows) (c ∷ changes) = record { snapshot = r.snapshot_id; changes = c.changes_made } ∷ listed rows changes
