-- What a core tells of its snapshots is what the plain lake tells.
use Rattle.std.proofs.Common.{◌≡◌, ◌+◌, ℕ, List, [], ◌∷◌, length, map, refl}
use Rattle.std.specs.List.{range_with_len}
use Rattle.lake_model.specs.Calls.{Ground, rows_from}
use Rattle.lake_model.specs.Core.{Version}
use Rattle.cat_rows.specs.declared.history.SnapshotChangesRow.{SnapshotChangesRow}
use Rattle.cat_rows.specs.declared.history.SnapshotRow.{SnapshotRow}
use Rattle.cat_view.specs.Files.{Files}
use Rattle.cat_core.specs.Listing.{listed}
use Rattle.cat_core.specs.Shown.{Shown}
use Rattle.cat_core.specs.Stands.{Stands}

listed-from : (first : ℕ) (rows : List SnapshotRow) (changes : List SnapshotChangesRow) (versions : List Version) → map (λ (r : SnapshotRow). r.snapshot_id) rows ≡ range_with_len first (length versions)
    → map (λ (r : SnapshotChangesRow). r.changes_made) changes ≡ map (λ (v : Version). v.text) versions → listed rows changes ≡ rows_from first versions
listed-from first [] changes [] e f = refl
listed-from first [] changes (v ∷ versions) e f = absurd cc
listed-from first (r ∷ rows) changes [] e f = absurd cc
listed-from first (r ∷ rows) [] (v ∷ versions) e f = absurd cc
listed-from first (r ∷ rows) (c ∷ changes) (v ∷ versions) e f =
    let number : r.snapshot_id ≡ first = cc in
    let text : c.changes_made ≡ v.text = cc in
    let numbers : map (λ (q : SnapshotRow). q.snapshot_id) rows ≡ range_with_len (first + 1) (length versions) = cc in
    let texts : map (λ (q : SnapshotChangesRow). q.changes_made) changes ≡ map (λ (w : Version). w.text) versions = cc in
    let rest = listed-from (first + 1) rows changes versions numbers texts in
    λ i. record { snapshot = number i; changes = text i } ∷ rest i

pub listed-is : (c : Shown) (files : Files) (g : Ground) → Stands c files g → listed c.rows.snapshot c.rows.snapshot_changes ≡ rows_from g.core.first g.core.versions
listed-is c files g h = listed-from g.core.first c.rows.snapshot c.rows.snapshot_changes g.core.versions h.sound.numbers h.sound.texts
