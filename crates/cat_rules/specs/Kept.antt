-- The snapshots that are kept, and what is so at one of them.
use Rattle.std.specs.Prelude.{◌≡◌, ℕ, List, [], ◌∷◌, Option, Some, None}
use Rattle.cat_rows.specs.Tables.{Tables}
use Rattle.cat_rows.specs.declared.history.SnapshotRow.{SnapshotRow}
use Rattle.cat_rules.specs.Rows.{SomeOf}
use Rattle.cat_rules.specs.declared.kept.Kept.{Kept}

-- the snapshot is kept: it has a row
abbrev pub IsKept : Tables → ℕ → Type 0
IsKept t s = SomeOf (λ q. q.snapshot_id ≡ s) t.snapshot

-- so at some kept snapshot
abbrev pub AtSome : Tables → (ℕ → Type 0) → Type 0
AtSome t P = SomeOf (λ q. P q.snapshot_id) t.snapshot

-- the last of the snapshots, which rise by id
abbrev pub newest : List SnapshotRow → Option SnapshotRow
newest [] = None
newest (r ∷ []) = Some r
newest (r ∷ q ∷ rs) = newest (q ∷ rs)

abbrev pub oldest : List SnapshotRow → Option SnapshotRow
oldest [] = None
oldest (r ∷ rs) = Some r

-- the id of a snapshot, and 0 of none
abbrev pub id_of : Option SnapshotRow → ℕ
id_of None = 0
id_of (Some r) = r.snapshot_id

-- from the first snapshot to the newest
abbrev pub kept_of : List SnapshotRow → Kept
kept_of rows = record { first = id_of (oldest rows); newest = id_of (newest rows) }
