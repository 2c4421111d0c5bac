-- Rule 2, on snapshots and their changes texts.
use Rattle.std.specs.Prelude.{◌≡◌, ◌⊎◌, ◌<◌, ℕ, Bool, false, not, List, [], ◌∷◌, ◌==◌, true, Option, Some, None, filter, map}
use Rattle.cat_rows.specs.Batches.{holds}
use Rattle.cat_rows.specs.Tables.{Tables}
use Rattle.cat_rows.specs.declared.batch.Key.{Key}
use Rattle.cat_rows.specs.declared.batch.Key.TheVariants as key
use Rattle.cat_rows.specs.declared.history.SnapshotRow.{SnapshotRow}
use Rattle.cat_rows.specs.declared.history.SnapshotChangesRow.{SnapshotChangesRow}
use Rattle.cat_rules.specs.Places.{of_changes}
use Rattle.cat_rules.specs.Rows.{SomeOf, NamesIf, Names}
use Rattle.lake_types.specs.declared.kind.Kind.{Kind}
use Rattle.lake_types.specs.declared.kind.SchemaName.{SchemaName}
use Rattle.cat_rows.specs.declared.schemas.SchemaRow.{SchemaRow}
use Rattle.lake_types.specs.Kinds.{SaysWith}
use Rattle.cat_rules.specs.Kept.{kept_of}

abbrev pub IsAmong : List SnapshotRow → ℕ → Type 0
IsAmong rows n = SomeOf (λ q. q.snapshot_id ≡ n) rows

-- There is a snapshot, and between two there are all others. Where there is none, the missing one is 0.
abbrev pub IsMissing : List SnapshotRow → Key → Type 0
IsMissing [] k = key.Snapshot 0 ≡ k
IsMissing (r ∷ rs) k =
    (n : ℕ) × (key.Snapshot n ≡ k) × SomeOf (λ q. q.snapshot_id < n) (r ∷ rs) × SomeOf (λ q. n < q.snapshot_id) (r ∷ rs)
    × (IsAmong (r ∷ rs) n → ⊥)

abbrev pub changes_of : SnapshotRow → Key
changes_of r = key.SnapshotChanges r.snapshot_id

abbrev pub snapshot_of : SnapshotChangesRow → Key
snapshot_of r = key.Snapshot r.snapshot_id

-- There are snapshots, consecutive ones, each with a changes text, and there is no text of another.
abbrev pub IsSnapshotBad : Tables → Key → Type 0
IsSnapshotBad t k =
    IsMissing t.snapshot k
    ⊎ (NamesIf changes_of (λ r. not (holds t (changes_of r))) t.snapshot k
    ⊎ NamesIf snapshot_of (λ r. not (holds t (snapshot_of r))) t.snapshot_changes k)

abbrev pub is_end : ℕ → Option ℕ → Bool
is_end n None = false
is_end n (Some end) = (end == n)

abbrev pub name_of_schema : SchemaRow → SchemaName
name_of_schema s = record { id = s.schema_id; name = s.schema_name }

-- the names of the schemas that end at a snapshot
abbrev pub names_ending : List SchemaRow → ℕ → List SchemaName
names_ending schemas n = map name_of_schema (filter (λ s. is_end n s.end_snapshot) schemas)

-- the text says what kinds of change there were, where dropped schemas have these names
abbrev pub IsRead : List SchemaName → List ℕ → Type 0
IsRead names text = (kinds : List Kind) × SaysWith names text kinds

-- a kept snapshot past the first, whose text isn't read with the names of the schemas that end there
abbrev pub IsUnread : Tables → (ℕ → List SchemaName) → SnapshotChangesRow → Type 0
IsUnread t names r =
    ((kept_of t.snapshot).first < r.snapshot_id) × (holds t (key.Snapshot r.snapshot_id) ≡ true)
    × (IsRead (names r.snapshot_id) r.changes_made → ⊥)

-- The changes text of each kept snapshot past the first is read, with the names of the schemas that end there.
abbrev pub IsTextBad : Tables → Key → Type 0
IsTextBad t = Names of_changes (IsUnread t (names_ending t.schema)) t.snapshot_changes

abbrev pub IsHistoryBad : Tables → Key → Type 0
IsHistoryBad t k = IsSnapshotBad t k ⊎ IsTextBad t k
