-- What holds of a content that stands for a lake.
use Rattle.std.specs.Prelude.{◌≡◌, ◌<◌, ◌+◌, ℕ, ℤ, Bool, List, [], ◌∷◌, filter, map, None}
use Rattle.std.specs.List.{AllByRecursion, AllZip}
use Rattle.cat_tables.specs.Validity.{Rests, Validity, visible_at}
use Rattle.cat_rows.specs.Batches.{applied}
use Rattle.cat_rows.specs.Seen.{IsPast, seen_at}
use Rattle.cat_rows.specs.Tables.{Tables, no_rows}
use Rattle.cat_rows.specs.Validities.{column_validity, data_file_validity, delete_file_validity, inlined_row_validity, schema_validity, table_validity}
use Rattle.cat_rows.specs.declared.batch.Batch.{Batch}
use Rattle.cat_rows.specs.declared.history.SnapshotRow.{SnapshotRow}
use Rattle.cat_view.specs.Files.{Extends, Files}
use Rattle.cat_rules.specs.Kept.{IsKept}
use Rattle.cat_rules.specs.Sane.{IsFirstBadRow}
use Rattle.cat_view.specs.Held.{IsHeld}
use Rattle.cat_view.specs.Named.{NamedVersion}
use Rattle.cat_view.specs.Reading.{CanBeSeen}
use Rattle.cat_view.specs.declared.held.HeldFile.{HeldFile}
use Rattle.cat_view.specs.Sight.{IsVersionAt}
use Rattle.lake_model.specs.Core.{Version, first_version}
use Rattle.lake_model.specs.State.{State}
use Rattle.cat_stands.specs.New.{new_tables}
use Rattle.cat_rules.specs.Lookups.{last}
use Rattle.cat_stands.specs.Stands.{IsPlain, IsSound, StandsFor, uncounted}

-- ---- the new lake

-- the empty content stands for the new lake, over any files
abbrev pub EmptyStands : Type 0
EmptyStands = (files : Files) → StandsFor no_rows files 0 (first_version ∷ [])

-- and so does that of snapshot 0, which breaks none of the twelve rules
abbrev pub NewLakeStands : Type 0
NewLakeStands = (files : Files) (time : ℤ) → IsSound (new_tables time) files 0 (first_version ∷ [])

-- ---- other files

-- more files leave what a content stands for
abbrev pub MoreFilesStand : Type 0
MoreFilesStand =
    (t : Tables) (files more : Files) (first : ℕ) (versions : List Version) → Extends files more → IsSound t files first versions
    → IsSound t more first versions

-- ---- one lake

abbrev pub uncounted_version : Version → Version
uncounted_version v = record v { state = uncounted v.state }

-- One first number, and versions that are the same up to the counters of their states; the newest have one state with its
-- counters.
pub record AreOneLake (first second : ℕ) (versions others : List Version) : Type 0 where
  pub first_is : first ≡ second
  pub versions_are : map uncounted_version versions ≡ map uncounted_version others
  pub newest : last (map (λ (v : Version). v.state) versions) ≡ last (map (λ (v : Version). v.state) others)

-- a content, with files, stands for one lake at most
abbrev pub StandsForOne : Type 0
StandsForOne =
    (t : Tables) (files : Files) (first second : ℕ) (versions others : List Version) → IsSound t files first versions
    → IsSound t files second others → AreOneLake first second versions others

-- ---- batches

-- Versions and states that some rows have before, they have after, and back.
abbrev pub Agree : (Tables → Type 0) → Tables → Tables → Type 0
Agree Holds old new = (Holds old → Holds new) × (Holds new → Holds old)

-- a batch that is past a snapshot leaves the version that this one sees
abbrev pub EarlierVersionsStay : Type 0
EarlierVersionsStay =
    (b : Batch) (t : Tables) (s : ℕ) → IsPast s t b → (v : NamedVersion) → Agree (λ u. IsVersionAt u s v) t (applied b t)

-- and the plain state
abbrev pub EarlierStatesStay : Type 0
EarlierStatesStay =
    (files : Files) (b : Batch) (t : Tables) (s : ℕ) → IsPast s t b → (state : State)
    → Agree (λ u. IsPlain files (seen_at s u) state) t (applied b t)

-- these snapshots have these versions
abbrev pub HaveVersions : Files → Tables → List SnapshotRow → List Version → Type 0
HaveVersions files t rows versions =
    AllZip (λ (r : SnapshotRow) (v : Version). IsPlain files (seen_at r.snapshot_id t) v.state) rows versions

-- so it leaves those of all snapshots that it is past
abbrev pub KeptVersionsStay : Type 0
KeptVersionsStay =
    (files : Files) (b : Batch) (t : Tables) (rows : List SnapshotRow) (versions : List Version)
    → AllByRecursion (λ (r : SnapshotRow). IsPast r.snapshot_id t b) rows → HaveVersions files t rows versions
    → HaveVersions files (applied b t) rows versions

-- ---- rows that rest

-- the chosen rows neither begin nor end at the snapshots from b + 1 to b + d
abbrev pub RestFor : {R : Type 0} → Validity R → (R → Bool) → ℕ → ℕ → List R → Type 0
RestFor v chosen b d rows = (n : ℕ) → n < d → AllByRecursion (Rests v chosen (b + n)) rows

-- Of one table: such rows are seen alike at b and at b + d, where ends don't choose.
abbrev pub SeesRested : {R : Type 0} → Validity R → Type 0
SeesRested {R} v =
    (chosen : R → Bool) (b d : ℕ) (rows : List R) → ((r : R) → chosen (v.with_end None r) ≡ chosen r) → RestFor v chosen b d rows
    → filter chosen (visible_at v (b + d) rows) ≡ filter chosen (visible_at v b rows)

pub record WhatRestsIsSeenAlike : Type 0 where
  pub schemas : SeesRested schema_validity
  pub tables : SeesRested table_validity
  pub columns : SeesRested column_validity
  pub data_files : SeesRested data_file_validity
  pub delete_files : SeesRested delete_file_validity
  pub inlined_rows : SeesRested inlined_row_validity

-- ---- what a sane content shows

-- where rows break none of the twelve rules, and the files of these names are held, the version of a kept snapshot can be read
abbrev pub SaneRowsCanBeSeen : {F : Type 0} → (F → List ℕ) → Type 0
SaneRowsCanBeSeen {F} name =
    (t : Tables) (s : ℕ) (held : List (HeldFile F)) → IsFirstBadRow t None → IsKept t s → AllByRecursion (λ f. IsHeld name held f.path) t.data_file
    → AllByRecursion (λ d. IsHeld name held d.path) t.delete_file → CanBeSeen name held t s
