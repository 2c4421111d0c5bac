-- What the rows stand for after a commit.
use Rattle.std.specs.Prelude.{◌≡◌, ◌+◌, ◌++◌, ℕ, ℤ, List, [], ◌∷◌, length, map, None}
use Rattle.std.specs.List.{AllByRecursion, AllZip, range_with_len}
use Rattle.lake_model.specs.Apply.{apply}
use Rattle.lake_model.specs.Core.{HaveKinds, Version, next_version}
use Rattle.lake_model.specs.State.{State}
use Rattle.lake_model.specs.declared.change.Change.{Change}
use Rattle.cat_rows.specs.Seen.{seen_at}
use Rattle.cat_rows.specs.Tables.{Tables}
use Rattle.cat_rows.specs.declared.history.SnapshotChangesRow.{SnapshotChangesRow}
use Rattle.cat_rows.specs.declared.history.SnapshotRow.{SnapshotRow}
use Rattle.cat_rules.specs.Sane.{IsFirstBadRow}
use Rattle.cat_view.specs.Files.{Files}
use Rattle.cat_view.specs.Named.{NamedVersion, state_of}
use Rattle.cat_view.specs.Sight.{IsVersionAt}
use Rattle.cat_view.specs.Staged.{NamedStagedTable}
use Rattle.cat_stands.specs.FileFacts.{HasFields, IsDataFile, IsDeleteFile}
use Rattle.cat_stands.specs.LakeFacts.{HasIds}
use Rattle.cat_stands.specs.Stands.{HasHeadCounters, IsCountedLast, IsPlain, IsSound}
use Rattle.commit_laws.specs.Commit.{IsCommit, committed, next_named, parts_at}

-- ---- the head

-- what a snapshot sees is a version whose plain state is this one, with its counters
pub record IsStateAt (t : Tables) (files : Files) (s : ℕ) (state : State) : Type 0 where
  pub version : NamedVersion
  pub sees : IsVersionAt t s version
  pub is : state_of files state.next_catalog version ≡ state

abbrev pub HeadIsCounted : Type 0
HeadIsCounted =
    (t : Tables) (files : Files) (first : ℕ) (versions : List Version) (sound : IsSound t files first versions)
    → IsStateAt t files sound.newest.snapshot_id sound.head.state

-- ---- the version after a commit

-- so of the rows and files after a commit, where those before it stand for these versions
abbrev pub AfterCommit : ((t : Tables) (files more : Files) (first : ℕ) (versions : List Version) → IsSound t files first versions → ℤ → List Change → List NamedStagedTable → Type 0) → Type 0
AfterCommit P =
    (t : Tables) (files more : Files) (first : ℕ) (versions : List Version) (sound : IsSound t files first versions) (time : ℤ) (own : List Change) (staged : List NamedStagedTable)
    → IsCommit t files more sound.newest sound.head.state time own staged → P t files more first versions sound time own staged

-- The new snapshot sees the head's version with what the list makes of it and the new files.
abbrev pub NextIsSeen : Type 0
NextIsSeen = AfterCommit (λ t files more first versions sound time own staged.
    (v : NamedVersion) → IsVersionAt t sound.newest.snapshot_id v
    → IsVersionAt (committed t sound.newest sound.head.state time own staged) (sound.newest.snapshot_id + 1) (next_named t sound.newest own staged v))

-- It is the plain state that Apply makes of the head's.
abbrev pub NextIsPlain : Type 0
NextIsPlain = AfterCommit (λ t files more first versions sound time own staged.
    IsPlain more (seen_at (sound.newest.snapshot_id + 1) (committed t sound.newest sound.head.state time own staged)) (apply sound.head.state own))

-- ---- the versions after a commit

-- each snapshot has its number and its version, with text, state and kinds
pub record AreVersions (t : Tables) (files : Files) (first : ℕ) (versions : List Version) : Type 0 where
  pub numbers : map (λ (r : SnapshotRow). r.snapshot_id) t.snapshot ≡ range_with_len first (length versions)
  pub texts : map (λ (r : SnapshotChangesRow). r.changes_made) t.snapshot_changes ≡ map (λ (v : Version). v.text) versions
  pub plain : AllZip (λ (r : SnapshotRow) (v : Version). IsPlain files (seen_at r.snapshot_id t) v.state) t.snapshot versions
  pub ids : AllByRecursion (λ (v : Version). HasIds v.state) versions
  pub kinds : HaveKinds versions

-- They are those before it and the one that the list makes.
abbrev pub VersionsGoOn : Type 0
VersionsGoOn = AfterCommit (λ t files more first versions sound time own staged.
    AreVersions (committed t sound.newest sound.head.state time own staged) more first (versions ++ next_version sound.head own ∷ []))

-- ---- counters and statistics of tables after a commit

-- The new snapshot's counter, and the statistics of the tables that it sees, are the counters of the new state.
abbrev pub CountersGoOn : Type 0
CountersGoOn = AfterCommit (λ t files more first versions sound time own staged.
    HasHeadCounters (committed t sound.newest sound.head.state time own staged) (parts_at t sound.newest sound.head.state time own staged).snapshot (apply sound.head.state own))

-- Statistics count the rows of each table, and the bytes of its files, at the last snapshot that sees it.
abbrev pub CountsGoOn : Type 0
CountsGoOn = AfterCommit (λ t files more first versions sound time own staged.
    AllByRecursion (IsCountedLast (committed t sound.newest sound.head.state time own staged) (versions ++ next_version sound.head own ∷ [])) (committed t sound.newest sound.head.state time own staged).table)

-- ---- files after a commit

-- each file is there as its row says, and the field ids of inlined rows are below the counters of their tables
pub record AreFilesRight (t : Tables) (files : Files) : Type 0 where
  pub data_files : AllByRecursion (IsDataFile t files) t.data_file
  pub delete_files : AllByRecursion (IsDeleteFile t files) t.delete_file
  pub inlined : AllByRecursion (HasFields t) t.inlined_row

-- So it is of old files and of the new ones.
abbrev pub FilesGoOn : Type 0
FilesGoOn = AfterCommit (λ t files more first versions sound time own staged. AreFilesRight (committed t sound.newest sound.head.state time own staged) more)

-- ---- the whole

-- Where the rows after a commit break none of the twelve rules, they stand for the lake with one version more, over all
-- files that there are now.
abbrev pub CommitsStand : Type 0
CommitsStand = AfterCommit (λ t files more first versions sound time own staged.
    IsFirstBadRow (committed t sound.newest sound.head.state time own staged) None
    → IsSound (committed t sound.newest sound.head.state time own staged) more first (versions ++ next_version sound.head own ∷ []))
