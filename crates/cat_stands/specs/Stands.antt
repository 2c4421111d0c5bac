-- The catalogue's rows, with files, stand for the versions of a plain lake.
use Rattle.std.specs.Prelude.{◌≡◌, ◌⊎◌, ◌+◌, ◌==◌, ℕ, min, List, [], ◌∷◌, ◌++◌, filter, length, map, Option, Some, None, IfSome, find, option_map}
use Rattle.std.specs.List.{AllByRecursion, AllZip, range_with_len, sum_by}
use Rattle.lake_types.specs.declared.limits.TheConstants.{MAX_COUNTER}
use Rattle.lake_model.specs.Core.{HaveKinds, Version, first_version}
use Rattle.lake_model.specs.State.{State, Table}
use Rattle.cat_rows.specs.Seen.{Seen, seen_at}
use Rattle.cat_rows.specs.Tables.{Tables, no_rows}
use Rattle.cat_rows.specs.declared.files.DataFileRow.{DataFileRow}
use Rattle.cat_rows.specs.declared.files.DeleteFileRow.{DeleteFileRow}
use Rattle.cat_rows.specs.declared.files.TableStatsRow.{TableStatsRow}
use Rattle.cat_rows.specs.declared.history.SnapshotRow.{SnapshotRow}
use Rattle.cat_rows.specs.declared.history.SnapshotChangesRow.{SnapshotChangesRow}
use Rattle.cat_rows.specs.declared.schemas.TableRow.{TableRow}
use Rattle.cat_rules.specs.Sane.{IsFirstBadRow}
use Rattle.cat_view.specs.Files.{Files}
use Rattle.cat_view.specs.Named.{NamedVersion, state_of}
use Rattle.cat_view.specs.Sight.{IsVersionOf, data_rows, stats_row}
use Rattle.cat_stands.specs.FileFacts.{IsDataFile, IsDeleteFile, HasFields}
use Rattle.cat_stands.specs.LakeFacts.{HasIds}

-- ---- what one snapshot sees

-- A state without its counters, which no answer at an older version uses.
abbrev pub uncounted_table : Table → Table
uncounted_table t = record t { next_row = 0; next_field = 0 }

abbrev pub uncounted : State → State
uncounted s = record s { tables = map uncounted_table s.tables; next_catalog = 0 }

-- these rows are this state, up to its counters
pub record IsPlain (files : Files) (seen : Seen) (state : State) : Type 0 where
  pub version : NamedVersion
  pub sees : IsVersionOf seen version
  pub same : uncounted state ≡ uncounted (state_of files 0 version)

-- ---- counters and statistics of tables

-- a table of the newest version has the counters of its statistics
pub record HasCounters (t : Tables) (table : Table) : Type 0 where
  pub row : TableStatsRow
  pub there : stats_row t table.id ≡ Some row
  pub next_row : table.next_row ≡ row.next_row_id
  pub next_field : table.next_field ≡ row.next_field_id

-- the newest snapshot's counter, and those of its tables
pub record HasHeadCounters (t : Tables) (newest : SnapshotRow) (state : State) : Type 0 where
  pub next_catalog : state.next_catalog ≡ newest.next_catalog_id
  pub tables : AllByRecursion (HasCounters t) state.tables

-- the sizes of a table's data files and delete files that a snapshot sees
abbrev pub seen_size : ℕ → Seen → ℕ
seen_size table seen =
    sum_by (λ (f : DataFileRow). f.file_size_bytes) (data_rows table seen.data_file)
    + sum_by (λ (d : DeleteFileRow). d.file_size_bytes) (filter (λ (d : DeleteFileRow). d.table_id == table) seen.delete_file)

abbrev pub later_or : {A : Type 0} → Option A → Option A → Option A
later_or None x = x
later_or (Some y) x = Some y

-- a table in the last of these snapshots and their states that has it
abbrev pub last_with : ℕ → List (ℕ × State) → Option (ℕ × Table)
last_with id [] = None
last_with id (v ∷ vs) =
    later_or (last_with id vs) (option_map (λ (table : Table). (v.0, table)) (find (λ (table : Table). table.id == id) v.1.tables))

-- the numbers of snapshots with the states of versions
abbrev pub states_at : List SnapshotRow → List Version → List (ℕ × State)
states_at [] versions = []
states_at (r ∷ rows) [] = []
states_at (r ∷ rows) (v ∷ versions) = (r.snapshot_id, v.state) ∷ states_at rows versions

-- a table's statistics count its rows, and the sizes of its files up to the limit, at the newest snapshot that sees it
pub record IsCounted (t : Tables) (last : ℕ × Table) : Type 0 where
  pub row : TableStatsRow
  pub there : stats_row t last.1.id ≡ Some row
  pub records : row.record_count ≡ length last.1.rows
  pub size : row.file_size_bytes ≡ min MAX_COUNTER (seen_size last.1.id (seen_at last.0 t))

abbrev pub IsCountedLast : Tables → List Version → TableRow → Type 0
IsCountedLast t versions r = IfSome (last_with r.table_id (states_at t.snapshot versions)) (IsCounted t)

-- ---- the whole

-- The rows of a catalogue that isn't empty stand for these versions, the first of which has this number.
pub record IsSound (t : Tables) (files : Files) (first : ℕ) (versions : List Version) : Type 0 where
  -- the twelve rules
  pub rules : IsFirstBadRow t None
  -- equality with the lake
  pub newest : SnapshotRow
  pub before : List SnapshotRow
  pub snapshots : t.snapshot ≡ before ++ newest ∷ []
  pub older : List Version
  pub head : Version
  pub versions_are : versions ≡ older ++ head ∷ []
  pub numbers : map (λ (r : SnapshotRow). r.snapshot_id) t.snapshot ≡ range_with_len first (length versions)
  pub texts : map (λ (r : SnapshotChangesRow). r.changes_made) t.snapshot_changes ≡ map (λ (v : Version). v.text) versions
  pub plain : AllZip (λ (r : SnapshotRow) (v : Version). IsPlain files (seen_at r.snapshot_id t) v.state) t.snapshot versions
  pub counters : HasHeadCounters t newest head.state
  pub counted : AllByRecursion (IsCountedLast t versions) t.table
  -- facts of the lake alone
  pub ids : AllByRecursion (λ (v : Version). HasIds v.state) versions
  pub kinds : HaveKinds versions
  -- facts of each file with its row
  pub data_files : AllByRecursion (IsDataFile t files) t.data_file
  pub delete_files : AllByRecursion (IsDeleteFile t files) t.delete_file
  pub inlined : AllByRecursion (HasFields t) t.inlined_row

-- the empty content stands for the new lake
pub record IsNew (t : Tables) (first : ℕ) (versions : List Version) : Type 0 where
  pub rows : t ≡ no_rows
  pub first_is : first ≡ 0
  pub versions_are : versions ≡ first_version ∷ []

abbrev pub StandsFor : Tables → Files → ℕ → List Version → Type 0
StandsFor t files first versions = IsNew t first versions ⊎ IsSound t files first versions
