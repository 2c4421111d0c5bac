-- A commit of a list of creations, drops and inserts, at a head that is its base or past it.
use Rattle.std.specs.Prelude.{◌+◌, ℕ, ℤ, List, [], ◌∷◌, if◌then◌else◌}
use Rattle.std.specs.List.{AllByRecursion}
use Rattle.lake_types.specs.Kinds.{changes_text}
use Rattle.lake_types.specs.declared.kind.Kind.{Kind}
use Rattle.lake_model.specs.Apply.{Draft, is_ref}
use Rattle.lake_model.specs.Growth.{made_tables}
use Rattle.lake_model.specs.Kinds.{kinds}
use Rattle.lake_model.specs.State.{State}
use Rattle.lake_model.specs.declared.change.Change.{Change}
use Rattle.lake_model.specs.declared.change.Ref.{Ref}
use Rattle.lake_rebase.specs.Laws.{IsFree}
use Rattle.cat_rows.specs.Batches.{applied}
use Rattle.cat_rows.specs.Parts.{ArePartsOf, Parts}
use Rattle.cat_rows.specs.Tables.{Tables}
use Rattle.cat_rows.specs.declared.history.SnapshotRow.{SnapshotRow}
use Rattle.cat_view.specs.Files.{Extends, Files}
use Rattle.cat_view.specs.Named.{NamedVersion}
use Rattle.cat_view.specs.Staged.{NamedStagedTable}
use Rattle.cat_growth.specs.Fresh as fresh
use Rattle.cat_growth.specs.Fresh.{AreFilesStaged}
use Rattle.cat_growth.specs.Growth.{NewFiles, grown_version}
use Rattle.cat_view.specs.Typed.{HasBytes}
use Rattle.commit_laws.specs.Commits.{endings_of}
use Rattle.rebase.specs.Batch.{batch_at}
use Rattle.rebase.specs.Parts.{FreshFile, first_row, fresh_files, old_stats, parts_of}

-- the batch's parts, with the text of the list's kinds
abbrev pub parts_at : Tables → SnapshotRow → State → ℤ → List Change → List NamedStagedTable → Parts
parts_at t newest head time own staged = parts_of t newest time (changes_text (kinds head.schemas own)) own staged

-- the tables after that batch
abbrev pub committed : Tables → SnapshotRow → State → ℤ → List Change → List NamedStagedTable → Tables
committed t newest head time own staged = applied (batch_at t newest time head.schemas own staged) t

-- ---- the version after it

-- the id of a table's new file, where those of all count up from one number on
abbrev pub file_id_at : ℕ → List FreshFile → Ref → ℕ
file_id_at id [] at = id
file_id_at id (x ∷ xs) at = if is_ref x.table at then id else file_id_at (id + 1) xs at

-- what is staged for each table, with the next file ids, and row ids from its next one on
abbrev pub new_files : Tables → SnapshotRow → List NamedStagedTable → NewFiles
new_files t newest staged = fresh.fresh_files (file_id_at newest.next_file_id (fresh_files staged)) (λ at. first_row (old_stats t at)) staged

abbrev pub next_named : Tables → SnapshotRow → List Change → List NamedStagedTable → NamedVersion → NamedVersion
next_named t newest own staged v = grown_version (new_files t newest staged) newest.next_catalog_id own v

-- ---- what is known

-- The list was made at a base, what its tables need was staged there, and nothing that came since is in its way. Its batch
-- ends and begins rows at the snapshot past the newest.
pub record IsCommit (t : Tables) (files more : Files) (newest : SnapshotRow) (head : State) (time : ℤ) (own : List Change) (staged : List NamedStagedTable) : Type 0 where
  pub told : List Kind
  pub base : State
  pub free : IsFree told base head own
  pub bytes : AllByRecursion (λ (d : Draft). AllByRecursion HasBytes d.columns) (made_tables 0 own)
  -- the base's version, and the files that there were when its files were staged
  pub version : NamedVersion
  pub at_staging : Files
  pub are_staged : AreFilesStaged at_staging version base own staged
  -- all files now
  pub extends : Extends files more
  pub still : Extends at_staging more
  pub parts : ArePartsOf t newest.snapshot_id (parts_at t newest head time own staged) (endings_of own)
