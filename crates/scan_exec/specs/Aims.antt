-- What a SELECT is of: the table that it names, as a version and an own list have it.
use Rattle.std.specs.Prelude.{◌≡◌, ℕ, List, [], map, Option, Some, None}
use Rattle.std.specs.Option.{option_copied}
use Rattle.lake_types.specs.Cells.{laid_cells}
use Rattle.lake_types.specs.declared.stmt.TableName.{TableName}
use Rattle.lake_types.specs.declared.value.Row.{Row}
use Rattle.lake_model.specs.Apply.{Draft, Work}
use Rattle.lake_model.specs.Growth.{rows_for}
use Rattle.cat_view.specs.Files.{Files}
use Rattle.cat_view.specs.Named.{table_rows}
use Rattle.cat_view.specs.Views.{named_table}
use Rattle.cat_view.specs.declared.live.TableView.{TableView}
use Rattle.scan_exec.specs.Refusals.{table_of}
use Rattle.scan_exec.specs.Telling.{reads}
use Rattle.scan_exec.specs.declared.aim.Aim.{Aim}

-- the rows of an old table; a created one has none
abbrev pub rows_before : {F : Type 0} → (F → List ℕ) → Files → Option (TableView F) → List Row
rows_before name files None = []
rows_before name files (Some x) = table_rows files (named_table name x)

-- a count of reads after its data files are read
abbrev pub reads_before : {F : Type 0} → Option (TableView F) → ℕ → ℕ
reads_before None count = count
reads_before (Some x) count = reads x.files.items count

-- a draft has the columns and the rows of an aim, and behind them the fresh ones
pub record IsDraftOf {F : Type 0} (name : F → List ℕ) (files : Files) (a : Aim F) (draft : Draft) : Type 0 where
  pub columns : draft.columns ≡ a.columns
  pub rows : draft.rows ≡ rows_before name files (option_copied a.old)
  pub next_row : draft.next_row ≡ a.next_row
  pub fresh : draft.fresh ≡ map (λ cells. Some (laid_cells a.columns cells)) (rows_for a.table a.own.now)

-- the table of a name is there, and its draft is that of the aim
pub record IsAimedAt {F : Type 0} (name : F → List ℕ) (files : Files) (w : Work) (table : TableName) (a : Aim F) : Type 0 where
  pub draft : Draft
  pub is_there : table_of w table ≡ Some draft
  pub is : IsDraftOf name files a draft
