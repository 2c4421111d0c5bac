-- A commit of a list that only creates, drops and inserts, on top of a head past the list's base.
use Rattle.std.specs.Prelude.{◌≢◌, ◌≤◌, ◌+◌, ℕ, List, length, map}
use Rattle.std.specs.List.{AllByRecursion}
use Rattle.lake_types.specs.declared.kind.Kind.{Kind}
use Rattle.lake_model.specs.Apply.{Draft}
use Rattle.lake_model.specs.Core.{Version}
use Rattle.lake_model.specs.Growth.{made_tables}
use Rattle.lake_model.specs.Creations.{creations}
use Rattle.lake_model.specs.Kinds.{drops_schema, drops_table}
use Rattle.lake_model.specs.State.{State}
use Rattle.lake_model.specs.declared.change.Change.{Change}
use Rattle.lake_model.specs.declared.change.Ref.TheVariants as ref
use Rattle.lake_rebase.specs.Laws.{IsFree}
use Rattle.cat_rows.specs.Batches.{AllDiffer}
use Rattle.cat_rows.specs.Parts.{Endings}
use Rattle.cat_rows.specs.Tables.{Tables}
use Rattle.cat_rows.specs.declared.history.SnapshotRow.{SnapshotRow}
use Rattle.cat_rules.specs.TableStatsRule.{last_id}
use Rattle.cat_view.specs.Files.{Files}
use Rattle.cat_view.specs.Named.{NamedVersion}
use Rattle.cat_view.specs.Staged.{IsStaged, NamedStagedTable}
use Rattle.cat_view.specs.Typed.{HasBytes, HoldsTyped}
use Rattle.cat_stands.specs.Stands.{IsSound}
use Rattle.commit_rules.specs.Lawful.{all_paths}
use Rattle.commit_rules.specs.Laws.{AreRising}
use Rattle.rebase.specs.Parts.{FreshFile, first_row, fresh_files, old_stats}

-- which rows end: those of the schemas and the tables that the list drops
abbrev pub endings_of : List Change → Endings
endings_of own = record {
  schema = λ r. drops_schema own (ref.Old r.schema_id);
  table = λ r. drops_table own (ref.Old r.table_id);
  column = λ r. drops_table own (ref.Old r.table_id);
  data_file = λ r. drops_table own (ref.Old r.table_id);
  delete_file = λ r. drops_table own (ref.Old r.table_id);
  inlined_row = λ r. drops_table own (ref.Old r.table_id);
}

-- no counter gets past its last value
pub record HasRoom (t : Tables) (newest : SnapshotRow) (own : List Change) (files : List FreshFile) : Type 0 where
  pub catalog : newest.next_catalog_id + length (creations 0 0 own) ≤ last_id
  pub file : newest.next_file_id + length files ≤ last_id
  pub rows : AllByRecursion (λ (x : FreshFile). first_row (old_stats t x.table) + x.file.rows ≤ last_id) files

-- what a file of new rows holds is of its columns' types
abbrev pub AreTyped : Files → FreshFile → Type 0
AreTyped files x = HoldsTyped files x.file.name

-- The catalogue stands for versions of a lake, the last of which is the head. The list conflicts with nothing that is told
-- between its base and the head; and what is staged for it lies in new files, under names that differ and that nothing has.
pub record Commits (t : Tables) (files : Files) (first : ℕ) (versions : List Version) (told : List Kind) (more : Files) (base : NamedVersion) (state : State) (own : List Change) (staged : List NamedStagedTable) : Type 0 where
  pub sound : IsSound t files first versions
  pub rising : AreRising t
  pub free : IsFree told state sound.head.state own
  pub stage : IsStaged more base state own staged
  pub typed : AllByRecursion (AreTyped more) (fresh_files staged)
  pub bytes : AllByRecursion (λ (d : Draft). AllByRecursion HasBytes d.columns) (made_tables 0 own)
  pub differ : AllDiffer (map (λ (x : FreshFile). x.file.name) (fresh_files staged))
  pub unused : AllByRecursion (λ (x : FreshFile). AllByRecursion (λ used. used ≢ x.file.name) (all_paths t)) (fresh_files staged)
  pub room : HasRoom t sound.newest own (fresh_files staged)
