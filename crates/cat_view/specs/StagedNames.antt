-- What a transaction staged, with its files by name.
use Rattle.std.specs.Prelude.{ℕ, List, map, option_map}
use Rattle.cat_view.specs.Staged.{NamedStagedDelete, NamedStagedFile, NamedStagedTable}
use Rattle.cat_view.specs.declared.staged.Staged.{Staged}
use Rattle.cat_view.specs.declared.staged.StagedDelete.{StagedDelete}
use Rattle.cat_view.specs.declared.staged.StagedFile.{StagedFile}
use Rattle.cat_view.specs.declared.staged.StagedTable.{StagedTable}

abbrev pub named_staged_file : {F : Type 0} → (F → List ℕ) → (F → ℕ) → StagedFile F → NamedStagedFile
named_staged_file name size x = record { name = name x.file; size = size x.file; rows = x.rows; weight = x.weight; stats = x.stats }

abbrev pub named_staged_delete : {F : Type 0} → (F → List ℕ) → (F → ℕ) → StagedDelete F → NamedStagedDelete
named_staged_delete name size d = record { of_file = d.of_file; name = name d.file; size = size d.file; count = d.count }

abbrev pub named_staged_table : {F : Type 0} → (F → List ℕ) → (F → ℕ) → StagedTable F → NamedStagedTable
named_staged_table name size x = record {
  table = x.table;
  fresh = option_map (named_staged_file name size) x.fresh;
  updated = option_map (named_staged_file name size) x.updated;
  merged = map (named_staged_file name size) x.merged.items;
  ended_files = x.ended_files.items;
  inlined = x.inlined;
  inlined_fresh = x.inlined_fresh;
  ended_rows = x.ended_rows.items;
  deletes = map (named_staged_delete name size) x.deletes.items;
}

abbrev pub named_staged_tables : {F : Type 0} → (F → List ℕ) → (F → ℕ) → List (StagedTable F) → List NamedStagedTable
named_staged_tables name size tables = map (named_staged_table name size) tables

abbrev pub named_staged : {F : Type 0} → (F → List ℕ) → (F → ℕ) → Staged F → List NamedStagedTable
named_staged name size x = named_staged_tables name size x.tables.items
