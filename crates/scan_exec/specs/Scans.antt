-- What a SELECT tells of the table that it names: the rows that the plain lake chooses, and which files are read for them.
use Rattle.std.specs.Prelude.{◌≡◌, ℕ, List, [], ◌∷◌, Option, Some, option_map, unwrap_or}
use Rattle.lake_types.specs.declared.pred.Pred.{Pred}
use Rattle.lake_types.specs.declared.stmt.TableName.{TableName}
use Rattle.lake_model.specs.Apply.{Draft, Work}
use Rattle.lake_model.specs.declared.change.Change.{Change}
use Rattle.cat_view.specs.Named.{NamedFile, NamedTable, NamedVersion}
use Rattle.scan_exec.specs.Chosen.{refs_of, rows_of}
use Rattle.scan_exec.specs.Finding.{old_named}
use Rattle.scan_exec.specs.Refusals.{table_of}
use Rattle.scan_exec.specs.Telling.{read_with}
use Rattle.scan_exec.specs.declared.scanned.Scan.{Scan}

-- the table of the name is there, and these are its chosen rows with the cells of the named columns, or of all
pub record IsScanOf (w : Work) (table : TableName) (names : Option (List (List ℕ))) (test : Option Pred) (scan : Scan) : Type 0 where
  pub draft : Draft
  pub is_there : table_of w table ≡ Some draft
  pub rows : scan.rows ≡ rows_of draft test names
  pub refs : scan.refs.items ≡ refs_of draft test

-- the data files of the version's table that the statement names; a created table has none
abbrev pub files_in : Option NamedTable → List NamedFile
files_in table = unwrap_or (option_map (λ (x : NamedTable). x.files) table) []

abbrev pub files_before : List Change → NamedVersion → TableName → List NamedFile
files_before own v table = files_in (old_named own v table)

-- a count of reads after each of some data files is read, and behind it its delete file
abbrev pub all_reads : List NamedFile → ℕ → ℕ
all_reads [] count = count
all_reads (f ∷ files) count = all_reads files (read_with f.deletes count)
