-- A list that inserts, creates and drops, over a version with one table: what it makes of the version, by computing.
use Rattle.std.specs.Prelude.{◌≡◌, ◌+◌, ◌*◌, ℕ, true, false, List, [], ◌∷◌, codes, length, map, replicate, Some, None, if◌then◌else◌}
use Rattle.std.specs.List.{AllByRecursion}
use Rattle.std.specs.Str.{bytes_eq}
use Rattle.lake_types.specs.declared.kind.SchemaName.{SchemaName}
use Rattle.lake_types.specs.declared.sheet.Sheet.{Sheet}
use Rattle.lake_types.specs.declared.value.ColType.TheVariants as type
use Rattle.lake_types.specs.declared.value.Column.{Column}
use Rattle.lake_types.specs.declared.value.Row.{Row}
use Rattle.lake_types.specs.declared.value.Value.TheVariants as value
use Rattle.lake_model.specs.Apply.{Cells}
use Rattle.lake_model.specs.Creations.{creations}
use Rattle.lake_model.specs.Growth.{IsGrowth, made_tables}
use Rattle.lake_model.specs.Kinds.{drops_table}
use Rattle.lake_model.specs.declared.change.Change.{Change}
use Rattle.lake_model.specs.declared.change.Change.TheVariants as change
use Rattle.lake_model.specs.declared.change.Ref.{Ref}
use Rattle.lake_model.specs.declared.change.Ref.TheVariants as ref
use Rattle.col_stats.specs.declared.stats.ColStats.{ColStats}
use Rattle.cat_view.specs.Files.{Extends, Filed, Files}
use Rattle.cat_view.specs.Named.{NamedFile, NamedTable, NamedVersion, state_of}
use Rattle.cat_view.specs.Staged.{NamedStagedFile, NamedStagedTable, nothing_for}
use Rattle.cat_growth.specs.Fresh.{AreFilesStaged, CanTake}
use Rattle.cat_growth.specs.Growth.{IsMadeReady, IsReady, NewFiles, grown_version}

-- ---- words of the example

abbrev pub a : Column
a = record { field = 1; name = codes "a"; ty = type.Varchar; initial = value.Null; default_value = value.Null; nulls = true }

abbrev pub cells : List ℕ → Cells
cells text = (1, value.Text text) ∷ []

abbrev pub row : ℕ → List ℕ → Row
row id text = record { id = id; cells = cells text }

abbrev pub sheet : List (List ℕ) → Sheet
sheet texts = record {
  columns = record { field = Some 1; name = codes "a"; ty = type.Varchar; optional = true; cells = map (λ text. value.Text text) texts } ∷ [];
  rows = length texts;
}

abbrev pub filed : List (List ℕ) → Filed
filed texts = record { bytes = replicate 100 0; sheet = Some (sheet texts) }

-- the files before, and then also those with the new rows
abbrev pub before : Files
before name = if bytes_eq name (codes "f") then Some (filed (codes "p" ∷ codes "q" ∷ [])) else None

abbrev pub after : Files
after name =
    if bytes_eq name (codes "g") then Some (filed (codes "s" ∷ []))
    else (if bytes_eq name (codes "h") then Some (filed (codes "z" ∷ [])) else before name)

abbrev pub file : ℕ → List ℕ → ℕ → ℕ → NamedFile
file id name rows first = record { id = id; name = name; rows = rows; weight = 21 * rows; first_row = Some first; deletes = None }

abbrev pub table : ℕ → List ℕ → List NamedFile → List Row → ℕ → NamedTable
table id name files inlined next_row = record {
  id = id;
  schema = 0;
  name = name;
  columns = a ∷ [];
  files = files;
  inlined = inlined;
  next_row = next_row;
  next_field = 2;
}

abbrev pub schema : ℕ → List ℕ → SchemaName
schema id name = record { id = id; name = name }

-- ---- the version, with two rows in a file and one in the catalogue

abbrev pub version : NamedVersion
version = record {
  schemas = schema 0 (codes "main") ∷ schema 1 (codes "old") ∷ [];
  tables = table 2 (codes "t") (file 0 (codes "f") 2 0 ∷ []) (row 2 (codes "r") ∷ []) 3 ∷ [];
}

-- a row for the table, a table that goes again, one that stays with a row, and a schema for another
abbrev pub own : List Change
own =
    change.Insert (ref.Old 2) (cells (codes "s") ∷ [])
    ∷ change.CreateTable (ref.Old 0) (codes "u") (a ∷ [])
    ∷ change.CreateTable (ref.Old 0) (codes "v") (a ∷ [])
    ∷ change.DropTable (ref.New 0)
    ∷ change.Insert (ref.New 1) (cells (codes "z") ∷ [])
    ∷ change.CreateSchema (codes "new")
    ∷ change.DropSchema (ref.Old 1)
    ∷ []

abbrev pub news : NewFiles
news (ref.Old id) = file 1 (codes "g") 1 3 ∷ []
news (ref.New place) = file 2 (codes "h") 1 0 ∷ []

-- ---- what the list makes of it

abbrev pub GrowsVersion : Type 0
GrowsVersion = grown_version news 3 own version ≡ record {
  schemas = schema 0 (codes "main") ∷ schema 4 (codes "new") ∷ [];
  tables =
      table 2 (codes "t") (file 0 (codes "f") 2 0 ∷ file 1 (codes "g") 1 3 ∷ []) (row 2 (codes "r") ∷ []) 4
      ∷ table 3 (codes "v") (file 2 (codes "h") 1 0 ∷ []) [] 1
      ∷ [];
}

-- the new row stands behind that of the catalogue, which has a lower id
abbrev pub GrowsState : Type 0
GrowsState = state_of after (3 + length (creations 0 0 own)) (grown_version news 3 own version) ≡ record {
  schemas = schema 0 (codes "main") ∷ schema 4 (codes "new") ∷ [];
  tables =
      record { id = 2; schema = 0; name = codes "t"; columns = a ∷ []; rows = row 0 (codes "p") ∷ row 1 (codes "q") ∷ row 2 (codes "r") ∷ row 3 (codes "s") ∷ []; next_row = 4; next_field = 2 }
      ∷ record { id = 3; schema = 0; name = codes "v"; columns = a ∷ []; rows = row 0 (codes "z") ∷ []; next_row = 1; next_field = 2 }
      ∷ [];
  next_catalog = 5;
}

-- and its files are what the law asks for
pub record IsReadyToGrow : Type 0 where
  pub grows : AllByRecursion IsGrowth own
  pub extends : Extends before after
  pub tables : AllByRecursion (λ (x : NamedTable). drops_table own (ref.Old x.id) ≡ false → IsReady before after news own x) version.tables
  pub made : AllByRecursion (IsMadeReady after news) (made_tables 0 own)

-- ---- the same rows, staged in the files

abbrev pub stats : List ℕ → ColStats
stats text = record { field = 1; rows = 1; nulls = 0; min = Some (value.Text text); max = Some (value.Text text) }

abbrev pub staged_file : List ℕ → List ℕ → NamedStagedFile
staged_file name text = record { name = name; size = 100; rows = 1; weight = 21; stats = stats text ∷ [] }

abbrev pub in_file : Ref → NamedStagedFile → NamedStagedTable
in_file at x = record (nothing_for at) { fresh = Some x }

abbrev pub staged : List NamedStagedTable
staged = in_file (ref.Old 2) (staged_file (codes "g") (codes "s")) ∷ in_file (ref.New 1) (staged_file (codes "h") (codes "z")) ∷ []

abbrev pub starts : Ref → ℕ
starts (ref.Old id) = 3
starts (ref.New place) = 0

-- they are what staging has to be, and the version itself can take them
pub record IsStagedToGrow : Type 0 where
  pub are_staged : AreFilesStaged after version (state_of before 3 version) own staged
  pub tables : AllByRecursion (λ (x : NamedTable). drops_table own (ref.Old x.id) ≡ false → CanTake before (state_of before 3 version) own starts x) version.tables
