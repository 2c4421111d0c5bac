-- Which sheet a file holds, said of the whole file at once, whatever a reader looks at first.
use Rattle.std.specs.Prelude.{◌≡◌, ◌≤◌, ℕ, ◌++◌, List, length, filter, All, Option, Some, Result, true}
use Rattle.std.specs.List.{AllZip, enumerate_from, flat_map, slice_get}
use Rattle.byteorder.specs.Endian.{little_number}
use Rattle.lake_types.specs.declared.sheet.Sheet.{Sheet}
use Rattle.lake_types.specs.declared.sheet.SheetColumn.{SheetColumn}
use Rattle.lake_types.specs.declared.value.Value.{Value}
use Rattle.lake_types.specs.Fits.{fits}
use Rattle.answers.specs.Answers.{Decides}
use Rattle.pq_meta.specs.declared.meta.FileMeta.{FileMeta}
use Rattle.pq_meta.specs.declared.meta.MetaChunk.{MetaChunk}
use Rattle.pq_meta.specs.declared.meta.MetaColumn.{MetaColumn}
use Rattle.pq_meta.specs.declared.meta.MetaGroup.{MetaGroup}
use Rattle.pq_meta.specs.Holding.{IsFooter}
use Rattle.pq_pages.specs.Holding.{IsChunk}
use Rattle.pq_pages.specs.Pages.{Cells}
use Rattle.pq_file.specs.Answers.{is_memory}
use Rattle.pq_file.specs.declared.fault.FileFault.{FileFault}
use Rattle.pq_file.specs.Cells.{cells_of}
use Rattle.pq_file.specs.Frame.{mark}
use Rattle.lake_types.specs.declared.limits.TheConstants.{MAX_FILE_ROWS}
use Rattle.pq_file.specs.Reading.{bare, is_among, is_wanted, spec_of}

-- a file: the mark, any bytes, the footer, four bytes that state the footer's length, the mark
pub record HasFooter (bytes footer : List ℕ) : Type 0 where
  pub front : List ℕ
  pub size : List ℕ
  pub parts : bytes ≡ mark ++ (front ++ (footer ++ (size ++ mark)))
  pub four : length size ≡ 4
  pub stated : little_number 4 size ≡ length footer

-- A group holds these cells of the column at a place: they are those of its chunk at that place, whose bytes lie in the file
-- where the footer says, and each of them is of the column's type.
pub record HoldsCells (bytes : List ℕ) (place : ℕ) (column : MetaColumn) (group : MetaGroup) (cells : List Value) : Type 0 where
  pub chunk : MetaChunk
  pub at : slice_get group.chunks place ≡ Some chunk
  pub before : List ℕ
  pub span : List ℕ
  pub after : List ℕ
  pub parts : bytes ≡ before ++ (span ++ after)
  pub first : length before ≡ chunk.first
  pub size : length span ≡ chunk.length
  pub raw : Cells
  pub says : IsChunk (spec_of column chunk) span raw
  pub typed : cells ≡ cells_of column.ty raw
  pub fit : All (λ cell. fits cell column.ty ≡ true) cells

-- a column of the footer, with its place, holds this column of a sheet: the cells are those of its groups, one after the other
pub record HoldsColumn (bytes : List ℕ) (groups : List MetaGroup) (column : ℕ × MetaColumn) (made : SheetColumn) : Type 0 where
  pub pieces : List (List Value)
  pub held : AllZip (HoldsCells bytes column.0 column.1) groups pieces
  pub same : made ≡ record (bare column.1) { cells = flat_map (λ piece. piece) pieces }

-- the wanted columns with their places among all columns
abbrev pub wanted_of : Option (List ℕ) → List MetaColumn → List (ℕ × MetaColumn)
wanted_of fields columns = filter (λ (column : ℕ × MetaColumn). is_wanted fields column.1) (enumerate_from 0 columns)

-- A file holds this sheet of its wanted columns.
pub record IsReading (fields : Option (List ℕ)) (bytes : List ℕ) (sheet : Sheet) : Type 0 where
  pub footer : List ℕ
  pub frame : HasFooter bytes footer
  pub meta : FileMeta
  pub says : IsFooter footer meta
  pub few_rows : meta.num_rows ≤ MAX_FILE_ROWS
  pub rows : sheet.rows ≡ meta.num_rows
  pub columns : AllZip (HoldsColumn bytes meta.groups) (wanted_of fields meta.columns) sheet.columns

-- The answer is the sheet that the file holds, and it holds no other; or a fault where it holds none. Memory may run out at
-- any file.
abbrev pub AnswersReading : Option (List ℕ) → List ℕ → Result Sheet FileFault → Type 0
AnswersReading fields bytes answer = Decides is_memory (λ sheet. sheet) (IsReading fields bytes) answer

-- the columns of a sheet that have one of these field ids, in the sheet's order
abbrev pub named : List ℕ → Sheet → Sheet
named fields sheet = record sheet { columns = filter (λ (column : SheetColumn). is_among fields column.field) sheet.columns }
