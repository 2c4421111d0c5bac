-- The one file that is written for a sheet: the mark, for each group the chunk of each column, the footer, its length, the mark.
use Rattle.std.specs.Prelude.{ℕ, pos, ◌+◌, List, [], ◌∷◌, ◌++◌, length, take, drop, map}
use Rattle.std.specs.List.{flat_map}
use Rattle.byteorder.specs.Endian.{little_bytes}
use Rattle.lake_types.specs.declared.sheet.Sheet.{Sheet}
use Rattle.lake_types.specs.declared.sheet.SheetColumn.{SheetColumn}
use Rattle.lake_types.specs.declared.value.Value.{Value}
use Rattle.pq_meta.specs.declared.meta.FileMeta.{FileMeta}
use Rattle.pq_meta.specs.declared.meta.MetaColumn.{MetaColumn}
use Rattle.pq_meta.specs.declared.meta.MetaChunk.{MetaChunk}
use Rattle.pq_meta.specs.declared.meta.MetaGroup.{MetaGroup}
use Rattle.pq_meta.specs.Spelling.{footer_bytes}
use Rattle.pq_pages.specs.Writing.{chunk_bytes}
use Rattle.pq_file.specs.Cuts.{cuts, row_weights}
use Rattle.pq_file.specs.Frame.{mark}
use Rattle.pq_file.specs.Raw.{raw_of}
use Rattle.pq_file.specs.Writable.{HoldTexts}

-- ---- A group: `rows` rows, from the one number `row` on

abbrev pub piece_of : ℕ → ℕ → SheetColumn → List Value
piece_of row rows column = take rows (drop row column.cells)

-- the texts of a piece are UTF-8
abbrev pub HasPieceTexts : ℕ → ℕ → SheetColumn → Type 0
HasPieceTexts row rows column = HoldTexts column.ty (piece_of row rows column)

-- the chunk of a column
abbrev pub piece_bytes : ℕ → ℕ → SheetColumn → List ℕ
piece_bytes row rows column = chunk_bytes column.optional (raw_of column.ty (piece_of row rows column))

-- the chunks of the columns, one after the other
abbrev pub group_bytes : List SheetColumn → ℕ → ℕ → List ℕ
group_bytes columns row rows = flat_map (piece_bytes row rows) columns

-- the chunk of a column, where it lies from the offset `at` on
abbrev pub chunk_at : ℕ → ℕ → ℕ → SheetColumn → MetaChunk
chunk_at row rows at column = record { codec = pos 0; num_values = rows; first = at; length = length (piece_bytes row rows column) }

-- the chunks of the columns
abbrev pub chunks_at : ℕ → ℕ → ℕ → List SheetColumn → List MetaChunk
chunks_at row rows at [] = []
chunks_at row rows at (column ∷ columns) = chunk_at row rows at column ∷ chunks_at row rows (at + length (piece_bytes row rows column)) columns

abbrev pub group_at : ℕ → ℕ → ℕ → List SheetColumn → MetaGroup
group_at row rows at columns = record { rows = rows; chunks = chunks_at row rows at columns }

-- ---- The groups, which have so many rows each, from the row number `row` on

abbrev pub groups_bytes : List SheetColumn → ℕ → List ℕ → List ℕ
groups_bytes columns row [] = []
groups_bytes columns row (rows ∷ more) = group_bytes columns row rows ++ groups_bytes columns (row + rows) more

-- where they lie, the first at the offset `at`
abbrev pub groups_at : List SheetColumn → ℕ → ℕ → List ℕ → List MetaGroup
groups_at columns row at [] = []
groups_at columns row at (rows ∷ more) =
    group_at row rows at columns ∷ groups_at columns (row + rows) (at + length (group_bytes columns row rows)) more

-- ---- The file

abbrev pub cuts_of : Sheet → List ℕ
cuts_of sheet = cuts (row_weights sheet.columns sheet.rows)

abbrev pub meta_column : SheetColumn → MetaColumn
meta_column column = record { name = column.name; field = column.field; ty = column.ty; optional = column.optional }

-- the chunks begin behind the mark
abbrev pub meta_of : Sheet → FileMeta
meta_of sheet = record {
  columns = map meta_column sheet.columns;
  num_rows = sheet.rows;
  groups = groups_at sheet.columns 0 (length mark) (cuts_of sheet);
}

-- the footer, its length, the mark
abbrev pub footer_part : List ℕ → List ℕ
footer_part footer = footer ++ little_bytes 4 (length footer) ++ mark

unfoldable pub canonical : Sheet → List ℕ
canonical sheet = mark ++ groups_bytes sheet.columns 0 (cuts_of sheet) ++ footer_part (footer_bytes (meta_of sheet))
