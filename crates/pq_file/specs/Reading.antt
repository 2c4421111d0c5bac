-- The sheet that a file holds, or the first fault.
use Rattle.std.specs.Prelude.{ℕ, ◌+◌, ◌==◌, nat_lt, if◌then◌else◌, List, [], ◌∷◌, ◌++◌, length, take, drop, map, fold, filter, Option, Some, None, Result, Ok, Err, Bool, true, false, ⊤}
use Rattle.std.specs.List.{list_any}
use Rattle.lake_types.specs.declared.limits.TheConstants.{MAX_FILE_ROWS}
use Rattle.lake_types.specs.declared.value.ColType.{ColType}
use Rattle.lake_types.specs.declared.value.Value.{Value}
use Rattle.lake_types.specs.declared.sheet.Sheet.{Sheet}
use Rattle.lake_types.specs.declared.sheet.SheetColumn.{SheetColumn}
use Rattle.lake_types.specs.Fits.{fits}
use Rattle.pq_meta.specs.declared.meta.FileMeta.{FileMeta}
use Rattle.pq_meta.specs.declared.meta.MetaColumn.{MetaColumn}
use Rattle.pq_meta.specs.declared.meta.MetaChunk.{MetaChunk}
use Rattle.pq_meta.specs.declared.meta.MetaGroup.{MetaGroup}
use Rattle.pq_meta.specs.Footers.{footer_of}
use Rattle.pq_pages.specs.declared.chunk.ChunkSpec.{ChunkSpec}
use Rattle.pq_pages.specs.Pages.{chunk_of}
use Rattle.pq_file.specs.declared.fault.FileFault.{FileFault}
use Rattle.pq_file.specs.declared.fault.FileFault.TheVariants as fault
use Rattle.pq_file.specs.declared.parts.Part.{Part}
use Rattle.answers.specs.Answers.{◌>>=◌}
use Rattle.pq_file.specs.Answers.{of_meta, of_page}
use Rattle.pq_file.specs.Cells.{cells_of, is_text, kind_of}
use Rattle.pq_file.specs.Frame.{footer_in}

-- ---- Columns that are read: all of them, or those with one of these field ids

abbrev pub is_among : List ℕ → Option ℕ → Bool
is_among fields None = false
is_among fields (Some id) = list_any (λ field. field == id) fields

abbrev pub is_wanted : Option (List ℕ) → MetaColumn → Bool
is_wanted None column = true
is_wanted (Some fields) column = is_among fields column.field

-- ---- Chunks

-- what a footer says of a chunk
abbrev pub spec_of : MetaColumn → MetaChunk → ChunkSpec
spec_of column chunk = record { codec = chunk.codec; kind = kind_of column.ty; optional = column.optional; num_values = chunk.num_values; text = is_text column.ty }

-- the bytes of a chunk, which lie in the file
unfoldable pub span_of : List ℕ → ℕ → ℕ → MetaChunk → Result (List ℕ) FileFault
span_of bytes group place chunk =
    if nat_lt (length bytes) (chunk.first + chunk.length) then Err (fault.Span group place) else Ok (take chunk.length (drop chunk.first bytes))

-- the cells of the column number `place` in a group
unfoldable pub part_of : List ℕ → ℕ → ℕ → MetaColumn → MetaChunk → Result Part FileFault
part_of bytes group place column chunk =
    span_of bytes group place chunk >>= λ span.
    of_page group place (chunk_of (spec_of column chunk) span) >>= λ cells.
    Ok (record { place = place; ty = column.ty; cells = cells_of column.ty cells })

-- The parts of a group that are wanted, from the column number `place` on. A chunk that is not wanted is passed over.
abbrev pub parts_in : List ℕ → Option (List ℕ) → ℕ → ℕ → List MetaColumn → List MetaChunk → Result (List Part) FileFault
parts_in bytes fields group place [] chunks = Ok []
parts_in bytes fields group place (column ∷ columns) [] = Ok []
parts_in bytes fields group place (column ∷ columns) (chunk ∷ chunks) =
    if is_wanted fields column
    then (part_of bytes group place column chunk >>= λ part. parts_in bytes fields group (place + 1) columns chunks >>= λ parts. Ok (part ∷ parts))
    else parts_in bytes fields group (place + 1) columns chunks

-- what is read of one group
pub record GroupParts : Type 0 where
  pub rows : ℕ
  pub parts : List Part

-- the groups, from the one number `group` on
abbrev pub groups_in : List ℕ → Option (List ℕ) → List MetaColumn → ℕ → List MetaGroup → Result (List GroupParts) FileFault
groups_in bytes fields columns group [] = Ok []
groups_in bytes fields columns group (g ∷ gs) =
    parts_in bytes fields group 0 columns g.chunks >>= λ parts.
    groups_in bytes fields columns (group + 1) gs >>= λ groups.
    Ok (record { rows = g.rows; parts = parts } ∷ groups)

-- ---- Ranges: a cell fits its column's type; cells count from the row `row` of the file

abbrev pub cells_fit : ℕ → ColType → ℕ → List Value → Result ⊤ FileFault
cells_fit place t row [] = Ok tt
cells_fit place t row (v ∷ vs) = if fits v t then cells_fit place t (row + 1) vs else Err (fault.BadCell place row)

abbrev pub parts_fit : ℕ → List Part → Result ⊤ FileFault
parts_fit row [] = Ok tt
parts_fit row (part ∷ parts) = cells_fit part.place part.ty row part.cells >>= λ u. parts_fit row parts

abbrev pub stated_rows : MetaGroup → ℕ
stated_rows group = group.rows

abbrev pub groups_fit : ℕ → List GroupParts → Result ⊤ FileFault
groups_fit row [] = Ok tt
groups_fit row (g ∷ gs) = parts_fit row g.parts >>= λ u. groups_fit (row + g.rows) gs

-- ---- The sheet

-- a column of the sheet, without cells
abbrev pub bare : MetaColumn → SheetColumn
bare column = record { field = column.field; name = column.name; ty = column.ty; optional = column.optional; cells = [] }

-- the parts of a group, behind the cells of the groups before it
abbrev pub longer : SheetColumn → Part → SheetColumn
longer column part = record column { cells = column.cells ++ part.cells }

abbrev pub beside : List SheetColumn → List Part → List SheetColumn
beside [] parts = []
beside (column ∷ columns) [] = column ∷ beside columns []
beside (column ∷ columns) (part ∷ parts) = longer column part ∷ beside columns parts

abbrev pub with_group : List SheetColumn → GroupParts → List SheetColumn
with_group columns group = beside columns group.parts

abbrev pub sheet_of : Option (List ℕ) → FileMeta → List GroupParts → Sheet
sheet_of fields meta groups = record { columns = fold with_group (map bare (filter (is_wanted fields) meta.columns)) groups; rows = meta.num_rows }

abbrev pub few_rows : ℕ → Result ⊤ FileFault
few_rows rows = if nat_lt MAX_FILE_ROWS rows then Err (fault.TooManyRows rows) else Ok tt

unfoldable pub sheet_in : List ℕ → Option (List ℕ) → FileMeta → Result Sheet FileFault
sheet_in bytes fields meta =
    few_rows meta.num_rows >>= λ u.
    groups_in bytes fields meta.columns 0 meta.groups >>= λ groups.
    groups_fit 0 groups >>= λ v.
    Ok (sheet_of fields meta groups)

-- The sheet of the wanted columns that a file holds, or the first fault. A chunk that is not wanted is not looked at.
unfoldable pub file_of : Option (List ℕ) → List ℕ → Result Sheet FileFault
file_of fields bytes =
    footer_in bytes >>= λ footer.
    of_meta (footer_of footer) >>= λ meta.
    sheet_in bytes fields meta
