-- The one spelling of a footer that is written: the fields of each struct by rising id, each in its shortest spelling.
use Rattle.std.specs.Prelude.{◌≡◌, ℕ, ℤ, pos, ◌+◌, ◌^◌, ◌<◌, ◌≤◌, List, [], ◌∷◌, ◌++◌, length, codes, sum_by, All, AllPairs, Option, Some, None, Bool, true, false}
use Rattle.std.specs.List.{flat_map}
use Rattle.lake_types.specs.declared.value.ColType.{ColType}
use Rattle.lake_types.specs.declared.value.ColType.TheVariants as ty
use Rattle.thrift_compact.specs.declared.types.TheConstants.{I32, I64, BINARY, LIST, STRUCT}
use Rattle.thrift_compact.specs.Shortest.{signed_spelling, binary_spelling, field_spelling, list_spelling}
use Rattle.lake_types.specs.declared.limits.TheConstants.{MAX_NAME_BYTES}
use Rattle.pq_meta.specs.declared.limits.TheConstants.{MAX_FILE_COLUMNS}
use Rattle.pq_meta.specs.declared.codes.TheConstants.{BOOLEAN, INT32, INT64, BYTE_ARRAY, REQUIRED, OPTIONAL, UTF8, DATE, INT_8, INT_16}
use Rattle.pq_meta.specs.declared.meta.FileMeta.{FileMeta}
use Rattle.pq_meta.specs.declared.meta.MetaColumn.{MetaColumn}
use Rattle.pq_meta.specs.declared.meta.MetaGroup.{MetaGroup}
use Rattle.pq_meta.specs.declared.meta.MetaChunk.{MetaChunk}
use Rattle.pq_meta.specs.Consistency.{HasFieldId, OtherField}

-- ---- fields, each behind the field `last` of its struct

-- one piece, and the pieces behind it
infixr 4 ◌and◌
abbrev pub ◌and◌ : List ℕ → List ℕ → List ℕ
piece and more = piece ++ more

abbrev pub int_field : ℤ → ℤ → ℤ → List ℕ
int_field last id number = field_spelling last id I32 and signed_spelling number

abbrev pub long_field : ℤ → ℤ → ℕ → List ℕ
long_field last id number = field_spelling last id I64 and signed_spelling (pos number)

abbrev pub text_field : ℤ → ℤ → List ℕ → List ℕ
text_field last id text = field_spelling last id BINARY and binary_spelling text

abbrev pub list_field : ℤ → ℤ → ℕ → ℕ → List ℕ
list_field last id type size = field_spelling last id LIST and list_spelling type size

-- the stop that ends a struct
abbrev pub stop : List ℕ
stop = 0 ∷ []

-- ---- the schema

abbrev pub physical_of : ColType → ℤ
physical_of ty.Bool = BOOLEAN
physical_of ty.Int8 = INT32
physical_of ty.Int16 = INT32
physical_of ty.Int32 = INT32
physical_of ty.Int64 = INT64
physical_of ty.Varchar = BYTE_ARRAY
physical_of ty.Blob = BYTE_ARRAY
physical_of ty.Date = INT32

-- the converted type, where one is needed
abbrev pub converted_of : ColType → Option ℤ
converted_of ty.Bool = None
converted_of ty.Int8 = Some INT_8
converted_of ty.Int16 = Some INT_16
converted_of ty.Int32 = None
converted_of ty.Int64 = None
converted_of ty.Varchar = Some UTF8
converted_of ty.Blob = None
converted_of ty.Date = Some DATE

abbrev pub repetition_of : Bool → ℤ
repetition_of true = OPTIONAL
repetition_of false = REQUIRED

-- the field id behind the field `last`, if there is one, and the stop
abbrev pub id_bytes : ℤ → Option ℕ → List ℕ
id_bytes last None = stop
id_bytes last (Some id) = int_field last (pos 9) (pos id) and stop

-- the converted type, if there is one, and what follows it
abbrev pub type_bytes : Option ℤ → Option ℕ → List ℕ
type_bytes None id = id_bytes (pos 4) id
type_bytes (Some code) id = int_field (pos 4) (pos 6) code and id_bytes (pos 6) id

unfoldable pub column_bytes : MetaColumn → List ℕ
column_bytes column =
    int_field (pos 0) (pos 1) (physical_of column.ty) and
    int_field (pos 1) (pos 3) (repetition_of column.optional) and
    text_field (pos 3) (pos 4) column.name and
    type_bytes (converted_of column.ty) column.field

-- the root of so many columns
unfoldable pub root_bytes : ℕ → List ℕ
root_bytes columns =
    text_field (pos 0) (pos 4) (codes "schema") and
    int_field (pos 4) (pos 5) (pos columns) and
    stop

-- ---- the groups

-- the encodings PLAIN and RLE
unfoldable pub encodings_bytes : List ℕ
encodings_bytes = list_field (pos 1) (pos 2) I32 2 and signed_spelling (pos 0) and signed_spelling (pos 3)

-- the path of a column: its name
unfoldable pub path_bytes : List ℕ → List ℕ
path_bytes name = list_field (pos 2) (pos 3) BINARY 1 and binary_spelling name

-- how many values there are, how many bytes, and where the first one lies
unfoldable pub extent_bytes : MetaChunk → List ℕ
extent_bytes chunk =
    long_field (pos 4) (pos 5) chunk.num_values and
    long_field (pos 5) (pos 6) chunk.length and
    long_field (pos 6) (pos 7) chunk.length and
    long_field (pos 7) (pos 9) chunk.first and
    stop

unfoldable pub chunk_meta_bytes : MetaColumn → MetaChunk → List ℕ
chunk_meta_bytes column chunk =
    int_field (pos 0) (pos 1) (physical_of column.ty) and
    encodings_bytes and
    path_bytes column.name and
    int_field (pos 3) (pos 4) chunk.codec and
    extent_bytes chunk

unfoldable pub chunk_bytes : MetaColumn → MetaChunk → List ℕ
chunk_bytes column chunk =
    long_field (pos 0) (pos 2) chunk.first and
    field_spelling (pos 2) (pos 3) STRUCT and
    chunk_meta_bytes column chunk and
    stop

-- a chunk for each column
abbrev pub chunks_bytes : List MetaColumn → List MetaChunk → List ℕ
chunks_bytes (column ∷ columns) (chunk ∷ chunks) = chunk_bytes column chunk and chunks_bytes columns chunks
chunks_bytes columns chunks = []

-- the bytes of a group's chunks in the file
abbrev pub total_of : List MetaChunk → ℕ
total_of chunks = sum_by (λ (chunk : MetaChunk). chunk.length) chunks

unfoldable pub group_bytes : List MetaColumn → MetaGroup → List ℕ
group_bytes columns group =
    list_field (pos 0) (pos 1) STRUCT (length group.chunks) and
    chunks_bytes columns group.chunks and
    long_field (pos 1) (pos 2) (total_of group.chunks) and
    long_field (pos 2) (pos 3) group.rows and
    stop

-- ---- the footer

-- the version, and the root with its columns
unfoldable pub schema_bytes : List MetaColumn → List ℕ
schema_bytes columns =
    int_field (pos 0) (pos 1) (pos 1) and
    list_field (pos 1) (pos 2) STRUCT (length columns + 1) and
    root_bytes (length columns) and
    flat_map column_bytes columns

unfoldable pub footer_bytes : FileMeta → List ℕ
footer_bytes meta =
    schema_bytes meta.columns and
    long_field (pos 2) (pos 3) meta.num_rows and
    list_field (pos 3) (pos 4) STRUCT (length meta.groups) and
    flat_map (group_bytes meta.columns) meta.groups and
    stop

-- ---- which footers are written

-- a name that is not too long, and a field id that a file can state
pub record IsColumn (column : MetaColumn) : Type 0 where
  pub name : length column.name ≤ MAX_NAME_BYTES
  pub field : HasFieldId column

-- numbers that a file can state
pub record IsExtent (chunk : MetaChunk) : Type 0 where
  pub values : chunk.num_values < 2 ^ 63
  pub first : chunk.first < 2 ^ 63
  pub size : chunk.length < 2 ^ 63

-- an uncompressed chunk of a group of so many rows
abbrev pub IsPlainChunk : ℕ → MetaChunk → Type 0
IsPlainChunk rows chunk = (chunk.codec ≡ pos 0) × (chunk.num_values ≡ rows)

-- a group with a chunk for each of so many columns
pub record IsGroup (columns : ℕ) (group : MetaGroup) : Type 0 where
  pub count : length group.chunks ≡ columns
  pub plain : All (IsPlainChunk group.rows) group.chunks
  pub extents : All IsExtent group.chunks
  pub rows : group.rows < 2 ^ 63
  pub total : total_of group.chunks < 2 ^ 63

-- a footer that can be written
pub record IsWritable (meta : FileMeta) : Type 0 where
  pub few_columns : length meta.columns ≤ MAX_FILE_COLUMNS
  pub columns : All IsColumn meta.columns
  pub fields : AllPairs OtherField meta.columns
  pub few_groups : length meta.groups < 2 ^ 32
  pub groups : All (IsGroup (length meta.columns)) meta.groups
  pub rows : sum_by (λ (group : MetaGroup). group.rows) meta.groups ≡ meta.num_rows
  pub most_rows : meta.num_rows < 2 ^ 63
