-- The one spelling of a column chunk: one data page, plain and not compressed.
use Rattle.std.specs.Prelude.{◌≡◌, ◌<◌, ◌^◌, ℕ, ℤ, pos, ◌++◌, if◌then◌else◌, List, [], ◌∷◌, length, All, Bool, true, false}
use Rattle.std.specs.List.{count_by}
use Rattle.std.specs.Str.{IsUtf8}
use Rattle.byteorder.specs.Endian.{little_bytes}
use Rattle.thrift_compact.specs.declared.types.TheConstants.{I32, STRUCT}
use Rattle.thrift_compact.specs.Shortest.{field_spelling, signed_spelling}
use Rattle.pq_encodings.specs.Levels.{level_bytes}
use Rattle.pq_encodings.specs.Values.{AreShort, Values, bools, i32s, i64s, strings, count_of, kind_of, value_bytes}
use Rattle.pq_pages.specs.declared.chunk.ChunkSpec.{ChunkSpec}
use Rattle.pq_pages.specs.Pages.{Cells}

-- bytes behind their length
abbrev pub frame : List ℕ → List ℕ
frame bytes = little_bytes 4 (length bytes) ++ bytes

-- the levels of an OPTIONAL column, behind their length; a REQUIRED one has none
abbrev pub levels_part : Bool → List Bool → List ℕ
levels_part optional flags = if optional then frame (level_bytes flags) else []

-- the page behind its header: the levels, and the plain bytes of the values
abbrev pub page_bytes : Bool → List Bool → List ℕ → List ℕ
page_bytes optional flags values = levels_part optional flags ++ values

abbrev pub body_bytes : Bool → Cells → List ℕ
body_bytes optional cells = page_bytes optional cells.defined (value_bytes cells.values)

-- a field of 32 bits behind the field `last`
abbrev pub int_field : ℤ → ℤ → ℤ → List ℕ
int_field last id value = field_spelling last id I32 ++ signed_spelling value

-- DataPageHeader: the number of cells, PLAIN, and RLE for both kinds of levels
abbrev pub data_header_bytes : ℕ → List ℕ
data_header_bytes count =
    int_field (pos 0) (pos 1) (pos count) ++ int_field (pos 1) (pos 2) (pos 0) ++ int_field (pos 2) (pos 3) (pos 3) ++ int_field (pos 3) (pos 4) (pos 3) ++ 0 ∷ []

-- PageHeader: data, and the size twice, since nothing is compressed
abbrev pub header_bytes : ℕ → ℕ → List ℕ
header_bytes size count =
    int_field (pos 0) (pos 1) (pos 0) ++ int_field (pos 1) (pos 2) (pos size) ++ int_field (pos 2) (pos 3) (pos size)
    ++ field_spelling (pos 3) (pos 5) STRUCT ++ data_header_bytes count ++ 0 ∷ []

-- a page with its header
abbrev pub whole_page : Bool → List Bool → List ℕ → List ℕ
whole_page optional flags values = header_bytes (length (page_bytes optional flags values)) (length flags) ++ page_bytes optional flags values

abbrev pub chunk_bytes : Bool → Cells → List ℕ
chunk_bytes optional cells = whole_page optional cells.defined (value_bytes cells.values)

-- Cells that can be written: each cell that is a value has one, those of a REQUIRED column are all values, byte strings are
-- short enough to be read, and the page's numbers fit their fields.
pub record AreWritable (optional : Bool) (cells : Cells) : Type 0 where
  pub matched : count_of cells.values ≡ count_by (λ flag. flag) cells.defined
  pub required : optional ≡ false → All (λ flag. flag ≡ true) cells.defined
  pub short : AreShort cells.values
  pub few : length cells.defined < 2 ^ 31
  pub small : length (body_bytes optional cells) < 2 ^ 31

-- what a footer says of a chunk with these cells
abbrev pub spec_of : Bool → Bool → Cells → ChunkSpec
spec_of text optional cells = record { codec = pos 0; kind = kind_of cells.values; optional = optional; num_values = length cells.defined; text = text }

-- each byte string is UTF-8
abbrev pub AreTexts : Values → Type 0
AreTexts (bools xs) = Unit {0}
AreTexts (i32s xs) = Unit {0}
AreTexts (i64s xs) = Unit {0}
AreTexts (strings xs) = All (λ x. IsUtf8 x) xs
