-- A column chunk: its pages one after the other, and the cells that they give (Apache Parquet format, "Data Pages", "Plain",
-- "Run Length Encoding / Bit-Packing Hybrid", "Dictionary Encoding").
use Rattle.std.specs.Prelude.{ℕ, ℤ, pos, zero, suc, ◌+◌, ◌++◌, ◌==◌, ◌||◌, nat_eq, nat_lt, if◌then◌else◌, List, [], ◌∷◌, length, take, drop, map, replicate, slice_index_or, Bool, true, false, Option, Some, None, Result, Ok, Err, ⊤}
use Rattle.std.specs.List.{count_by}
use Rattle.std.specs.Str.{is_utf8}
use Rattle.byteorder.specs.Endian.{little_number}
use Rattle.thrift_compact.specs.Structs.{struct_of}
use Rattle.pq_encodings.specs.declared.fault.EncFault.{EncFault}
use Rattle.pq_encodings.specs.declared.fault.EncFault.TheVariants as enc
use Rattle.pq_encodings.specs.declared.plain.Physical.{Physical}
use Rattle.pq_encodings.specs.declared.plain.Physical.TheVariants as physical
use Rattle.pq_encodings.specs.Indices.{indices_before, indices_in}
use Rattle.pq_encodings.specs.Plain.{strings_before}
use Rattle.pq_encodings.specs.Runs.{levels_in}
use Rattle.pq_encodings.specs.Values.{Values, bools, i32s, i64s, strings, count_of, made, values_in, values_of}
use Rattle.pq_pages.specs.declared.chunk.ChunkSpec.{ChunkSpec}
use Rattle.pq_pages.specs.declared.chunk.RawCells.{RawCells}
use Rattle.pq_pages.specs.declared.fault.PageFault.{PageFault}
use Rattle.pq_pages.specs.declared.fault.PageFault.TheVariants as fault
use Rattle.pq_pages.specs.declared.headers.Coding.{Coding}
use Rattle.pq_pages.specs.declared.headers.Coding.TheVariants as coding
use Rattle.pq_pages.specs.declared.headers.Page.{Page}
use Rattle.pq_pages.specs.declared.headers.Page.TheVariants as page
use Rattle.pq_pages.specs.declared.headers.PageHeader.{PageHeader}
use Rattle.pq_pages.specs.declared.levels.Levels.{Levels}
use Rattle.pq_pages.specs.declared.levels.Levels.TheVariants as levels
use Rattle.answers.specs.Answers.{◌>>=◌}
use Rattle.pq_pages.specs.Answers.{fault_of, of_fields, of_values}
use Rattle.pq_pages.specs.Headers.{coding_of, header_of, is_code, no_page, page_field, plain_coded, runs_coded}

-- ---- Cells

-- which cells are values, and the values of those that are
pub record Cells : Type 0 where
  pub defined : List Bool
  pub values : Values

abbrev pub cells_of : RawCells → Cells
cells_of raw = record { defined = raw.defined.items; values = values_of raw.plain }

abbrev pub no_values : Physical → Values
no_values physical.Boolean = bools []
no_values physical.Int32 = i32s []
no_values physical.Int64 = i64s []
no_values physical.ByteArray = strings []

-- values behind others of the same kind
abbrev pub joined : Values → Values → Values
joined (bools xs) (bools ys) = bools (xs ++ ys)
joined (i32s xs) (i32s ys) = i32s (xs ++ ys)
joined (i64s xs) (i64s ys) = i64s (xs ++ ys)
joined (strings xs) (strings ys) = strings (xs ++ ys)
joined vs other = vs

-- ---- Levels: 1 is a value, and anything else a NULL

-- fewer bytes than are needed
abbrev pub cut_off : PageFault
cut_off = fault.Values (enc.Short 0)

-- Bytes behind their length, and what follows them. The length is four bytes, the low one first.
unfoldable pub framed : List ℕ → Result (List ℕ × List ℕ) PageFault
framed bytes =
    if nat_lt (length bytes) 4 then Err cut_off else
    if nat_lt (length (drop 4 bytes)) (little_number 4 bytes) then Err cut_off else
    Ok (take (little_number 4 bytes) (drop 4 bytes), drop (little_number 4 bytes) (drop 4 bytes))

abbrev pub is_one : ℕ → Bool
is_one x = x == 1

-- runs of width 1
unfoldable pub flags_in : ℕ → List ℕ → Result (List Bool) PageFault
flags_in count bytes = of_values (levels_in 1 bytes count) >>= λ xs. Ok (map is_one xs)

-- the levels of a data page, which may be that all its cells are values
abbrev pub flags_of : Levels → List Bool
flags_of (levels.All count) = replicate count true
flags_of (levels.Given flags) = flags.items

-- The levels of a data page, and its values behind them. A REQUIRED column has none; of no cells no byte is needed.
unfoldable pub data_levels : Bool → ℕ → List ℕ → Result (List Bool × List ℕ) PageFault
data_levels optional count body =
    if optional
    then (if nat_eq count 0 then Ok ([], body) else (framed body >>= λ parts. flags_in count parts.0 >>= λ flags. Ok (flags, parts.1)))
    else Ok (replicate count true, body)

-- the same of a data page of the second form, whose header says how long the levels are
unfoldable pub data_v2_levels : Bool → ℕ → ℕ → List ℕ → Result (List Bool × List ℕ) PageFault
data_v2_levels optional count size body =
    if optional
    then (flags_in count (take size body) >>= λ flags. Ok (flags, drop size body))
    else Ok (replicate count true, drop size body)

-- ---- Texts

-- the first text that is no UTF-8; the first of them has the place
abbrev pub all_texts : ℕ → List (List ℕ) → Result ⊤ PageFault
all_texts place [] = Ok tt
all_texts place (x ∷ xs) = if is_utf8 x then all_texts (place + 1) xs else Err (fault.BadUtf8 place)

abbrev pub are_texts : Bool → ℕ → Values → Result ⊤ PageFault
are_texts text place (bools xs) = Ok tt
are_texts text place (i32s xs) = Ok tt
are_texts text place (i64s xs) = Ok tt
are_texts text place (strings xs) = if text then all_texts place xs else Ok tt

-- Values that were read, or the fault at which the reading ended and the values before it: value by value.
abbrev pub judged : Bool → ℕ → Result Values EncFault → Values → Result Values PageFault
judged text place (Ok vs) before = are_texts text place vs >>= λ u. Ok vs
judged text place (Err e) before = are_texts text place before >>= λ u. Err (fault_of e)

-- ---- Values of a data page

-- The values before the first fault. Only of byte strings does it matter which they are.
abbrev pub plain_before : Physical → ℕ → List ℕ → Values
plain_before physical.Boolean count bytes = bools []
plain_before physical.Int32 count bytes = i32s []
plain_before physical.Int64 count bytes = i64s []
plain_before physical.ByteArray count bytes = strings (strings_before count bytes 0)

unfoldable pub plain_values : Physical → Bool → ℕ → ℕ → List ℕ → Result Values PageFault
plain_values kind text place count bytes = judged text place (values_in kind count bytes) (plain_before kind count bytes)

-- booleans as runs behind their length; of no values no byte is needed
unfoldable pub run_values : ℕ → List ℕ → Result Values PageFault
run_values count bytes =
    if nat_eq count 0 then Ok (bools []) else (framed bytes >>= λ parts. flags_in count parts.0 >>= λ flags. Ok (bools flags))

-- the entries with these numbers
abbrev pub picked : Values → List ℕ → Values
picked (bools xs) numbers = bools (map (λ i. slice_index_or xs i false) numbers)
picked (i32s xs) numbers = i32s (map (λ i. slice_index_or xs i (pos 0)) numbers)
picked (i64s xs) numbers = i64s (map (λ i. slice_index_or xs i (pos 0)) numbers)
picked (strings xs) numbers = strings (map (λ i. slice_index_or xs i []) numbers)

unfoldable pub entries_at : Bool → ℕ → Values → ℕ → List ℕ → Result Values PageFault
entries_at text place entries count bytes =
    judged text place (made (picked entries) (indices_in bytes count (count_of entries))) (picked entries (indices_before bytes count (count_of entries)))

abbrev pub entries_of : Bool → ℕ → Option Values → ℕ → List ℕ → Result Values PageFault
entries_of text place None count bytes = Err fault.NoDictionary
entries_of text place (Some entries) count bytes = entries_at text place entries count bytes

-- entries of the dictionary; of no values none is needed
unfoldable pub indexed_values : Physical → Bool → ℕ → Option Values → ℕ → List ℕ → Result Values PageFault
indexed_values kind text place dictionary count bytes =
    if nat_eq count 0 then Ok (no_values kind) else entries_of text place dictionary count bytes

-- ---- Pages

-- what was had of a chunk: its cells, and its last dictionary
pub record Chunk : Type 0 where
  pub defined : List Bool
  pub values : Values
  pub dictionary : Option Values

abbrev pub no_cells : Physical → Chunk
no_cells kind = record { defined = []; values = no_values kind; dictionary = None }

-- so many values, behind those that were had
abbrev pub page_values : ChunkSpec → Chunk → Coding → ℕ → List ℕ → Result Values PageFault
page_values spec had coding.Plain count bytes = plain_values spec.kind spec.text (count_of had.values) count bytes
page_values spec had coding.Indices count bytes = indexed_values spec.kind spec.text (count_of had.values) had.dictionary count bytes
page_values spec had coding.Runs count bytes = run_values count bytes

-- the cells of a data page, of which the levels were read
unfoldable pub with_cells : ChunkSpec → Chunk → Coding → List Bool → List ℕ → Result Chunk PageFault
with_cells spec had way flags bytes =
    page_values spec had way (count_by (λ flag. flag) flags) bytes >>= λ vs.
    Ok (record had { defined = had.defined ++ flags; values = joined had.values vs })

-- a page has no more cells than the chunk still wants
unfoldable pub fits : ChunkSpec → Chunk → ℕ → Result ⊤ PageFault
fits spec had count =
    if nat_lt spec.num_values (length had.defined + count) then Err (fault.Count spec.num_values (length had.defined + count)) else Ok tt

-- how the values of a data page stand, unless its header is refused
unfoldable pub data_coding : ChunkSpec → Chunk → ℕ → ℤ → Option ℤ → Result Coding PageFault
data_coding spec had count encoding levels_encoding =
    fits spec had count >>= λ u.
    coding_of spec.kind encoding >>= λ way.
    runs_coded levels_encoding >>= λ v.
    Ok way

unfoldable pub data_page : ChunkSpec → Chunk → ℕ → Coding → List ℕ → Result Chunk PageFault
data_page spec had count way body =
    data_levels spec.optional count body >>= λ found.
    with_cells spec had way found.0 found.1

-- the levels that a page of the second form states are whole in it, and there are no repetition levels
unfoldable pub whole_levels : ℕ → ℕ → List ℕ → Result ⊤ PageFault
whole_levels size repetition body =
    if nat_lt (length body) size then Err cut_off else
    if nat_lt 0 repetition then Err (fault.Encoding (pos 3)) else
    Ok tt

unfoldable pub data_v2_coding : ChunkSpec → Chunk → ℕ → ℤ → ℕ → ℕ → List ℕ → Result Coding PageFault
data_v2_coding spec had count encoding size repetition body =
    fits spec had count >>= λ u.
    coding_of spec.kind encoding >>= λ way.
    whole_levels size repetition body >>= λ v.
    Ok way

unfoldable pub data_v2_page : ChunkSpec → Chunk → ℕ → ℕ → Coding → List ℕ → Result Chunk PageFault
data_v2_page spec had count size way body =
    data_v2_levels spec.optional count size body >>= λ found.
    with_cells spec had way found.0 found.1

-- a later dictionary takes the place of an earlier one
unfoldable pub dictionary_page : ChunkSpec → Chunk → ℕ → ℤ → List ℕ → Result Chunk PageFault
dictionary_page spec had count encoding body =
    plain_coded encoding >>= λ u.
    of_values (values_in spec.kind count body) >>= λ entries.
    Ok (record had { dictionary = Some entries })

abbrev pub in_page : ChunkSpec → Chunk → Page → List ℕ → Result Chunk PageFault
in_page spec had (page.Data count encoding levels_encoding) body =
    data_coding spec had count encoding levels_encoding >>= λ way. data_page spec had count way body
in_page spec had (page.DataV2 count encoding size repetition) body =
    data_v2_coding spec had count encoding size repetition body >>= λ way. data_v2_page spec had count size way body
in_page spec had (page.Dictionary count encoding) body = dictionary_page spec had count encoding body
in_page spec had page.Other body = Ok had

-- a page behind its header, and the bytes behind the page
unfoldable pub behind_header : ChunkSpec → Chunk → PageHeader → List ℕ → Result (Chunk × List ℕ) PageFault
behind_header spec had header bytes =
    if nat_lt (length bytes) header.size then Err cut_off else
    (in_page spec had header.page (take header.size bytes) >>= λ new. Ok (new, drop header.size bytes))

-- a page, of a chunk whose bytes end at the offset `end`
unfoldable pub page_in : ChunkSpec → ℕ → Chunk → List ℕ → Result (Chunk × List ℕ) PageFault
page_in spec end had bytes =
    of_fields (struct_of page_field no_page end bytes) >>= λ draft.
    header_of spec.optional draft.0 >>= λ header.
    behind_header spec had header draft.1

abbrev pub is_whole : ChunkSpec → Chunk → Bool
is_whole spec had = nat_eq (length had.defined) spec.num_values

-- all cells were had
abbrev pub whole : ChunkSpec → Chunk → Result Chunk PageFault
whole spec had = if is_whole spec had then Ok had else Err (fault.Count spec.num_values (length had.defined))

-- Page after page, until all cells were had or the bytes end. Each page has a byte at least, so there are no more pages than bytes.
unfoldable pub pages_in : ChunkSpec → ℕ → ℕ → Chunk → List ℕ → Result Chunk PageFault
pages_in spec end zero had bytes = whole spec had
pages_in spec end (suc most) had bytes =
    if is_whole spec had || nat_eq (length bytes) 0 then whole spec had else
    (page_in spec end had bytes >>= λ x. pages_in spec end most x.0 x.1)

abbrev pub cells_in : Chunk → Cells
cells_in had = record { defined = had.defined; values = had.values }

-- the cells of pages that were read
abbrev pub cells_had : Result Chunk PageFault → Result Cells PageFault
cells_had pages = pages >>= λ had. Ok (cells_in had)

-- the chunk's cells, or the first fault
unfoldable pub chunk_of : ChunkSpec → List ℕ → Result Cells PageFault
chunk_of spec bytes =
    if is_code 0 spec.codec
    then (pages_in spec (length bytes) (length bytes) (no_cells spec.kind) bytes >>= λ had. Ok (cells_in had))
    else Err (fault.Compressed spec.codec)
