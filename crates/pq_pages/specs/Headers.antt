-- What a page's header says (Apache Parquet format, parquet.thrift: PageHeader).
use Rattle.std.specs.Prelude.{ℕ, ℤ, pos, negsuc, ◌^◌, List, Option, Some, None, Result, Ok, Err, Bool, true, false, ◌==◌, ◌&&◌, if◌then◌else◌, ⊤}
use Rattle.answers.specs.Answers.{◌>>=◌}
use Rattle.thrift_compact.specs.Reading.{Read, start_of, signed_in}
use Rattle.thrift_compact.specs.declared.types.TheConstants.{I32, STRUCT}
use Rattle.thrift_compact.specs.Reading.{count_in}
use Rattle.thrift_compact.specs.Structs.{is_field, struct_of, unknown}
use Rattle.pq_encodings.specs.declared.plain.Physical.{Physical}
use Rattle.pq_encodings.specs.declared.plain.Physical.TheVariants as physical
use Rattle.pq_pages.specs.declared.drafts.DataDraft.{DataDraft}
use Rattle.pq_pages.specs.declared.drafts.DataV2Draft.{DataV2Draft}
use Rattle.pq_pages.specs.declared.drafts.DictionaryDraft.{DictionaryDraft}
use Rattle.pq_pages.specs.declared.drafts.PageDraft.{PageDraft}
use Rattle.pq_pages.specs.declared.fault.PageFault.{PageFault}
use Rattle.pq_pages.specs.declared.fault.PageFault.TheVariants as fault
use Rattle.pq_pages.specs.declared.headers.Coding.{Coding}
use Rattle.pq_pages.specs.declared.headers.Coding.TheVariants as coding
use Rattle.pq_pages.specs.declared.headers.Page.{Page}
use Rattle.pq_pages.specs.declared.headers.Page.TheVariants as page
use Rattle.pq_pages.specs.declared.headers.PageHeader.{PageHeader}
use Rattle.answers.specs.Answers.{◌>>=◌}

-- ---- The compact fields

abbrev pub no_data : DataDraft
no_data = record { num_values = None; encoding = None; levels_encoding = None }

-- DataPageHeader: 1 num_values, 2 encoding, 3 definition_level_encoding
unfoldable pub data_field : ℕ → DataDraft → ℤ → ℕ → List ℕ → Read DataDraft
data_field end draft id ty bytes =
    if is_field 1 I32 id ty then (count_in (start_of end bytes) (2 ^ 32) bytes >>= λ x. Ok (record draft { num_values = Some x.0 }, x.1)) else
    if is_field 2 I32 id ty then (signed_in (start_of end bytes) (2 ^ 32) bytes >>= λ x. Ok (record draft { encoding = Some x.0 }, x.1)) else
    if is_field 3 I32 id ty then (signed_in (start_of end bytes) (2 ^ 32) bytes >>= λ x. Ok (record draft { levels_encoding = Some x.0 }, x.1)) else
    unknown end draft ty bytes

abbrev pub no_data_v2 : DataV2Draft
no_data_v2 = record { num_values = None; encoding = None; levels_length = None; repetition_length = None }

-- DataPageHeaderV2: 1 num_values, 3 num_rows, 4 encoding, 5 definition_levels_byte_length, 6 repetition_levels_byte_length
unfoldable pub data_v2_field : ℕ → DataV2Draft → ℤ → ℕ → List ℕ → Read DataV2Draft
data_v2_field end draft id ty bytes =
    if is_field 1 I32 id ty then (count_in (start_of end bytes) (2 ^ 32) bytes >>= λ x. Ok (record draft { num_values = Some x.0 }, x.1)) else
    if is_field 3 I32 id ty then (count_in (start_of end bytes) (2 ^ 32) bytes >>= λ x. Ok (draft, x.1)) else
    if is_field 4 I32 id ty then (signed_in (start_of end bytes) (2 ^ 32) bytes >>= λ x. Ok (record draft { encoding = Some x.0 }, x.1)) else
    if is_field 5 I32 id ty then (count_in (start_of end bytes) (2 ^ 32) bytes >>= λ x. Ok (record draft { levels_length = Some x.0 }, x.1)) else
    if is_field 6 I32 id ty then (count_in (start_of end bytes) (2 ^ 32) bytes >>= λ x. Ok (record draft { repetition_length = Some x.0 }, x.1)) else
    unknown end draft ty bytes

abbrev pub no_dictionary : DictionaryDraft
no_dictionary = record { num_values = None; encoding = None }

-- DictionaryPageHeader: 1 num_values, 2 encoding
unfoldable pub dictionary_field : ℕ → DictionaryDraft → ℤ → ℕ → List ℕ → Read DictionaryDraft
dictionary_field end draft id ty bytes =
    if is_field 1 I32 id ty then (count_in (start_of end bytes) (2 ^ 32) bytes >>= λ x. Ok (record draft { num_values = Some x.0 }, x.1)) else
    if is_field 2 I32 id ty then (signed_in (start_of end bytes) (2 ^ 32) bytes >>= λ x. Ok (record draft { encoding = Some x.0 }, x.1)) else
    unknown end draft ty bytes

abbrev pub no_page : PageDraft
no_page = record { kind = None; size = None; data_page = None; dictionary_page = None; data_page_v2 = None }

-- PageHeader: 1 type, 3 compressed_page_size, 5 data_page_header, 7 dictionary_page_header, 8 data_page_header_v2
unfoldable pub page_field : ℕ → PageDraft → ℤ → ℕ → List ℕ → Read PageDraft
page_field end draft id ty bytes =
    if is_field 1 I32 id ty then (signed_in (start_of end bytes) (2 ^ 32) bytes >>= λ x. Ok (record draft { kind = Some x.0 }, x.1)) else
    if is_field 3 I32 id ty then (count_in (start_of end bytes) (2 ^ 32) bytes >>= λ x. Ok (record draft { size = Some x.0 }, x.1)) else
    if is_field 5 STRUCT id ty then (struct_of data_field no_data end bytes >>= λ x. Ok (record draft { data_page = Some x.0 }, x.1)) else
    if is_field 7 STRUCT id ty then (struct_of dictionary_field no_dictionary end bytes >>= λ x. Ok (record draft { dictionary_page = Some x.0 }, x.1)) else
    if is_field 8 STRUCT id ty then (struct_of data_v2_field no_data_v2 end bytes >>= λ x. Ok (record draft { data_page_v2 = Some x.0 }, x.1)) else
    unknown end draft ty bytes

-- ---- The required fields, by rising number

abbrev pub need : {A : Type 0} → ℤ → Option A → Result A PageFault
need id None = Err (fault.Missing id)
need id (Some x) = Ok x

-- Of an OPTIONAL column the encoding of the levels is required, else it is ignored.
abbrev pub need_levels : Bool → Option ℤ → Result (Option ℤ) PageFault
need_levels optional code = if optional then (need (pos 3) code >>= λ found. Ok (Some found)) else Ok None

unfoldable pub data_of : Bool → DataDraft → Result Page PageFault
data_of optional draft =
    need (pos 1) draft.num_values >>= λ count.
    need (pos 2) draft.encoding >>= λ encoding.
    need_levels optional draft.levels_encoding >>= λ levels.
    Ok (page.Data count encoding levels)

unfoldable pub data_v2_of : DataV2Draft → Result Page PageFault
data_v2_of draft =
    need (pos 1) draft.num_values >>= λ count.
    need (pos 4) draft.encoding >>= λ encoding.
    need (pos 5) draft.levels_length >>= λ levels.
    need (pos 6) draft.repetition_length >>= λ repetition.
    Ok (page.DataV2 count encoding levels repetition)

unfoldable pub dictionary_of : DictionaryDraft → Result Page PageFault
dictionary_of draft =
    need (pos 1) draft.num_values >>= λ count.
    need (pos 2) draft.encoding >>= λ encoding.
    Ok (page.Dictionary count encoding)

-- is it this code
abbrev pub is_code : ℕ → ℤ → Bool
is_code n (pos m) = m == n
is_code n (negsuc m) = false

-- the types of pages: data 0, dictionary 2, data of the second form 3
unfoldable pub page_of : Bool → ℤ → PageDraft → Result Page PageFault
page_of optional kind draft =
    if is_code 0 kind then (need (pos 5) draft.data_page >>= data_of optional) else
    if is_code 2 kind then (need (pos 7) draft.dictionary_page >>= dictionary_of) else
    if is_code 3 kind then (need (pos 8) draft.data_page_v2 >>= data_v2_of) else
    Ok page.Other

unfoldable pub header_of : Bool → PageDraft → Result PageHeader PageFault
header_of optional draft =
    need (pos 1) draft.kind >>= λ kind.
    need (pos 3) draft.size >>= λ size.
    page_of optional kind draft >>= λ found.
    Ok (record { size = size; page = found })

-- ---- Encodings

abbrev pub is_boolean : Physical → Bool
is_boolean physical.Boolean = true
is_boolean physical.Int32 = false
is_boolean physical.Int64 = false
is_boolean physical.ByteArray = false

-- PLAIN 0; PLAIN_DICTIONARY 2 and RLE_DICTIONARY 8, which both mean indices; RLE 3 for booleans
unfoldable pub coding_of : Physical → ℤ → Result Coding PageFault
coding_of kind code =
    if is_code 0 code then Ok coding.Plain else
    if is_code 2 code then Ok coding.Indices else
    if is_code 8 code then Ok coding.Indices else
    if is_code 3 code && is_boolean kind then Ok coding.Runs else
    Err (fault.Encoding code)

-- a dictionary's values are plain: PLAIN 0 and PLAIN_DICTIONARY 2 both say so
unfoldable pub plain_coded : ℤ → Result ⊤ PageFault
plain_coded code =
    if is_code 0 code then Ok tt else
    if is_code 2 code then Ok tt else
    Err (fault.Encoding code)

-- levels are runs: RLE 3
unfoldable pub runs_coded : Option ℤ → Result ⊤ PageFault
runs_coded None = Ok tt
runs_coded (Some code) = if is_code 3 code then Ok tt else Err (fault.Encoding code)
