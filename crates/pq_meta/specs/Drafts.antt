-- What each field of a footer's structs adds to a draft (Apache Parquet format, `parquet.thrift`).
use Rattle.std.specs.Prelude.{ℕ, ℤ, ◌^◌, List, Some, None, Ok, true, false, ◌&&◌, if◌then◌else◌}
use Rattle.thrift_compact.specs.declared.types.TheConstants.{TRUE, FALSE, BYTE, I32, I64, BINARY, LIST, STRUCT}
use Rattle.answers.specs.Answers.{◌>>=◌}
use Rattle.thrift_compact.specs.Reading.{Read, start_of, signed_in, byte_in, binary_in, begins_list_of, after_value}
use Rattle.thrift_compact.specs.Reading.{count_in}
use Rattle.thrift_compact.specs.Structs.{is_field, unknown, struct_of, structs_of}
use Rattle.pq_meta.specs.declared.drafts.FooterDraft.{FooterDraft}
use Rattle.pq_meta.specs.declared.drafts.ElementDraft.{ElementDraft}
use Rattle.pq_meta.specs.declared.drafts.LogicalDraft.{LogicalDraft}
use Rattle.pq_meta.specs.declared.drafts.IntegerDraft.{IntegerDraft}
use Rattle.pq_meta.specs.declared.drafts.Member.TheVariants as member
use Rattle.pq_meta.specs.declared.drafts.GroupDraft.{GroupDraft}
use Rattle.pq_meta.specs.declared.drafts.ChunkDraft.{ChunkDraft}
use Rattle.pq_meta.specs.declared.drafts.ChunkMetaDraft.{ChunkMetaDraft}

-- ---- numbers, of bytes that end at the offset `end`

abbrev pub int_in : ℕ → List ℕ → Read ℤ
int_in end bytes = signed_in (start_of end bytes) (2 ^ 32) bytes

abbrev pub long_in : ℕ → List ℕ → Read ℤ
long_in end bytes = signed_in (start_of end bytes) (2 ^ 64) bytes

-- a number of 64 bits that is negative is too wide
abbrev pub long_count_in : ℕ → List ℕ → Read ℕ
long_count_in end bytes = count_in (start_of end bytes) (2 ^ 64) bytes

-- ---- logical types

abbrev pub no_integer : IntegerDraft
no_integer = record { bit_width = None; signed = None }

-- a boolean's value is its type
unfoldable pub integer_part : ℕ → IntegerDraft → ℤ → ℕ → List ℕ → Read IntegerDraft
integer_part end draft id ty bytes =
    if is_field 1 BYTE id ty then (byte_in (start_of end bytes) bytes >>= λ x. Ok (record draft { bit_width = Some x.0 }, x.1)) else
    if is_field 2 TRUE id ty then Ok (record draft { signed = Some true }, bytes) else
    if is_field 2 FALSE id ty then Ok (record draft { signed = Some false }, bytes) else
    unknown end draft ty bytes

abbrev pub no_logical : LogicalDraft
no_logical = record { member = None }

-- The members STRING, DATE and INTEGER; any other one is not known. The last one decides. Only of INTEGER is something inside used.
unfoldable pub logical_part : ℕ → LogicalDraft → ℤ → ℕ → List ℕ → Read LogicalDraft
logical_part end draft id ty bytes =
    if is_field 1 STRUCT id ty then (after_value end 16 ty bytes >>= λ rest. Ok (record draft { member = Some member.Text }, rest)) else
    if is_field 6 STRUCT id ty then (after_value end 16 ty bytes >>= λ rest. Ok (record draft { member = Some member.Date }, rest)) else
    if is_field 10 STRUCT id ty then (struct_of integer_part no_integer end bytes >>= λ x. Ok (record draft { member = Some (member.Integer x.0) }, x.1)) else
    (after_value end 16 ty bytes >>= λ rest. Ok (record draft { member = Some member.Other }, rest))

-- ---- the schema

abbrev pub no_element : ElementDraft
no_element = record { physical = None; repetition = None; name = None; num_children = None; converted = None; field = None; logical = None }

unfoldable pub element_part : ℕ → ElementDraft → ℤ → ℕ → List ℕ → Read ElementDraft
element_part end draft id ty bytes =
    if is_field 1 I32 id ty then (int_in end bytes >>= λ x. Ok (record draft { physical = Some x.0 }, x.1)) else
    if is_field 3 I32 id ty then (int_in end bytes >>= λ x. Ok (record draft { repetition = Some x.0 }, x.1)) else
    if is_field 4 BINARY id ty then (binary_in (start_of end bytes) bytes >>= λ x. Ok (record draft { name = Some x.0 }, x.1)) else
    if is_field 5 I32 id ty then (count_in (start_of end bytes) (2 ^ 32) bytes >>= λ x. Ok (record draft { num_children = Some x.0 }, x.1)) else
    if is_field 6 I32 id ty then (int_in end bytes >>= λ x. Ok (record draft { converted = Some x.0 }, x.1)) else
    if is_field 9 I32 id ty then (int_in end bytes >>= λ x. Ok (record draft { field = Some x.0 }, x.1)) else
    if is_field 10 STRUCT id ty then (struct_of logical_part no_logical end bytes >>= λ x. Ok (record draft { logical = Some x.0 }, x.1)) else
    unknown end draft ty bytes

-- ---- the groups

abbrev pub no_chunk_meta : ChunkMetaDraft
no_chunk_meta = record { physical = None; codec = None; num_values = None; length = None; data_page = None; dictionary_page = None }

unfoldable pub chunk_meta_part : ℕ → ChunkMetaDraft → ℤ → ℕ → List ℕ → Read ChunkMetaDraft
chunk_meta_part end draft id ty bytes =
    if is_field 1 I32 id ty then (int_in end bytes >>= λ x. Ok (record draft { physical = Some x.0 }, x.1)) else
    if is_field 4 I32 id ty then (int_in end bytes >>= λ x. Ok (record draft { codec = Some x.0 }, x.1)) else
    if is_field 5 I64 id ty then (long_count_in end bytes >>= λ x. Ok (record draft { num_values = Some x.0 }, x.1)) else
    if is_field 7 I64 id ty then (long_count_in end bytes >>= λ x. Ok (record draft { length = Some x.0 }, x.1)) else
    if is_field 9 I64 id ty then (long_count_in end bytes >>= λ x. Ok (record draft { data_page = Some x.0 }, x.1)) else
    if is_field 11 I64 id ty then (long_in end bytes >>= λ x. Ok (record draft { dictionary_page = Some x.0 }, x.1)) else
    unknown end draft ty bytes

abbrev pub no_chunk : ChunkDraft
no_chunk = record { meta = None }

unfoldable pub chunk_part : ℕ → ChunkDraft → ℤ → ℕ → List ℕ → Read ChunkDraft
chunk_part end draft id ty bytes =
    if is_field 3 STRUCT id ty then (struct_of chunk_meta_part no_chunk_meta end bytes >>= λ x. Ok (record draft { meta = Some x.0 }, x.1)) else
    unknown end draft ty bytes

abbrev pub no_group : GroupDraft
no_group = record { chunks = None; rows = None }

-- a list is used where its elements are structs
unfoldable pub group_part : ℕ → GroupDraft → ℤ → ℕ → List ℕ → Read GroupDraft
group_part end draft id ty bytes =
    if is_field 1 LIST id ty && begins_list_of STRUCT bytes then (structs_of chunk_part no_chunk end bytes >>= λ x. Ok (record draft { chunks = Some x.0 }, x.1)) else
    if is_field 3 I64 id ty then (long_count_in end bytes >>= λ x. Ok (record draft { rows = Some x.0 }, x.1)) else
    unknown end draft ty bytes

-- ---- the footer

abbrev pub no_footer : FooterDraft
no_footer = record { version = None; schema = None; num_rows = None; groups = None }

unfoldable pub footer_part : ℕ → FooterDraft → ℤ → ℕ → List ℕ → Read FooterDraft
footer_part end draft id ty bytes =
    if is_field 1 I32 id ty then (int_in end bytes >>= λ x. Ok (record draft { version = Some x.0 }, x.1)) else
    if is_field 2 LIST id ty && begins_list_of STRUCT bytes then (structs_of element_part no_element end bytes >>= λ x. Ok (record draft { schema = Some x.0 }, x.1)) else
    if is_field 3 I64 id ty then (long_count_in end bytes >>= λ x. Ok (record draft { num_rows = Some x.0 }, x.1)) else
    if is_field 4 LIST id ty && begins_list_of STRUCT bytes then (structs_of group_part no_group end bytes >>= λ x. Ok (record draft { groups = Some x.0 }, x.1)) else
    unknown end draft ty bytes
