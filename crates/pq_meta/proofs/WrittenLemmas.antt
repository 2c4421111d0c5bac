-- What is written of each struct is read as a draft that says the same.
use Rattle.std.proofs.Common.{◌≡◌, ℕ, ℤ, pos, ◌≤◌, ◌<◌, ◌^◌, List, [], ◌∷◌, ◌++◌, length, Option, Some, None, Ok, Bool, true, false, refl, sym, ap, ◌∙◌, append_assoc, arith, lit<}
use Rattle.std.specs.Prelude.{FitsSigned, All, IfSome, codes}
use Rattle.std.specs.Int.{w32, w64}
use Rattle.std.proofs.lemmas.Int.{ints}
use Rattle.std.proofs.lemmas.List.Elements.{All-tail}
use Rattle.lake_types.specs.declared.value.ColType.{ColType}
use Rattle.lake_types.specs.declared.value.ColType.TheVariants as ty
use Rattle.thrift_compact.specs.Reading.{start_of, signed_in, unsigned_in, number_in, list_header_in, after_value, after_nested, after_each, after_element, after_plain}
use Rattle.thrift_compact.specs.Shortest.{field_spelling, list_spelling, signed_spelling, number_spelling, binary_spelling}
use Rattle.thrift_compact.specs.Reading.{count_in}
use Rattle.thrift_compact.specs.Structs.{struct_of, row_in}
use Rattle.pq_meta.specs.declared.drafts.ElementDraft.{ElementDraft}
use Rattle.pq_meta.specs.declared.drafts.GroupDraft.{GroupDraft}
use Rattle.pq_meta.specs.declared.drafts.ChunkDraft.{ChunkDraft}
use Rattle.pq_meta.specs.declared.drafts.ChunkMetaDraft.{ChunkMetaDraft}
use Rattle.pq_meta.specs.declared.meta.MetaColumn.{MetaColumn}
use Rattle.pq_meta.specs.declared.meta.MetaGroup.{MetaGroup}
use Rattle.pq_meta.specs.declared.meta.MetaChunk.{MetaChunk}
use Rattle.pq_meta.specs.Consistency.{IsFieldId}
use Rattle.pq_meta.specs.Drafts.{element_part, no_element, chunk_meta_part, no_chunk_meta, chunk_part, no_chunk, group_part, no_group}
use Rattle.pq_meta.specs.Spelling.{stop, id_bytes, type_bytes, column_bytes, root_bytes, encodings_bytes, path_bytes, extent_bytes, chunk_meta_bytes, chunk_bytes, chunks_bytes, group_bytes, total_of, physical_of, converted_of, repetition_of, IsColumn, IsExtent, IsGroup, IsPlainChunk}
use Rattle.pq_meta.proofs.FieldLemmas.{ThriftBack, ReadsFields, ReadsValue, field_then, regrouped_read, stop_read, struct_read, structs_read, row_cons, row_nil, begins_list}

-- ---- numbers

fits_i32 : (n : ℕ) → n < 2 ^ 31 → FitsSigned w32 (pos n)
fits_i32 n lt = omega (arith, ints)

fits_i64 : (n : ℕ) → n < 2 ^ 63 → FitsSigned w64 (pos n)
fits_i64 n lt = omega (arith, ints)

count_back_32 : (laws : ThriftBack) (at n : ℕ) (rest : List ℕ) → n < 2 ^ 31 → count_in at (2 ^ 32) (signed_spelling (pos n) ++ rest) ≡ Ok (n, rest)
unfolding count_in
count_back_32 laws at n rest lt = rw (laws.i32 at (pos n) (fits_i32 n lt) rest) refl

pub count_back_64 : (laws : ThriftBack) (at n : ℕ) (rest : List ℕ) → n < 2 ^ 63 → count_in at (2 ^ 64) (signed_spelling (pos n) ++ rest) ≡ Ok (n, rest)
unfolding count_in
count_back_64 laws at n rest lt = rw (laws.i64 at (pos n) (fits_i64 n lt) rest) refl

-- a number of 64 bits that is passed over
long_passed : (laws : ThriftBack) (end n : ℕ) (rest : List ℕ) → n < 2 ^ 63 → after_value end 16 6 (signed_spelling (pos n) ++ rest) ≡ Ok rest
unfolding after_value after_plain
long_passed laws end n rest lt = rw (laws.i64 (start_of end (signed_spelling (pos n) ++ rest)) (pos n) (fits_i64 n lt) rest) refl

-- ---- elements of the schema

abbrev pub with_field : ElementDraft → Option ℕ → ElementDraft
with_field draft None = draft
with_field draft (Some id) = record draft { field = Some (pos id) }

abbrev pub with_type : ElementDraft → Option ℤ → ElementDraft
with_type draft None = draft
with_type draft (Some code) = record draft { converted = Some code }

physical_read : (laws : ThriftBack) (draft : ElementDraft) (z : ℤ) → FitsSigned w32 z → ReadsValue element_part draft (pos 1) 5 (signed_spelling z) (record draft { physical = Some z })
unfolding element_part
physical_read laws draft z fits end rest = rw (laws.i32 (start_of end (signed_spelling z ++ rest)) z fits rest) refl

repetition_read : (laws : ThriftBack) (draft : ElementDraft) (z : ℤ) → FitsSigned w32 z → ReadsValue element_part draft (pos 3) 5 (signed_spelling z) (record draft { repetition = Some z })
unfolding element_part
repetition_read laws draft z fits end rest = rw (laws.i32 (start_of end (signed_spelling z ++ rest)) z fits rest) refl

name_read : (laws : ThriftBack) (draft : ElementDraft) (text : List ℕ) → length text < 2 ^ 32 → ReadsValue element_part draft (pos 4) 8 (binary_spelling text) (record draft { name = Some text })
unfolding element_part
name_read laws draft text lt end rest = rw (laws.binary (start_of end (binary_spelling text ++ rest)) text lt rest) refl

children_read : (laws : ThriftBack) (draft : ElementDraft) (n : ℕ) → n < 2 ^ 31 → ReadsValue element_part draft (pos 5) 5 (signed_spelling (pos n)) (record draft { num_children = Some n })
unfolding element_part
children_read laws draft n lt end rest = rw (count_back_32 laws (start_of end (signed_spelling (pos n) ++ rest)) n rest lt) refl

converted_read : (laws : ThriftBack) (draft : ElementDraft) (z : ℤ) → FitsSigned w32 z → ReadsValue element_part draft (pos 6) 5 (signed_spelling z) (record draft { converted = Some z })
unfolding element_part
converted_read laws draft z fits end rest = rw (laws.i32 (start_of end (signed_spelling z ++ rest)) z fits rest) refl

field_id_read : (laws : ThriftBack) (draft : ElementDraft) (z : ℤ) → FitsSigned w32 z → ReadsValue element_part draft (pos 9) 5 (signed_spelling z) (record draft { field = Some z })
unfolding element_part
field_id_read laws draft z fits end rest = rw (laws.i32 (start_of end (signed_spelling z ++ rest)) z fits rest) refl

id_read : (laws : ThriftBack) (last : ℕ) (draft : ElementDraft) (field : Option ℕ) → last < 9 → IsFieldId field
    → ReadsFields element_part (pos last) draft (id_bytes (pos last) field) (with_field draft field)
id_read laws last draft None lt ok = stop_read laws element_part (pos last) draft
id_read laws last draft (Some id) lt ok =
    field_then laws element_part last 9 5 _ _ _ _ _ lt (lit< tt) (lit< tt) (lit< tt)
    (field_id_read laws draft (pos id) (fits_i32 id (omega arith))) (stop_read laws element_part (pos 9) (record draft { field = Some (pos id) }))

type_read : (laws : ThriftBack) (draft : ElementDraft) (converted : Option ℤ) (field : Option ℕ) → IfSome converted (FitsSigned w32) → IsFieldId field
    → ReadsFields element_part (pos 4) draft (type_bytes converted field) (with_field (with_type draft converted) field)
type_read laws draft None field fits ok = id_read laws 4 draft field (lit< tt) ok
type_read laws draft (Some code) field fits ok =
    field_then laws element_part 4 6 5 _ _ _ _ _ (lit< tt) (lit< tt) (lit< tt) (lit< tt)
    (converted_read laws draft code fits) (id_read laws 6 (record draft { converted = Some code }) field (lit< tt) ok)

physical_fits : (t : ColType) → FitsSigned w32 (physical_of t)
physical_fits ty.Bool = omega (arith, ints)
physical_fits ty.Int8 = omega (arith, ints)
physical_fits ty.Int16 = omega (arith, ints)
physical_fits ty.Int32 = omega (arith, ints)
physical_fits ty.Int64 = omega (arith, ints)
physical_fits ty.Varchar = omega (arith, ints)
physical_fits ty.Blob = omega (arith, ints)
physical_fits ty.Date = omega (arith, ints)

converted_fits : (t : ColType) → IfSome (converted_of t) (FitsSigned w32)
converted_fits ty.Bool = tt
converted_fits ty.Int8 = omega (arith, ints)
converted_fits ty.Int16 = omega (arith, ints)
converted_fits ty.Int32 = tt
converted_fits ty.Int64 = tt
converted_fits ty.Varchar = omega (arith, ints)
converted_fits ty.Blob = tt
converted_fits ty.Date = omega (arith, ints)

repetition_fits : (optional : Bool) → FitsSigned w32 (repetition_of optional)
repetition_fits true = omega (arith, ints)
repetition_fits false = omega (arith, ints)

-- the draft of a column's element before its types
abbrev pub named_of : MetaColumn → ElementDraft
named_of column = record no_element {
  physical = Some (physical_of column.ty);
  repetition = Some (repetition_of column.optional);
  name = Some column.name;
}

abbrev pub id_of : Option ℕ → Option ℤ
id_of None = None
id_of (Some id) = Some (pos id)

-- the draft of a column's element
abbrev pub element_of : MetaColumn → ElementDraft
element_of column = record (named_of column) { converted = converted_of column.ty; field = id_of column.field }

typed : (column : MetaColumn) (converted : Option ℤ) (field : Option ℕ)
    → with_field (with_type (named_of column) converted) field ≡ record (named_of column) { converted = converted; field = id_of field }
typed column None None = refl
typed column None (Some id) = refl
typed column (Some code) None = refl
typed column (Some code) (Some id) = refl

pub column_read : (laws : ThriftBack) (column : MetaColumn) → IsColumn column → ReadsFields element_part (pos 0) no_element (column_bytes column) (element_of column)
unfolding column_bytes
column_read laws column is =
    field_then laws element_part 0 1 5 _ _ _ _ _ (lit< tt) (lit< tt) (lit< tt) (lit< tt) (physical_read laws no_element (physical_of column.ty) (physical_fits column.ty)) (
    field_then laws element_part 1 3 5 _ _ _ _ _ (lit< tt) (lit< tt) (lit< tt) (lit< tt) (repetition_read laws _ (repetition_of column.optional) (repetition_fits column.optional)) (
    field_then laws element_part 3 4 8 _ _ _ _ _ (lit< tt) (lit< tt) (lit< tt) (lit< tt) (name_read laws _ column.name (let small : length column.name ≤ 255 = is.name in omega arith))
    (λ end most rest le. type_read laws (named_of column) (converted_of column.ty) column.field (converted_fits column.ty) is.field end most rest le
    ∙ ap (λ (x : ElementDraft). Ok (x, rest)) (typed column (converted_of column.ty) column.field))))

abbrev pub root_of : ℕ → ElementDraft
root_of columns = record no_element { name = Some (codes "schema"); num_children = Some columns }

pub root_read : (laws : ThriftBack) (columns : ℕ) → columns ≤ 101 → ReadsFields element_part (pos 0) no_element (root_bytes columns) (root_of columns)
unfolding root_bytes
root_read laws columns few =
    field_then laws element_part 0 4 8 _ _ _ _ _ (lit< tt) (lit< tt) (lit< tt) (lit< tt) (name_read laws no_element (codes "schema") (lit< tt)) (
    field_then laws element_part 4 5 5 _ _ _ _ _ (lit< tt) (lit< tt) (lit< tt) (lit< tt) (children_read laws _ columns (omega arith))
    (stop_read laws element_part (pos 5) (root_of columns)))

-- ---- chunks

codec_read : (laws : ThriftBack) (draft : ChunkMetaDraft) (z : ℤ) → FitsSigned w32 z → ReadsValue chunk_meta_part draft (pos 4) 5 (signed_spelling z) (record draft { codec = Some z })
unfolding chunk_meta_part
codec_read laws draft z fits end rest = rw (laws.i32 (start_of end (signed_spelling z ++ rest)) z fits rest) refl

chunk_physical_read : (laws : ThriftBack) (draft : ChunkMetaDraft) (z : ℤ) → FitsSigned w32 z → ReadsValue chunk_meta_part draft (pos 1) 5 (signed_spelling z) (record draft { physical = Some z })
unfolding chunk_meta_part
chunk_physical_read laws draft z fits end rest = rw (laws.i32 (start_of end (signed_spelling z ++ rest)) z fits rest) refl

values_read : (laws : ThriftBack) (draft : ChunkMetaDraft) (n : ℕ) → n < 2 ^ 63 → ReadsValue chunk_meta_part draft (pos 5) 6 (signed_spelling (pos n)) (record draft { num_values = Some n })
unfolding chunk_meta_part
values_read laws draft n lt end rest = rw (count_back_64 laws (start_of end (signed_spelling (pos n) ++ rest)) n rest lt) refl

whole_length_read : (laws : ThriftBack) (draft : ChunkMetaDraft) (n : ℕ) → n < 2 ^ 63 → ReadsValue chunk_meta_part draft (pos 6) 6 (signed_spelling (pos n)) draft
unfolding chunk_meta_part
whole_length_read laws draft n lt end rest = rw (long_passed laws end n rest lt) refl

length_read : (laws : ThriftBack) (draft : ChunkMetaDraft) (n : ℕ) → n < 2 ^ 63 → ReadsValue chunk_meta_part draft (pos 7) 6 (signed_spelling (pos n)) (record draft { length = Some n })
unfolding chunk_meta_part
length_read laws draft n lt end rest = rw (count_back_64 laws (start_of end (signed_spelling (pos n) ++ rest)) n rest lt) refl

page_read : (laws : ThriftBack) (draft : ChunkMetaDraft) (n : ℕ) → n < 2 ^ 63 → ReadsValue chunk_meta_part draft (pos 9) 6 (signed_spelling (pos n)) (record draft { data_page = Some n })
unfolding chunk_meta_part
page_read laws draft n lt end rest = rw (count_back_64 laws (start_of end (signed_spelling (pos n) ++ rest)) n rest lt) refl

encodings_passed : (end : ℕ) (rest : List ℕ) → after_value end 16 9 ((list_spelling 5 2 ++ (signed_spelling (pos 0) ++ signed_spelling (pos 3))) ++ rest) ≡ Ok rest
unfolding after_value after_nested after_each after_element after_plain list_header_in signed_in unsigned_in number_in list_spelling number_spelling
encodings_passed end rest = refl

encodings_read : (draft : ChunkMetaDraft) → ReadsValue chunk_meta_part draft (pos 2) 9 (list_spelling 5 2 ++ (signed_spelling (pos 0) ++ signed_spelling (pos 3))) draft
unfolding chunk_meta_part
encodings_read draft end rest = rw (encodings_passed end rest) refl

path_passed : (laws : ThriftBack) (end : ℕ) (name rest : List ℕ) → length name < 2 ^ 32 → after_value end 16 9 ((list_spelling 8 1 ++ binary_spelling name) ++ rest) ≡ Ok rest
unfolding after_value after_nested after_each after_element after_plain list_header_in list_spelling
path_passed laws end name rest lt = rw (laws.binary (start_of end (binary_spelling name ++ rest)) name lt rest) refl

path_read : (laws : ThriftBack) (draft : ChunkMetaDraft) (name : List ℕ) → length name < 2 ^ 32 → ReadsValue chunk_meta_part draft (pos 3) 9 (list_spelling 8 1 ++ binary_spelling name) draft
unfolding chunk_meta_part
path_read laws draft name lt end rest = rw (path_passed laws end name rest lt) refl

-- the draft of a chunk's metadata up to its codec
abbrev pub begun_of : MetaColumn → MetaChunk → ChunkMetaDraft
begun_of column chunk = record no_chunk_meta { physical = Some (physical_of column.ty); codec = Some chunk.codec }

abbrev pub chunk_meta_of : MetaColumn → MetaChunk → ChunkMetaDraft
chunk_meta_of column chunk = record (begun_of column chunk) {
  num_values = Some chunk.num_values;
  length = Some chunk.length;
  data_page = Some chunk.first;
}

extent_read : (laws : ThriftBack) (column : MetaColumn) (chunk : MetaChunk) → IsExtent chunk
    → ReadsFields chunk_meta_part (pos 4) (begun_of column chunk) (extent_bytes chunk) (chunk_meta_of column chunk)
unfolding extent_bytes
extent_read laws column chunk is =
    field_then laws chunk_meta_part 4 5 6 _ _ _ _ _ (lit< tt) (lit< tt) (lit< tt) (lit< tt) (values_read laws (begun_of column chunk) chunk.num_values is.values) (
    field_then laws chunk_meta_part 5 6 6 _ _ _ _ _ (lit< tt) (lit< tt) (lit< tt) (lit< tt) (whole_length_read laws _ chunk.length is.size) (
    field_then laws chunk_meta_part 6 7 6 _ _ _ _ _ (lit< tt) (lit< tt) (lit< tt) (lit< tt) (length_read laws _ chunk.length is.size) (
    field_then laws chunk_meta_part 7 9 6 _ _ _ _ _ (lit< tt) (lit< tt) (lit< tt) (lit< tt) (page_read laws _ chunk.first is.first)
    (stop_read laws chunk_meta_part (pos 9) (chunk_meta_of column chunk)))))

-- a header with the first piece of a value, and then the rest of the value
regrouped : (header a b more : List ℕ) → ((header ++ a) ++ b) ++ more ≡ (header ++ (a ++ b)) ++ more
regrouped header a b more = simp append_assoc

pub list_regrouped : (header a b more : List ℕ) → (header ++ a) ++ (b ++ more) ≡ (header ++ (a ++ b)) ++ more
list_regrouped header a b more = simp append_assoc

pub chunk_meta_read : (laws : ThriftBack) (column : MetaColumn) (chunk : MetaChunk) → IsColumn column → IsExtent chunk → FitsSigned w32 chunk.codec
    → ReadsFields chunk_meta_part (pos 0) no_chunk_meta (chunk_meta_bytes column chunk) (chunk_meta_of column chunk)
unfolding chunk_meta_bytes encodings_bytes path_bytes
chunk_meta_read laws column chunk is extent fits =
    let small : length column.name < 2 ^ 32 = (let le : length column.name ≤ 255 = is.name in omega arith) in
    field_then laws chunk_meta_part 0 1 5 _ _ _ _ _ (lit< tt) (lit< tt) (lit< tt) (lit< tt) (chunk_physical_read laws no_chunk_meta (physical_of column.ty) (physical_fits column.ty)) (
    regrouped_read chunk_meta_part (pos 1) _ _ _ _ (regrouped (field_spelling (pos 1) (pos 2) 9) (list_spelling 5 2) (signed_spelling (pos 0) ++ signed_spelling (pos 3)) _) (
    field_then laws chunk_meta_part 1 2 9 _ _ _ _ _ (lit< tt) (lit< tt) (lit< tt) (lit< tt) (encodings_read _) (
    regrouped_read chunk_meta_part (pos 2) _ _ _ _ (regrouped (field_spelling (pos 2) (pos 3) 9) (list_spelling 8 1) (binary_spelling column.name) _) (
    field_then laws chunk_meta_part 2 3 9 _ _ _ _ _ (lit< tt) (lit< tt) (lit< tt) (lit< tt) (path_read laws _ column.name small) (
    field_then laws chunk_meta_part 3 4 5 _ _ _ _ _ (lit< tt) (lit< tt) (lit< tt) (lit< tt) (codec_read laws _ chunk.codec fits)
    (extent_read laws column chunk extent))))))

first_passed : (laws : ThriftBack) (draft : ChunkDraft) (n : ℕ) → n < 2 ^ 63 → ReadsValue chunk_part draft (pos 2) 6 (signed_spelling (pos n)) draft
unfolding chunk_part
first_passed laws draft n lt end rest = rw (long_passed laws end n rest lt) refl

meta_read : (draft : ChunkDraft) (bytes : List ℕ) (made : ChunkMetaDraft) → ReadsFields chunk_meta_part (pos 0) no_chunk_meta bytes made
    → ReadsValue chunk_part draft (pos 3) 12 bytes (record draft { meta = Some made })
unfolding chunk_part
meta_read draft bytes made reads end rest = rw (struct_read chunk_meta_part no_chunk_meta made bytes end rest reads) refl

abbrev pub chunk_draft_of : MetaColumn → MetaChunk → ChunkDraft
chunk_draft_of column chunk = record { meta = Some (chunk_meta_of column chunk) }

pub chunk_read : (laws : ThriftBack) (column : MetaColumn) (chunk : MetaChunk) → IsColumn column → IsExtent chunk → FitsSigned w32 chunk.codec
    → ReadsFields chunk_part (pos 0) no_chunk (chunk_bytes column chunk) (chunk_draft_of column chunk)
unfolding chunk_bytes
chunk_read laws column chunk is extent fits =
    field_then laws chunk_part 0 2 6 _ _ _ _ _ (lit< tt) (lit< tt) (lit< tt) (lit< tt) (first_passed laws no_chunk chunk.first extent.first) (
    regrouped_read chunk_part (pos 2) _ _ _ _ (sym (append_assoc (field_spelling (pos 2) (pos 3) 12) (chunk_meta_bytes column chunk) stop)) (
    field_then laws chunk_part 2 3 12 _ _ _ _ _ (lit< tt) (lit< tt) (lit< tt) (lit< tt)
    (meta_read no_chunk (chunk_meta_bytes column chunk) (chunk_meta_of column chunk) (chunk_meta_read laws column chunk is extent fits))
    (stop_read laws chunk_part (pos 3) (chunk_draft_of column chunk))))

-- ---- groups

abbrev pub chunk_drafts_of : List MetaColumn → List MetaChunk → List ChunkDraft
chunk_drafts_of (column ∷ columns) (chunk ∷ chunks) = chunk_draft_of column chunk ∷ chunk_drafts_of columns chunks
chunk_drafts_of columns chunks = []

abbrev pub FitsCodec : MetaChunk → Type 0
FitsCodec chunk = FitsSigned w32 chunk.codec

pub chunks_read : (laws : ThriftBack) (columns : List MetaColumn) (chunks : List MetaChunk) (end : ℕ) (rest : List ℕ)
    → length chunks ≡ length columns → All IsColumn columns → All IsExtent chunks → All FitsCodec chunks
    → row_in (struct_of chunk_part no_chunk end) (length chunks) (chunks_bytes columns chunks ++ rest) ≡ Ok (chunk_drafts_of columns chunks, rest)
chunks_read laws [] [] end rest same are extents fit = row_nil (struct_of chunk_part no_chunk end) rest
chunks_read laws [] (chunk ∷ chunks) end rest same are extents fit = absurd (omega arith)
chunks_read laws (column ∷ columns) [] end rest same are extents fit = absurd (omega arith)
chunks_read laws (column ∷ columns) (chunk ∷ chunks) end rest same are extents fit =
    let fewer : length chunks ≡ length columns = omega arith in
    row_cons (struct_of chunk_part no_chunk end) (length chunks) (chunk_bytes column chunk) (chunks_bytes columns chunks) rest
    (chunk_draft_of column chunk) (chunk_drafts_of columns chunks)
    (struct_read chunk_part no_chunk (chunk_draft_of column chunk) (chunk_bytes column chunk) end (chunks_bytes columns chunks ++ rest)
    (chunk_read laws column chunk (are 0 column (omega arith)) (extents 0 chunk (omega arith)) (fit 0 chunk (omega arith))))
    (chunks_read laws columns chunks end rest fewer (All-tail IsColumn column columns are) (All-tail IsExtent chunk chunks extents) (All-tail FitsCodec chunk chunks fit))

group_chunks_read : (laws : ThriftBack) (draft : GroupDraft) (size : ℕ) (bytes : List ℕ) (made : List ChunkDraft) → size < 2 ^ 32
    → ((end : ℕ) (rest : List ℕ) → row_in (struct_of chunk_part no_chunk end) size (bytes ++ rest) ≡ Ok (made, rest))
    → ReadsValue group_part draft (pos 1) 9 (list_spelling 12 size ++ bytes) (record draft { chunks = Some made })
unfolding group_part
group_chunks_read laws draft size bytes made lt reads end rest =
    rw (append_assoc (list_spelling 12 size) bytes rest) (rw (begins_list size (bytes ++ rest))
    (rw (structs_read laws chunk_part no_chunk size bytes made end rest lt (reads end rest)) refl))

total_passed : (laws : ThriftBack) (draft : GroupDraft) (n : ℕ) → n < 2 ^ 63 → ReadsValue group_part draft (pos 2) 6 (signed_spelling (pos n)) draft
unfolding group_part
total_passed laws draft n lt end rest = rw (long_passed laws end n rest lt) refl

group_rows_read : (laws : ThriftBack) (draft : GroupDraft) (n : ℕ) → n < 2 ^ 63 → ReadsValue group_part draft (pos 3) 6 (signed_spelling (pos n)) (record draft { rows = Some n })
unfolding group_part
group_rows_read laws draft n lt end rest = rw (count_back_64 laws (start_of end (signed_spelling (pos n) ++ rest)) n rest lt) refl

abbrev pub group_draft_of : List MetaColumn → MetaGroup → GroupDraft
group_draft_of columns group = record { chunks = Some (chunk_drafts_of columns group.chunks); rows = Some group.rows }

plain_fits : (rows : ℕ) (chunks : List MetaChunk) → All (IsPlainChunk rows) chunks → All FitsCodec chunks
plain_fits rows chunks plain k d lt = rw ((plain k d lt).0) (omega (arith, ints))

pub group_read : (laws : ThriftBack) (columns : List MetaColumn) (group : MetaGroup) → length columns ≤ 101 → All IsColumn columns → IsGroup (length columns) group
    → ReadsFields group_part (pos 0) no_group (group_bytes columns group) (group_draft_of columns group)
unfolding group_bytes
group_read laws columns group few are is =
    let size : length group.chunks < 2 ^ 32 = (let same : length group.chunks ≡ length columns = is.count in omega arith) in
    regrouped_read group_part (pos 0) _ _ _ _ (list_regrouped (field_spelling (pos 0) (pos 1) 9) (list_spelling 12 (length group.chunks)) (chunks_bytes columns group.chunks) _) (
    field_then laws group_part 0 1 9 _ _ _ _ _ (lit< tt) (lit< tt) (lit< tt) (lit< tt)
    (group_chunks_read laws no_group (length group.chunks) (chunks_bytes columns group.chunks) (chunk_drafts_of columns group.chunks) size
    (λ end rest. chunks_read laws columns group.chunks end rest is.count are is.extents (plain_fits group.rows group.chunks is.plain))) (
    field_then laws group_part 1 2 6 _ _ _ _ _ (lit< tt) (lit< tt) (lit< tt) (lit< tt) (total_passed laws _ (total_of group.chunks) is.total) (
    field_then laws group_part 2 3 6 _ _ _ _ _ (lit< tt) (lit< tt) (lit< tt) (lit< tt) (group_rows_read laws _ group.rows is.rows)
    (stop_read laws group_part (pos 3) (group_draft_of columns group)))))
