-- The drafts of what is written say what was written.
use Rattle.std.proofs.Common.{◌≡◌, ◌≢◌, ℕ, ◌<◌, ◌^◌, ◌⊎◌, inl, inr, zero, suc, List, [], ◌∷◌, ◌++◌, length, map, Option, Some, None, Ok, Bool, true, false, refl, sym, ap, ◌∙◌, append_assoc, arith, get_or, eq-eqb, lit<, length-append}
use Rattle.std.specs.Prelude.{All, AllPairs, codes, sum_by}
use Rattle.std.specs.Str.{IsAscii, IsUtf8, is_utf8}
use Rattle.std.proofs.lemmas.Str.{IsUtf8-from_ascii, is_utf8-from_IsUtf8}
use Rattle.std.proofs.lemmas.List.{append-nil, get_or_append_left}
use Rattle.std.proofs.Math.Seq.{get_or-append_seam}
use Rattle.std.proofs.lemmas.List.Elements.{All-tail}
use Rattle.std.proofs.lemmas.List.Folds.{list_any_none}
use Rattle.lake_types.specs.declared.value.ColType.{ColType}
use Rattle.lake_types.specs.declared.value.ColType.TheVariants as ty
use Rattle.pq_meta.specs.declared.meta.MetaColumn.{MetaColumn}
use Rattle.pq_meta.specs.declared.meta.MetaGroup.{MetaGroup}
use Rattle.pq_meta.specs.declared.meta.MetaChunk.{MetaChunk}
use Rattle.pq_meta.specs.Checks.{counted, each}
use Rattle.pq_meta.specs.Columns.{meaning_of, meaning_of_converted, type_of, optional_of, is_field_of, has_field, field_of, leaf_of, column_of, columns_behind, columns_of}
use Rattle.pq_meta.specs.Groups.{described_of, chunk_of, group_of, rows_of}
use Rattle.pq_meta.specs.Consistency.{IsNamed, OtherField}
use Rattle.pq_meta.specs.Spelling.{physical_of, converted_of, repetition_of, IsPlainChunk, IsGroup}
use Rattle.pq_meta.proofs.WrittenLemmas.{id_of, element_of, root_of, chunk_draft_of, chunk_drafts_of, group_draft_of}

pub counted_same : (n : ℕ) → counted n n ≡ Ok tt
counted_same n = rw (eq-eqb n n refl) refl

-- ---- columns

type_back : (t : ColType) → type_of (physical_of t) (meaning_of None (converted_of t)) ≡ Some t
unfolding type_of meaning_of_converted
type_back ty.Bool = refl
type_back ty.Int8 = refl
type_back ty.Int16 = refl
type_back ty.Int32 = refl
type_back ty.Int64 = refl
type_back ty.Varchar = refl
type_back ty.Blob = refl
type_back ty.Date = refl

optional_back : (name : List ℕ) (optional : Bool) → optional_of name (repetition_of optional) ≡ Ok optional
unfolding optional_of
optional_back name true = refl
optional_back name false = refl

not_field : (id : ℕ) (field : Option ℕ) → (field ≡ None) ⊎ (field ≢ Some id) → is_field_of id field ≡ false
not_field id None other = refl
not_field id (Some n) (inl none) = cc
not_field id (Some n) (inr other) =
    let ne : n ≢ id = λ e. other (ap (λ (x : ℕ). Some x) e) in grind arith

field_back : (earlier : List MetaColumn) (field : Option ℕ) → All (λ column. (column.field ≡ None) ⊎ (column.field ≢ field)) earlier → field_of earlier (id_of field) ≡ field
field_back earlier None others = refl
field_back earlier (Some id) others =
    let new : has_field earlier id ≡ false =
    list_any_none (λ (column : MetaColumn). is_field_of id column.field) earlier (λ k d lt. not_field id (get_or earlier k d).field (others k d lt)) in
    rw new refl

column_back : (earlier : List MetaColumn) (column : MetaColumn) → IsUtf8 column.name → All (λ other. OtherField other column) earlier
    → column_of earlier (element_of column) ≡ Ok column
unfolding column_of leaf_of
column_back earlier column text others =
    rw (is_utf8-from_IsUtf8 column.name text) (rw (optional_back column.name column.optional) (rw (type_back column.ty) (rw (field_back earlier column.field others) refl)))

-- the columns before one have other field ids
before : (earlier : List MetaColumn) (column : MetaColumn) (columns : List MetaColumn) → AllPairs OtherField (earlier ++ column ∷ columns) → All (λ other. OtherField other column) earlier
before earlier column columns pairs k d lt =
    let within : length earlier < length (earlier ++ column ∷ columns) = omega (arith, length-append earlier (column ∷ columns)) in
    let pair : OtherField (get_or (earlier ++ column ∷ columns) k d) (get_or (earlier ++ column ∷ columns) (length earlier) d) = pairs k (length earlier) d lt within in
    rw (get_or_append_left earlier (column ∷ columns) d k lt, get_or-append_seam earlier column columns d) at pair

behind_back : (earlier columns : List MetaColumn) → AllPairs OtherField (earlier ++ columns) → All IsNamed columns
    → columns_behind earlier (map element_of columns) ≡ Ok (earlier ++ columns)
behind_back earlier [] pairs texts = ap (λ (x : List MetaColumn). Ok x) (sym (append-nil earlier))
behind_back earlier (column ∷ columns) pairs texts =
    let one : column_of earlier (element_of column) ≡ Ok column = column_back earlier column (texts 0 column (omega arith)) (before earlier column columns pairs) in
    let regrouped : (earlier ++ column ∷ []) ++ columns ≡ earlier ++ column ∷ columns = append_assoc earlier (column ∷ []) columns in
    let others : AllPairs OtherField ((earlier ++ column ∷ []) ++ columns) = rw regrouped pairs in
    rw one (behind_back (earlier ++ column ∷ []) columns others (All-tail IsNamed column columns texts) ∙ ap (λ (x : List MetaColumn). Ok x) regrouped)

schema_ascii : IsAscii (codes "schema")
schema_ascii zero = lit< tt
schema_ascii (suc zero) = lit< tt
schema_ascii (suc (suc zero)) = lit< tt
schema_ascii (suc (suc (suc zero))) = lit< tt
schema_ascii (suc (suc (suc (suc zero)))) = lit< tt
schema_ascii (suc (suc (suc (suc (suc zero))))) = lit< tt
schema_ascii (suc (suc (suc (suc (suc (suc k)))))) = lit< tt

schema_text : is_utf8 (codes "schema") ≡ true
schema_text = is_utf8-from_IsUtf8 (codes "schema") (IsUtf8-from_ascii (codes "schema") schema_ascii)

length-map_element : (columns : List MetaColumn) → length (map element_of columns) ≡ length columns
length-map_element [] = refl
length-map_element (column ∷ columns) = ap (λ (n : ℕ). suc n) (length-map_element columns)

pub columns_back : (columns : List MetaColumn) → AllPairs OtherField columns → All IsNamed columns
    → columns_of (root_of (length columns) ∷ map element_of columns) ≡ Ok columns
unfolding columns_of
columns_back columns pairs texts =
    rw schema_text (rw (behind_back [] columns pairs texts) (rw (length-map_element columns) (rw (counted_same (length columns)) refl)))

-- ---- groups

chunk_back : (rows : ℕ) (column : MetaColumn) (chunk : MetaChunk) → IsPlainChunk rows chunk → chunk_of rows (chunk_draft_of column chunk) ≡ Ok chunk
unfolding chunk_of described_of
chunk_back rows column chunk plain = rw plain.1 (rw (counted_same rows) (rw (← plain.1) refl))

chunks_back : (rows : ℕ) (columns : List MetaColumn) (chunks : List MetaChunk) → length chunks ≡ length columns → All (IsPlainChunk rows) chunks
    → each (chunk_of rows) (chunk_drafts_of columns chunks) ≡ Ok chunks
chunks_back rows [] [] same plain = refl
chunks_back rows [] (chunk ∷ chunks) same plain = absurd (omega arith)
chunks_back rows (column ∷ columns) [] same plain = absurd (omega arith)
chunks_back rows (column ∷ columns) (chunk ∷ chunks) same plain =
    let fewer : length chunks ≡ length columns = omega arith in
    rw (chunk_back rows column chunk (plain 0 chunk (omega arith)))
    (rw (chunks_back rows columns chunks fewer (All-tail (IsPlainChunk rows) chunk chunks plain)) refl)

length-chunk_drafts : (columns : List MetaColumn) (chunks : List MetaChunk) → length chunks ≡ length columns → length (chunk_drafts_of columns chunks) ≡ length columns
length-chunk_drafts [] [] same = refl
length-chunk_drafts [] (chunk ∷ chunks) same = refl
length-chunk_drafts (column ∷ columns) [] same = absurd (omega arith)
length-chunk_drafts (column ∷ columns) (chunk ∷ chunks) same =
    let fewer : length chunks ≡ length columns = omega arith in ap (λ (n : ℕ). suc n) (length-chunk_drafts columns chunks fewer)

group_back : (columns : List MetaColumn) (group : MetaGroup) → IsGroup (length columns) group → group_of (length columns) (group_draft_of columns group) ≡ Ok group
unfolding group_of
group_back columns group is =
    rw (length-chunk_drafts columns group.chunks is.count) (rw (counted_same (length columns))
    (rw (chunks_back group.rows columns group.chunks is.count is.plain) refl))

pub groups_back : (columns : List MetaColumn) (groups : List MetaGroup) → All (IsGroup (length columns)) groups
    → each (group_of (length columns)) (map (group_draft_of columns) groups) ≡ Ok groups
groups_back columns [] are = refl
groups_back columns (group ∷ groups) are =
    rw (group_back columns group (are 0 group (omega arith)))
    (rw (groups_back columns groups (All-tail (IsGroup (length columns)) group groups are)) refl)

pub rows_back : (groups : List MetaGroup) (rows : ℕ) → sum_by (λ (group : MetaGroup). group.rows) groups ≡ rows → rows < 2 ^ 63 → counted rows (rows_of groups) ≡ Ok tt
rows_back groups rows sums lt =
    let same : rows_of groups ≡ rows = omega (arith, sums) in
    rw same (counted_same rows)
