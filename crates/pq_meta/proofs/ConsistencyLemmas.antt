-- The parts of a footer that is read fit together.
use Rattle.std.proofs.Common.{◌≡◌, ◌≢◌, ℕ, ℤ, pos, negsuc, ◌+◌, ◌<◌, ◌≤◌, ◌<ℤ◌, ◌⊎◌, inl, inr, suc, List, [], ◌∷◌, ◌++◌, length, Option, Some, None, Result, Ok, Err, Bool, true, false, refl, sym, ap, ◌∙◌, arith, get_or, length-append, eq-eqb, subst}
use Rattle.std.specs.Prelude.{All, AllPairs, IfOk, nat_lt, ◌==◌, if◌then◌else◌, ⊤}
use Rattle.std.proofs.lemmas.Bool.{or_parts, cases_lt, eqb-true}
use Rattle.std.proofs.lemmas.List.{get_or_append_left}
use Rattle.std.proofs.Math.Seq.{get_or-append_seam}
use Rattle.std.proofs.lemmas.List.Elements.{All-cons, All-head, All-nil, All-push, All-tail}
use Rattle.std.proofs.lemmas.Int.{ints}
use Rattle.std.proofs.lemmas.Str.{IsUtf8-from_is_utf8}
use Rattle.std.specs.Str.{IsUtf8, is_utf8}
use Rattle.thrift_compact.specs.Reading.{Read}
use Rattle.thrift_compact.specs.Structs.{struct_of}
use Rattle.pq_meta.specs.declared.drafts.ElementDraft.{ElementDraft}
use Rattle.pq_meta.specs.declared.drafts.FooterDraft.{FooterDraft}
use Rattle.pq_meta.specs.declared.drafts.GroupDraft.{GroupDraft}
use Rattle.pq_meta.specs.declared.drafts.ChunkDraft.{ChunkDraft}
use Rattle.pq_meta.specs.declared.drafts.ChunkMetaDraft.{ChunkMetaDraft}
use Rattle.answers.proofs.AnswerLemmas.{steps, ok_same}
use Rattle.pq_meta.specs.declared.fault.MetaFault.{MetaFault}
use Rattle.pq_meta.specs.declared.fault.MetaFault.TheVariants as fault
use Rattle.pq_meta.specs.declared.meta.FileMeta.{FileMeta}
use Rattle.pq_meta.specs.declared.meta.MetaColumn.{MetaColumn}
use Rattle.pq_meta.specs.declared.meta.MetaGroup.{MetaGroup}
use Rattle.pq_meta.specs.declared.meta.MetaChunk.{MetaChunk}
use Rattle.answers.specs.Answers.{◌>>=◌, Answers}
use Rattle.pq_meta.specs.Checks.{need, counted, each, is_memory}
use Rattle.pq_meta.specs.Columns.{meaning_of, type_of, known_type, name_of, children_of, optional_of, is_field_of, has_field, field_of, nested_of, leaf_of, column_of, columns_behind, columns_of}
use Rattle.pq_meta.specs.Drafts.{footer_part, no_footer}
use Rattle.pq_meta.specs.Footers.{footer_of, meta_of, read_of}
use Rattle.pq_meta.specs.Groups.{described_of, chunk_of, group_of, rows_of}
use Rattle.pq_meta.proofs.RangeLemmas.{HasShortId, HasShortIds, footer_ids}
use Rattle.pq_meta.specs.Consistency.{OtherField, IsNamed, IsFieldId, HasFieldId, HasValues, FitsColumns, IsConsistent}

-- ---- steps that gave a value

tested : (b : Bool) (e : MetaFault) (u : ⊤) → (if b then Ok tt else Err e) ≡ Ok u → b ≡ true
tested true e u h = refl
tested false e u h = cc

pub counted_equal : (want got : ℕ) (u : ⊤) → counted want got ≡ Ok u → want ≡ got
counted_equal want got u h = eqb-true want got (tested (want == got) (fault.Count want got) u h)

-- what a step makes of each element has a property that each step gives
each_all : {A B : Type 0} (P : B → Type 0) (step : A → Result B MetaFault) (items : List A) (made : List B)
    → ((item : A) (b : B) → step item ≡ Ok b → P b) → each step items ≡ Ok made → All P made
each_all P step [] [] gives h = λ k d lt. absurd (omega arith)
each_all P step [] (b ∷ bs) gives h = cc
each_all {B = B} P step (item ∷ items) made gives h =
    let one = steps (step item) (λ b. each step items >>= λ bs. Ok (b ∷ bs)) made h in
    let others = steps (each step items) (λ bs. Ok (one.value ∷ bs)) made one.later in
    let same : one.value ∷ others.value ≡ made = ok_same (one.value ∷ others.value) made others.later in
    let Q : List B → Type 0 = λ m. All P m in
    subst Q same (All-cons P one.value others.value (gives item one.value one.gives) (each_all P step items others.value gives others.gives))

each_length : {A B : Type 0} (step : A → Result B MetaFault) (items : List A) (made : List B) → each step items ≡ Ok made → length made ≡ length items
each_length step [] [] h = refl
each_length step [] (b ∷ bs) h = cc
each_length {B = B} step (item ∷ items) made h =
    let one = steps (step item) (λ b. each step items >>= λ bs. Ok (b ∷ bs)) made h in
    let others = steps (each step items) (λ bs. Ok (one.value ∷ bs)) made one.later in
    let same : one.value ∷ others.value ≡ made = ok_same (one.value ∷ others.value) made others.later in
    let fewer : length others.value ≡ length items = each_length step items others.value others.gives in
    sym (ap (λ (m : List B). length m) same) ∙ ap (λ (n : ℕ). suc n) fewer

-- ---- groups

described_values : (rows : ℕ) (meta : ChunkMetaDraft) (chunk : MetaChunk) → described_of rows meta ≡ Ok chunk → chunk.num_values ≡ rows
unfolding described_of
described_values rows meta chunk h =
    let physical = steps (need (pos 1) meta.physical) _ chunk h in
    let codec = steps (need (pos 4) meta.codec) _ chunk physical.later in
    let values = steps (need (pos 5) meta.num_values) _ chunk codec.later in
    let size = steps (need (pos 7) meta.length) _ chunk values.later in
    let first = steps (need (pos 9) meta.data_page) _ chunk size.later in
    let compared = steps (counted rows values.value) _ chunk first.later in
    let same = ok_same _ chunk compared.later in
    sym (ap (λ (c : MetaChunk). c.num_values) same) ∙ sym (counted_equal rows values.value compared.value compared.gives)

chunk_values : (rows : ℕ) (draft : ChunkDraft) (chunk : MetaChunk) → chunk_of rows draft ≡ Ok chunk → HasValues rows chunk
unfolding chunk_of
chunk_values rows draft chunk h =
    let meta = steps (need (pos 3) draft.meta) (described_of rows) chunk h in
    described_values rows meta.value chunk meta.later

group_fits : (columns : ℕ) (draft : GroupDraft) (group : MetaGroup) → group_of columns draft ≡ Ok group → FitsColumns columns group
unfolding group_of
group_fits columns draft group h =
    let chunks = steps (need (pos 1) draft.chunks) _ group h in
    let rows = steps (need (pos 3) draft.rows) _ group chunks.later in
    let compared = steps (counted columns (length chunks.value)) _ group rows.later in
    let kept = steps (each (chunk_of rows.value) chunks.value) _ group compared.later in
    let count : length kept.value ≡ columns =
    each_length (chunk_of rows.value) chunks.value kept.value kept.gives ∙ sym (counted_equal columns (length chunks.value) compared.value compared.gives) in
    let values : All (HasValues rows.value) kept.value =
    each_all (HasValues rows.value) (chunk_of rows.value) chunks.value kept.value (chunk_values rows.value) kept.gives in
    let fits : FitsColumns columns (record { rows = rows.value; chunks = kept.value }) = record { count = count; values = values } in
    subst (FitsColumns columns) (ok_same (record { rows = rows.value; chunks = kept.value }) group kept.later) fits

-- ---- columns

some_else : (b : Bool) (i id : ℕ) → (if b then None else Some i) ≡ Some id → (b ≡ false) × (i ≡ id)
some_else true i id h = cc
some_else false i id h = (refl, cc)

field_new : (earlier : List MetaColumn) (field : Option ℤ) (id : ℕ) → field_of earlier field ≡ Some id → has_field earlier id ≡ false
field_new earlier None id h = cc
field_new earlier (Some (negsuc n)) id h = cc
field_new earlier (Some (pos i)) id h =
    let x = some_else (has_field earlier i) i id h in
    let P : ℕ → Type 0 = λ n. has_field earlier n ≡ false in
    subst P x.1 x.0

is_field : (id : ℕ) (field : Option ℕ) → is_field_of id field ≡ false → field ≢ Some id
is_field id field h same =
    let yes : is_field_of id field ≡ true = rw same (eq-eqb id id refl) in
    cc

no_field : (columns : List MetaColumn) (id : ℕ) → has_field columns id ≡ false → All (λ column. column.field ≢ Some id) columns
no_field [] id h = λ k d lt. absurd (omega arith)
no_field (column ∷ columns) id h =
    let x = or_parts (is_field_of id column.field) (has_field columns id) h in
    All-cons (λ (c : MetaColumn). c.field ≢ Some id) column columns (is_field id column.field x.0) (no_field columns id x.1)

other_field : (f g : Option ℕ) → ((id : ℕ) → g ≡ Some id → f ≢ Some id) → (f ≡ None) ⊎ (f ≢ g)
other_field None g h = inl refl
other_field (Some x) None h = inr (λ e. cc)
other_field (Some x) (Some id) h = inr (h id refl)

some_if : (b : Bool) (x y : List ℕ) → (if b then Some x else None) ≡ Some y → (b ≡ true) × (x ≡ y)
some_if true x y h = (refl, cc)
some_if false x y h = cc

name_text : (field : Option (List ℕ)) (name : List ℕ) → name_of field ≡ Some name → IsUtf8 name
name_text None name h = cc
name_text (Some text) name h =
    let x = some_if (is_utf8 text) text name h in
    let P : List ℕ → Type 0 = λ t. IsUtf8 t in
    subst P x.1 (IsUtf8-from_is_utf8 text x.0)

pub needed : {A : Type 0} (id : ℤ) (field : Option A) (x : A) → need id field ≡ Ok x → field ≡ Some x
needed id None x h = cc
needed id (Some y) x h = ap (λ a. Some a) (ok_same y x h)

-- a column's field id is new, and its name a text
record IsLeaf (earlier : List MetaColumn) (element : ElementDraft) (column : MetaColumn) : Type 0 where
  field : column.field ≡ field_of earlier element.field
  name : IsNamed column

leaf_sound : (earlier : List MetaColumn) (element : ElementDraft) (column : MetaColumn) → leaf_of earlier element ≡ Ok column → IsLeaf earlier element column
unfolding leaf_of
leaf_sound earlier element column h =
    let physical = steps (need (pos 1) element.physical) _ column h in
    let repetition = steps (need (pos 3) element.repetition) _ column physical.later in
    let name = steps (need (pos 4) (name_of element.name)) _ column repetition.later in
    let optional = steps (optional_of name.value repetition.value) _ column name.later in
    let t = steps (known_type physical.value (type_of physical.value (meaning_of element.logical element.converted))) _ column optional.later in
    let same = ok_same _ column t.later in
    let text : IsUtf8 name.value = name_text element.name name.value (needed (pos 4) (name_of element.name) name.value name.gives) in
    let P : List ℕ → Type 0 = λ t. IsUtf8 t in
    record { field = sym (ap (λ (c : MetaColumn). c.field) same); name = subst P (ap (λ (c : MetaColumn). c.name) same) text }

column_leaf_if : (b : Bool) (earlier : List MetaColumn) (element : ElementDraft) (column : MetaColumn)
    → (if b then nested_of element else leaf_of earlier element) ≡ Ok column → IsLeaf earlier element column
column_leaf_if false earlier element column h = leaf_sound earlier element column h
column_leaf_if true earlier element column h =
    let name = steps (need (pos 4) (name_of element.name)) _ column h in
    let never = name.later in
    cc

column_leaf : (earlier : List MetaColumn) (element : ElementDraft) (column : MetaColumn) → column_of earlier element ≡ Ok column → IsLeaf earlier element column
unfolding column_of
column_leaf earlier element column h = column_leaf_if (nat_lt 0 (children_of element)) earlier element column h

column_new : (earlier : List MetaColumn) (element : ElementDraft) (column : MetaColumn) → column_of earlier element ≡ Ok column → All (λ other. OtherField other column) earlier
column_new earlier element column h k d lt =
    let is : column.field ≡ field_of earlier element.field = (column_leaf earlier element column h).field in
    other_field (get_or earlier k d).field column.field
    (λ id e. no_field earlier id (field_new earlier element.field id (sym is ∙ e)) k d lt)

pairs_more : (earlier : List MetaColumn) (column : MetaColumn) → AllPairs OtherField earlier → All (λ other. OtherField other column) earlier
    → AllPairs OtherField (earlier ++ column ∷ [])
pairs_more earlier column pairs others i j d lt within =
    let size : length (earlier ++ column ∷ []) ≡ length earlier + 1 = length-append earlier (column ∷ []) in
    elim (cases_lt j (length earlier)) [
      | inl small ↦
          let less : i < length earlier = omega arith in
          rw (get_or_append_left earlier (column ∷ []) d i less, get_or_append_left earlier (column ∷ []) d j small) (pairs i j d lt small)
      | inr big ↦
          let at : j ≡ length earlier = omega arith in
          let less : i < length earlier = omega arith in
          rw (get_or_append_left earlier (column ∷ []) d i less) (rw at (rw (get_or-append_seam earlier column [] d) (others i d less)))
    ]

id_or_none : (b : Bool) (id : ℕ) → id ≤ 2147483647 → IsFieldId (if b then None else Some id)
id_or_none true id small = tt
id_or_none false id small = small

id_kept : (earlier : List MetaColumn) (field : Option ℤ) → ((n : ℤ) → field ≡ Some n → n <ℤ pos 2147483648) → IsFieldId (field_of earlier field)
id_kept earlier None short = tt
id_kept earlier (Some (negsuc n)) short = tt
id_kept earlier (Some (pos id)) short =
    let below : pos id <ℤ pos 2147483648 = short (pos id) refl in
    id_or_none (has_field earlier id) id (omega (arith, ints))

leaf_id : (earlier : List MetaColumn) (element : ElementDraft) (column : MetaColumn) → HasShortId element → IsLeaf earlier element column → HasFieldId column
leaf_id earlier element column short leaf =
    subst IsFieldId (sym leaf.field) (id_kept earlier element.field short.short)

record AreColumns (columns : List MetaColumn) : Type 0 where
  names : All IsNamed columns
  ids : All HasFieldId columns
  fields : AllPairs OtherField columns

columns_more : (earlier : List MetaColumn) (element : ElementDraft) (column : MetaColumn) → AreColumns earlier → HasShortId element → column_of earlier element ≡ Ok column
    → AreColumns (earlier ++ column ∷ [])
columns_more earlier element column are short h = record {
  names = All-push IsNamed earlier column are.names (column_leaf earlier element column h).name;
  ids = All-push HasFieldId earlier column are.ids (leaf_id earlier element column short (column_leaf earlier element column h));
  fields = pairs_more earlier column are.fields (column_new earlier element column h);
}

behind_sound : (earlier : List MetaColumn) (elements : List ElementDraft) (columns : List MetaColumn) → AreColumns earlier → All HasShortId elements → columns_behind earlier elements ≡ Ok columns
    → AreColumns columns
behind_sound earlier [] columns are short h = subst AreColumns (ok_same earlier columns h) are
behind_sound earlier (element ∷ elements) columns are short h =
    let one = steps (column_of earlier element) (λ column. columns_behind (earlier ++ column ∷ []) elements) columns h in
    behind_sound (earlier ++ one.value ∷ []) elements columns
    (columns_more earlier element one.value are (All-head HasShortId element elements short) one.gives) (All-tail HasShortId element elements short) one.later

columns_sound : (schema : List ElementDraft) (columns : List MetaColumn) → All HasShortId schema → columns_of schema ≡ Ok columns → AreColumns columns
unfolding columns_of
columns_sound [] columns short h = cc
columns_sound (root ∷ elements) columns short h =
    let name = steps (need (pos 4) (name_of root.name)) _ columns h in
    let made = steps (columns_behind [] elements) _ columns name.later in
    let compared = steps (counted (children_of root) (length elements)) _ columns made.later in
    let none : AreColumns [] = record { names = All-nil IsNamed; ids = All-nil HasFieldId; fields = λ i j d lt within. absurd (omega arith) } in
    subst AreColumns (ok_same made.value columns compared.later) (behind_sound [] elements made.value none (All-tail HasShortId root elements short) made.gives)

-- ---- the footer

meta_consistent : (draft : FooterDraft) (meta : FileMeta) → HasShortIds draft → meta_of draft ≡ Ok meta → IsConsistent meta
unfolding meta_of
meta_consistent draft meta short h =
    let version = steps (need (pos 1) draft.version) _ meta h in
    let schema = steps (need (pos 2) draft.schema) _ meta version.later in
    let rows = steps (need (pos 3) draft.num_rows) _ meta schema.later in
    let groups = steps (need (pos 4) draft.groups) _ meta rows.later in
    let columns = steps (columns_of schema.value) _ meta groups.later in
    let kept = steps (each (group_of (length columns.value)) groups.value) _ meta columns.later in
    let compared = steps (counted rows.value (rows_of kept.value)) _ meta kept.later in
    let are = columns_sound schema.value columns.value (short.short schema.value (needed (pos 2) draft.schema schema.value schema.gives)) columns.gives in
    let is : IsConsistent (record { columns = columns.value; num_rows = rows.value; groups = kept.value }) = record {
      names = are.names;
      ids = are.ids;
      fields = are.fields;
      groups = each_all (FitsColumns (length columns.value)) (group_of (length columns.value)) groups.value kept.value (group_fits (length columns.value)) kept.gives;
      rows = sym (counted_equal rows.value (rows_of kept.value) compared.value compared.gives);
    } in
    subst IsConsistent (ok_same (record { columns = columns.value; num_rows = rows.value; groups = kept.value }) meta compared.later) is

pub read_some : {A : Type 0} (read : Read A) (x : A) → read_of read ≡ Ok x → (rest : List ℕ) × (read ≡ Ok (x, rest))
read_some (Ok y) x h = let same : y.0 ≡ x = ok_same y.0 x h in (y.1, rw (← same) refl)
read_some (Err e) x h = cc

pub footer_consistent : (bytes : List ℕ) (meta : FileMeta) → footer_of bytes ≡ Ok meta → IsConsistent meta
unfolding footer_of
footer_consistent bytes meta h =
    let draft = steps (read_of (struct_of footer_part no_footer (length bytes) bytes)) meta_of meta h in
    let read = read_some (struct_of footer_part no_footer (length bytes) bytes) draft.value draft.gives in
    meta_consistent draft.value meta (footer_ids (length bytes) bytes (draft.value, read.0) read.1) draft.later

-- what is answered is consistent, if it is a footer
pub answer_consistent : (answer read : Result FileMeta MetaFault) → ((meta : FileMeta) → read ≡ Ok meta → IsConsistent meta) → Answers is_memory answer read → IfOk answer IsConsistent
answer_consistent (Ok meta) read law h = law meta h
answer_consistent (Err e) read law h = tt
