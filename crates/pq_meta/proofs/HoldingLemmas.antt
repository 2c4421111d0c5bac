-- A footer is read of bytes exactly where they begin with it.
use Rattle.std.proofs.Common.{◌≡◌, ℕ, ℤ, pos, ◌≤◌, ◌⊎◌, inl, inr, ◌↔◌, List, [], ◌∷◌, ◌++◌, length, Option, Some, None, Result, Ok, Err, Bool, true, false, refl, sym, ap, subst, ◌∙◌, append_assoc, append-nil, eq-eqb, arith}
use Rattle.std.specs.Prelude.{nat_lt, if◌then◌else◌}
use Rattle.std.specs.List.{AllZip}
use Rattle.std.specs.Ordering.{int_eq}
use Rattle.std.proofs.lemmas.Bool.{le-ltb, ltb-false}
use Rattle.std.proofs.lemmas.Bool.Decides.{Decides-int_eq}
use Rattle.lake_types.specs.declared.value.ColType.{ColType}
use Rattle.thrift_compact.specs.Structs.{struct_of}
use Rattle.pq_meta.specs.declared.codes.TheConstants.{OPTIONAL, REQUIRED}
use Rattle.pq_meta.specs.declared.drafts.ChunkDraft.{ChunkDraft}
use Rattle.pq_meta.specs.declared.drafts.ElementDraft.{ElementDraft}
use Rattle.pq_meta.specs.declared.drafts.GroupDraft.{GroupDraft}
use Rattle.pq_meta.specs.declared.fault.MetaFault.{MetaFault}
use Rattle.pq_meta.specs.declared.fault.MetaFault.TheVariants as fault
use Rattle.pq_meta.specs.declared.meta.FileMeta.{FileMeta}
use Rattle.pq_meta.specs.declared.meta.MetaChunk.{MetaChunk}
use Rattle.pq_meta.specs.declared.meta.MetaColumn.{MetaColumn}
use Rattle.pq_meta.specs.declared.meta.MetaGroup.{MetaGroup}
use Rattle.answers.specs.Answers.{Answers, ◌>>=◌}
use Rattle.pq_meta.specs.Checks.{counted, each, need, is_memory}
use Rattle.pq_meta.specs.Columns.{children_of, column_of, columns_behind, columns_of, field_of, known_type, leaf_of, meaning_of, name_of, nested_of, optional_of, type_of}
use Rattle.pq_meta.specs.Drafts.{footer_part, no_footer}
use Rattle.pq_meta.specs.Footers.{footer_of, meta_of, read_of}
use Rattle.pq_meta.specs.Groups.{chunk_of, described_of, first_of, group_of, rows_of}
use Rattle.pq_meta.specs.Holding.{AnswersFooter, IsFooter, SayColumns, SaysChunk, SaysColumn, SaysGroup, SaysSchema}
use Rattle.pq_meta.specs.Spelling.{repetition_of}
use Rattle.answers.proofs.AnswerLemmas.{decides, ok_same, steps}
use Rattle.pq_meta.proofs.ConsistencyLemmas.{counted_equal, needed, read_some}

counted_same : (want got : ℕ) → want ≡ got → counted want got ≡ Ok tt
counted_same want got same = rw (eq-eqb want got same) refl

-- ---- Each of a list

each_held : {A B : Type 0} (R : A → B → Type 0) (step : A → Result B MetaFault) (items : List A) (made : List B) → ((item : A) (b : B) → step item ≡ Ok b → R item b)
    → each step items ≡ Ok made → AllZip R items made
each_held R step [] [] gives h = tt
each_held R step [] (b ∷ bs) gives h = cc
each_held {B = B} R step (item ∷ items) made gives h =
    let one = steps (step item) (λ b. each step items >>= λ bs. Ok (b ∷ bs)) made h in
    let others = steps (each step items) (λ bs. Ok (one.value ∷ bs)) made one.later in
    let same : one.value ∷ others.value ≡ made = ok_same (one.value ∷ others.value) made others.later in
    let Q : List B → Type 0 = λ m. AllZip R (item ∷ items) m in
    subst Q same (gives item one.value one.gives, each_held R step items others.value gives others.gives)

each_found : {A B : Type 0} (R : A → B → Type 0) (step : A → Result B MetaFault) (items : List A) (made : List B) → ((item : A) (b : B) → R item b → step item ≡ Ok b)
    → AllZip R items made → each step items ≡ Ok made
each_found R step [] [] found are = refl
each_found R step [] (b ∷ bs) found are = absurd are
each_found R step (item ∷ items) [] found are = absurd are
each_found R step (item ∷ items) (b ∷ bs) found are = rw (found item b are.0, each_found R step items bs found are.1) refl

-- ---- Columns

chosen : (b c : Bool) (e : MetaFault) (optional : Bool) → (if b then Ok false else if c then Ok true else Err e) ≡ Ok optional → ((b ≡ true) × (optional ≡ false)) ⊎ ((c ≡ true) × (optional ≡ true))
chosen true c e optional h = inl (refl, sym (ok_same false optional h))
chosen false true e optional h = inr (refl, sym (ok_same true optional h))
chosen false false e optional h = cc

repetition_held : (name : List ℕ) (repetition : ℤ) (optional : Bool) → optional_of name repetition ≡ Ok optional → repetition ≡ repetition_of optional
unfolding optional_of
repetition_held name repetition optional h =
    elim (chosen (int_eq repetition REQUIRED) (int_eq repetition OPTIONAL) (fault.Nested name) optional h) [
      | inl a ↦ (Decides-int_eq repetition REQUIRED).0 a.0 ∙ ap repetition_of (sym a.1)
      | inr a ↦ (Decides-int_eq repetition OPTIONAL).0 a.0 ∙ ap repetition_of (sym a.1)
    ]

repetition_found : (name : List ℕ) (optional : Bool) → optional_of name (repetition_of optional) ≡ Ok optional
unfolding optional_of
repetition_found name true = refl
repetition_found name false = refl

known_held : (physical : ℤ) (found : Option ColType) (t : ColType) → known_type physical found ≡ Ok t → found ≡ Some t
known_held physical None t h = cc
known_held physical (Some u) t h = ap (λ (x : ColType). Some x) (ok_same u t h)

leaf_held : (earlier : List MetaColumn) (element : ElementDraft) (column : MetaColumn) → children_of element ≡ 0 → leaf_of earlier element ≡ Ok column → SaysColumn earlier element column
unfolding leaf_of
leaf_held earlier element column leaf h =
    let physical = steps (need (pos 1) element.physical) _ column h in
    let repetition = steps (need (pos 3) element.repetition) _ column physical.later in
    let name = steps (need (pos 4) (name_of element.name)) _ column repetition.later in
    let optional = steps (optional_of name.value repetition.value) _ column name.later in
    let t = steps (known_type physical.value (type_of physical.value (meaning_of element.logical element.converted))) _ column optional.later in
    let made : MetaColumn = record { name = name.value; field = field_of earlier element.field; ty = t.value; optional = optional.value } in
    let is : SaysColumn earlier element made = record {
      leaf = leaf;
      name = needed (pos 4) (name_of element.name) name.value name.gives;
      field = refl;
      optional = needed (pos 3) element.repetition repetition.value repetition.gives
          ∙ ap (λ (x : ℤ). Some x) (repetition_held name.value repetition.value optional.value optional.gives);
      physical = physical.value;
      stated = needed (pos 1) element.physical physical.value physical.gives;
      ty = known_held physical.value (type_of physical.value (meaning_of element.logical element.converted)) t.value t.gives;
    } in
    subst (SaysColumn earlier element) (ok_same made column t.later) is

column_held_if : (b : Bool) (earlier : List MetaColumn) (element : ElementDraft) (column : MetaColumn) → nat_lt 0 (children_of element) ≡ b
    → (if b then nested_of element else leaf_of earlier element) ≡ Ok column → SaysColumn earlier element column
column_held_if true earlier element column is h =
    let name = steps (need (pos 4) (name_of element.name)) _ column h in
    let never = name.later in
    cc
column_held_if false earlier element column is h =
    let none : children_of element ≤ 0 = ltb-false 0 (children_of element) is in
    leaf_held earlier element column (omega (arith, none)) h

column_held : (earlier : List MetaColumn) (element : ElementDraft) (column : MetaColumn) → column_of earlier element ≡ Ok column → SaysColumn earlier element column
unfolding column_of
column_held earlier element column h = column_held_if (nat_lt 0 (children_of element)) earlier element column refl h

column_found : (earlier : List MetaColumn) (element : ElementDraft) (column : MetaColumn) → SaysColumn earlier element column → column_of earlier element ≡ Ok column
unfolding column_of leaf_of
column_found earlier element column is =
    let leaf : children_of element ≡ 0 = is.leaf in
    let none : nat_lt 0 (children_of element) ≡ false = le-ltb _ _ (omega (arith, leaf)) in
    let field : field_of earlier element.field ≡ column.field = sym is.field in
    rw (none, is.stated, is.optional, is.name, repetition_found column.name column.optional, is.ty, field) refl

-- columns that were read, behind earlier ones
record ColumnsHeld (earlier : List MetaColumn) (elements : List ElementDraft) (columns : List MetaColumn) : Type 0 where
  new : List MetaColumn
  same : earlier ++ new ≡ columns
  are : SayColumns earlier elements new

columns_held : (earlier : List MetaColumn) (elements : List ElementDraft) (columns : List MetaColumn) → columns_behind earlier elements ≡ Ok columns → ColumnsHeld earlier elements columns
columns_held earlier [] columns h = record { new = []; same = append-nil earlier ∙ ok_same earlier columns h; are = tt }
columns_held earlier (element ∷ elements) columns h =
    let one = steps (column_of earlier element) (λ column. columns_behind (earlier ++ column ∷ []) elements) columns h in
    let more = columns_held (earlier ++ one.value ∷ []) elements columns one.later in
    record {
      new = one.value ∷ more.new;
      same = sym (append_assoc earlier (one.value ∷ []) more.new) ∙ more.same;
      are = (column_held earlier element one.value one.gives, more.are);
    }

columns_found : (earlier : List MetaColumn) (elements : List ElementDraft) (new : List MetaColumn) → SayColumns earlier elements new → columns_behind earlier elements ≡ Ok (earlier ++ new)
columns_found earlier [] [] are = ap (λ (columns : List MetaColumn). Ok columns) (sym (append-nil earlier))
columns_found earlier [] (column ∷ columns) are = absurd are
columns_found earlier (element ∷ elements) [] are = absurd are
columns_found earlier (element ∷ elements) (column ∷ columns) are =
    rw (column_found earlier element column are.0)
    (columns_found (earlier ++ column ∷ []) elements columns are.1 ∙ ap (λ (all : List MetaColumn). Ok all) (append_assoc earlier (column ∷ []) columns))

schema_held : (elements : List ElementDraft) (columns : List MetaColumn) → columns_of elements ≡ Ok columns → SaysSchema elements columns
unfolding columns_of
schema_held [] columns h = cc
schema_held (root ∷ children) columns h =
    let name = steps (need (pos 4) (name_of root.name)) _ columns h in
    let made = steps (columns_behind [] children) _ columns name.later in
    let compared = steps (counted (children_of root) (length children)) _ columns made.later in
    let held = columns_held [] children made.value made.gives in
    record {
      root = root;
      children = children;
      parts = refl;
      name = name.value;
      named = needed (pos 4) (name_of root.name) name.value name.gives;
      counted = counted_equal (children_of root) (length children) compared.value compared.gives;
      says = subst (SayColumns [] children) (held.same ∙ ok_same made.value columns compared.later) held.are;
    }

schema_found : (elements : List ElementDraft) (columns : List MetaColumn) → SaysSchema elements columns → columns_of elements ≡ Ok columns
unfolding columns_of
schema_found elements columns is =
    rw (is.parts, is.named, columns_found [] is.children columns is.says, counted_same (children_of is.root) (length is.children) is.counted) refl

-- ---- Row groups

chunk_held : (rows : ℕ) (draft : ChunkDraft) (chunk : MetaChunk) → chunk_of rows draft ≡ Ok chunk → SaysChunk rows draft chunk
unfolding chunk_of described_of
chunk_held rows draft chunk h =
    let meta = steps (need (pos 3) draft.meta) (described_of rows) chunk h in
    let m = meta.value in
    let physical = steps (need (pos 1) m.physical) _ chunk meta.later in
    let codec = steps (need (pos 4) m.codec) _ chunk physical.later in
    let values = steps (need (pos 5) m.num_values) _ chunk codec.later in
    let size = steps (need (pos 7) m.length) _ chunk values.later in
    let first = steps (need (pos 9) m.data_page) _ chunk size.later in
    let compared = steps (counted rows values.value) _ chunk first.later in
    let made : MetaChunk = record { codec = codec.value; num_values = values.value; first = first_of m.dictionary_page first.value; length = size.value } in
    let is : SaysChunk rows draft made = record {
      meta = m;
      has_meta = needed (pos 3) draft.meta m meta.gives;
      physical = physical.value;
      has_physical = needed (pos 1) m.physical physical.value physical.gives;
      codec = needed (pos 4) m.codec codec.value codec.gives;
      values = needed (pos 5) m.num_values values.value values.gives;
      counted = sym (counted_equal rows values.value compared.value compared.gives);
      size = needed (pos 7) m.length size.value size.gives;
      data_page = first.value;
      has_data_page = needed (pos 9) m.data_page first.value first.gives;
      first = refl;
    } in
    subst (SaysChunk rows draft) (ok_same made chunk compared.later) is

chunk_found : (rows : ℕ) (draft : ChunkDraft) (chunk : MetaChunk) → SaysChunk rows draft chunk → chunk_of rows draft ≡ Ok chunk
unfolding chunk_of described_of
chunk_found rows draft chunk is =
    let first : first_of is.meta.dictionary_page is.data_page ≡ chunk.first = sym is.first in
    rw (is.has_meta, is.has_physical, is.codec, is.values, is.size, is.has_data_page, counted_same rows chunk.num_values (sym is.counted), first) refl

group_held : (columns : ℕ) (draft : GroupDraft) (group : MetaGroup) → group_of columns draft ≡ Ok group → SaysGroup columns draft group
unfolding group_of
group_held columns draft group h =
    let chunks = steps (need (pos 1) draft.chunks) _ group h in
    let rows = steps (need (pos 3) draft.rows) _ group chunks.later in
    let compared = steps (counted columns (length chunks.value)) _ group rows.later in
    let kept = steps (each (chunk_of rows.value) chunks.value) _ group compared.later in
    let made : MetaGroup = record { rows = rows.value; chunks = kept.value } in
    let is : SaysGroup columns draft made = record {
      rows = needed (pos 3) draft.rows rows.value rows.gives;
      drafts = chunks.value;
      has_drafts = needed (pos 1) draft.chunks chunks.value chunks.gives;
      counted = counted_equal columns (length chunks.value) compared.value compared.gives;
      chunks = each_held (SaysChunk rows.value) (chunk_of rows.value) chunks.value kept.value (chunk_held rows.value) kept.gives;
    } in
    subst (SaysGroup columns draft) (ok_same made group kept.later) is

group_found : (columns : ℕ) (draft : GroupDraft) (group : MetaGroup) → SaysGroup columns draft group → group_of columns draft ≡ Ok group
unfolding group_of
group_found columns draft group is =
    rw (
      is.has_drafts,
      is.rows,
      counted_same columns (length is.drafts) is.counted,
      each_found (SaysChunk group.rows) (chunk_of group.rows) is.drafts group.chunks (chunk_found group.rows) is.chunks,
    ) refl

-- ---- The footer

footer_held : (bytes : List ℕ) (meta : FileMeta) → footer_of bytes ≡ Ok meta → IsFooter bytes meta
unfolding footer_of meta_of
footer_held bytes meta h =
    let draft = steps (read_of (struct_of footer_part no_footer (length bytes) bytes)) meta_of meta h in
    let fields = draft.value in
    let read = read_some (struct_of footer_part no_footer (length bytes) bytes) fields draft.gives in
    let version = steps (need (pos 1) fields.version) _ meta draft.later in
    let schema = steps (need (pos 2) fields.schema) _ meta version.later in
    let rows = steps (need (pos 3) fields.num_rows) _ meta schema.later in
    let groups = steps (need (pos 4) fields.groups) _ meta rows.later in
    let columns = steps (columns_of schema.value) _ meta groups.later in
    let kept = steps (each (group_of (length columns.value)) groups.value) _ meta columns.later in
    let compared = steps (counted rows.value (rows_of kept.value)) _ meta kept.later in
    let made : FileMeta = record { columns = columns.value; num_rows = rows.value; groups = kept.value } in
    let is : IsFooter bytes made = record {
      fields = fields;
      rest = read.0;
      read = read.1;
      version = version.value;
      has_version = needed (pos 1) fields.version version.value version.gives;
      elements = schema.value;
      has_elements = needed (pos 2) fields.schema schema.value schema.gives;
      schema = schema_held schema.value columns.value columns.gives;
      drafts = groups.value;
      has_drafts = needed (pos 4) fields.groups groups.value groups.gives;
      groups = each_held (SaysGroup (length columns.value)) (group_of (length columns.value)) groups.value kept.value (group_held (length columns.value)) kept.gives;
      rows = needed (pos 3) fields.num_rows rows.value rows.gives;
      counted = counted_equal rows.value (rows_of kept.value) compared.value compared.gives;
    } in
    subst (IsFooter bytes) (ok_same made meta compared.later) is

footer_found : (bytes : List ℕ) (meta : FileMeta) → IsFooter bytes meta → footer_of bytes ≡ Ok meta
unfolding footer_of meta_of
footer_found bytes meta is =
    rw (
      is.read,
      is.has_version,
      is.has_elements,
      is.rows,
      is.has_drafts,
      schema_found is.elements meta.columns is.schema,
      each_found (SaysGroup (length meta.columns)) (group_of (length meta.columns)) is.drafts meta.groups (group_found (length meta.columns)) is.groups,
      counted_same meta.num_rows (rows_of meta.groups) is.counted,
    ) refl

-- a footer is read of bytes exactly where they begin with it
pub held_both : (bytes : List ℕ) (meta : FileMeta) → (footer_of bytes ≡ Ok meta) ↔ IsFooter bytes meta
held_both bytes meta = (footer_held bytes meta, footer_found bytes meta)

-- what is answered is the footer that the bytes begin with, or a fault where they begin with none
pub answer_held : (bytes : List ℕ) (answer read : Result FileMeta MetaFault) → ((meta : FileMeta) → (read ≡ Ok meta) ↔ IsFooter bytes meta) → Answers is_memory answer read → AnswersFooter bytes answer
answer_held bytes answer read law h = decides is_memory (λ meta. meta) (IsFooter bytes) answer read law h
