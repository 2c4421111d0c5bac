-- Which footer some bytes hold, said of all of it at once, whatever a reader looks at first (Apache Parquet format, "Metadata",
-- "Nested Encoding" and "Logical Types").
use Rattle.std.specs.Prelude.{◌≡◌, ℕ, ℤ, ◌++◌, List, [], ◌∷◌, length, Some, Result, Ok}
use Rattle.std.specs.List.{AllZip}
use Rattle.thrift_compact.specs.Structs.{struct_of}
use Rattle.answers.specs.Answers.{Decides}
use Rattle.pq_meta.specs.Checks.{is_memory}
use Rattle.pq_meta.specs.declared.drafts.ChunkDraft.{ChunkDraft}
use Rattle.pq_meta.specs.declared.drafts.ChunkMetaDraft.{ChunkMetaDraft}
use Rattle.pq_meta.specs.declared.drafts.ElementDraft.{ElementDraft}
use Rattle.pq_meta.specs.declared.drafts.FooterDraft.{FooterDraft}
use Rattle.pq_meta.specs.declared.drafts.GroupDraft.{GroupDraft}
use Rattle.pq_meta.specs.declared.fault.MetaFault.{MetaFault}
use Rattle.pq_meta.specs.declared.meta.FileMeta.{FileMeta}
use Rattle.pq_meta.specs.declared.meta.MetaChunk.{MetaChunk}
use Rattle.pq_meta.specs.declared.meta.MetaColumn.{MetaColumn}
use Rattle.pq_meta.specs.declared.meta.MetaGroup.{MetaGroup}
use Rattle.pq_meta.specs.Columns.{children_of, field_of, meaning_of, name_of, type_of}
use Rattle.pq_meta.specs.Drafts.{footer_part, no_footer}
use Rattle.pq_meta.specs.Groups.{first_of, rows_of}
use Rattle.pq_meta.specs.Spelling.{repetition_of}

-- ---- The schema

-- an element of the schema says this column, behind these columns
pub record SaysColumn (earlier : List MetaColumn) (element : ElementDraft) (column : MetaColumn) : Type 0 where
  pub leaf : children_of element ≡ 0
  pub name : name_of element.name ≡ Some column.name
  pub field : column.field ≡ field_of earlier element.field
  pub optional : element.repetition ≡ Some (repetition_of column.optional)
  pub physical : ℤ
  pub stated : element.physical ≡ Some physical
  pub ty : type_of physical (meaning_of element.logical element.converted) ≡ Some column.ty

-- these elements say these columns, one each, behind these columns
abbrev pub SayColumns : List MetaColumn → List ElementDraft → List MetaColumn → Type 0
SayColumns earlier [] [] = Unit {0}
SayColumns earlier (element ∷ elements) (column ∷ columns) = SaysColumn earlier element column × SayColumns (earlier ++ column ∷ []) elements columns
SayColumns earlier elements columns = ⊥

-- A schema says these columns: behind its root, which has a name, stand as many elements as the root has children.
pub record SaysSchema (elements : List ElementDraft) (columns : List MetaColumn) : Type 0 where
  pub root : ElementDraft
  pub children : List ElementDraft
  pub parts : elements ≡ root ∷ children
  pub name : List ℕ
  pub named : name_of root.name ≡ Some name
  pub counted : children_of root ≡ length children
  pub says : SayColumns [] children columns

-- ---- The row groups

-- metadata says this chunk; the type that it states is required, and the column's own decides
pub record SaysChunk (rows : ℕ) (draft : ChunkDraft) (chunk : MetaChunk) : Type 0 where
  pub meta : ChunkMetaDraft
  pub has_meta : draft.meta ≡ Some meta
  pub physical : ℤ
  pub has_physical : meta.physical ≡ Some physical
  pub codec : meta.codec ≡ Some chunk.codec
  pub values : meta.num_values ≡ Some chunk.num_values
  pub counted : chunk.num_values ≡ rows
  pub size : meta.length ≡ Some chunk.length
  pub data_page : ℕ
  pub has_data_page : meta.data_page ≡ Some data_page
  pub first : chunk.first ≡ first_of meta.dictionary_page data_page

-- a draft says this group, with a chunk for each of so many columns
pub record SaysGroup (columns : ℕ) (draft : GroupDraft) (group : MetaGroup) : Type 0 where
  pub rows : draft.rows ≡ Some group.rows
  pub drafts : List ChunkDraft
  pub has_drafts : draft.chunks ≡ Some drafts
  pub counted : columns ≡ length drafts
  pub chunks : AllZip (SaysChunk group.rows) drafts group.chunks

-- ---- The footer

-- bytes begin with a footer that says this
pub record IsFooter (bytes : List ℕ) (meta : FileMeta) : Type 0 where
  pub fields : FooterDraft
  pub rest : List ℕ
  pub read : struct_of footer_part no_footer (length bytes) bytes ≡ Ok (fields, rest)
  pub version : ℤ
  pub has_version : fields.version ≡ Some version
  pub elements : List ElementDraft
  pub has_elements : fields.schema ≡ Some elements
  pub schema : SaysSchema elements meta.columns
  pub drafts : List GroupDraft
  pub has_drafts : fields.groups ≡ Some drafts
  pub groups : AllZip (SaysGroup (length meta.columns)) drafts meta.groups
  pub rows : fields.num_rows ≡ Some meta.num_rows
  pub counted : meta.num_rows ≡ rows_of meta.groups

-- The answer is the footer that the bytes begin with, and no other is; or a fault where they begin with none. Memory may
-- run out at any bytes.
abbrev pub AnswersFooter : List ℕ → Result FileMeta MetaFault → Type 0
AnswersFooter bytes answer = Decides is_memory (λ meta. meta) (IsFooter bytes) answer
