-- Which cells a column chunk holds, said of the whole chunk at once, whatever a reader looks at first (Apache Parquet format,
-- "Data Pages" and "Dictionary Encoding").
use Rattle.std.specs.Prelude.{◌≡◌, ◌≢◌, ◌≤◌, ℕ, ℤ, pos, ◌++◌, ◌⊎◌, List, [], ◌∷◌, length, take, drop, map, replicate, fold, Bool, true, false, Option, Some, None, Result, Ok}
use Rattle.std.specs.List.{count_by}
use Rattle.answers.specs.Answers.{Decides}
use Rattle.thrift_compact.specs.Structs.{struct_of}
use Rattle.pq_encodings.specs.declared.plain.Physical.{Physical}
use Rattle.byteorder.specs.Endian.{little_number}
use Rattle.pq_encodings.specs.Grammar.{HoldsIndices, HoldsRuns}
use Rattle.pq_encodings.specs.Values.{Values, bools, count_of, values_in}
use Rattle.pq_pages.specs.declared.chunk.ChunkSpec.{ChunkSpec}
use Rattle.pq_pages.specs.declared.chunk.RawCells.{RawCells}
use Rattle.pq_pages.specs.declared.drafts.PageDraft.{PageDraft}
use Rattle.pq_pages.specs.declared.fault.PageFault.{PageFault}
use Rattle.pq_pages.specs.declared.headers.Coding.{Coding}
use Rattle.pq_pages.specs.declared.headers.Coding.TheVariants as coding
use Rattle.pq_pages.specs.declared.headers.Page.{Page}
use Rattle.pq_pages.specs.declared.headers.Page.TheVariants as page
use Rattle.pq_pages.specs.Answers.{is_memory}
use Rattle.pq_pages.specs.Headers.{coding_of, header_of, no_page, page_field, plain_coded, runs_coded}
use Rattle.pq_pages.specs.Pages.{Cells, cells_of, is_one, joined, no_values, picked}
use Rattle.pq_pages.specs.Writing.{AreTexts}

-- ---- Pages

-- a page as it is stored: what its header says of it, and the bytes behind the header
pub record StoredPage : Type 0 where
  pub says : Page
  pub body : List ℕ

-- Bytes begin with a page: with a header, whose fields say what the page is and how many bytes it has, and with these bytes.
-- The bytes of the chunk end at the offset `end`.
pub record BeginsWith (optional : Bool) (end : ℕ) (bytes : List ℕ) (stored : StoredPage) (rest : List ℕ) : Type 0 where
  pub fields : PageDraft
  pub behind : List ℕ
  pub header : struct_of page_field no_page end bytes ≡ Ok (fields, behind)
  pub says : header_of optional fields ≡ Ok (record { size = length stored.body; page = stored.says })
  pub parts : behind ≡ stored.body ++ rest

-- bytes begin with these pages, one after the other
abbrev pub BeginWith : Bool → ℕ → List ℕ → List StoredPage → List ℕ → Type 0
BeginWith optional end bytes [] rest = bytes ≡ rest
BeginWith optional end bytes (stored ∷ pages) rest =
    (behind : List ℕ) × BeginsWith optional end bytes stored behind × BeginWith optional end behind pages rest

-- ---- Levels

-- Bytes begin with a part behind its length, which is four bytes, the low one first.
pub record IsFramed (bytes part behind : List ℕ) : Type 0 where
  pub room : 4 ≤ length bytes
  pub size : length part ≡ little_number 4 bytes
  pub parts : drop 4 bytes ≡ part ++ behind

-- Bytes hold so many levels as runs of width 1, and these flags say which of them are 1.
pub record HoldsFlags (count : ℕ) (bytes : List ℕ) (flags : List Bool) : Type 0 where
  pub levels : List ℕ
  pub runs : HoldsRuns 1 count bytes levels
  pub ones : flags ≡ map is_one levels

-- the same of runs behind their length, with bytes behind them
pub record HoldsFramedFlags (count : ℕ) (bytes : List ℕ) (flags : List Bool) (behind : List ℕ) : Type 0 where
  pub part : List ℕ
  pub framed : IsFramed bytes part behind
  pub holds : HoldsFlags count part flags

-- The levels of a data page, and the bytes behind them. A REQUIRED column has none; of no cells no byte is needed.
abbrev pub HasLevels : Bool → ℕ → List ℕ → List Bool → List ℕ → Type 0
HasLevels false count body flags behind = (flags ≡ replicate count true) × (behind ≡ body)
HasLevels true count body flags behind =
    ((count ≡ 0) × (flags ≡ []) × (behind ≡ body)) ⊎ ((count ≢ 0) × HoldsFramedFlags count body flags behind)

-- the same of a data page of the second form, whose header says how long the levels are
abbrev pub HasLevelsV2 : Bool → ℕ → ℕ → List ℕ → List Bool → List ℕ → Type 0
HasLevelsV2 false count size body flags behind = (flags ≡ replicate count true) × (behind ≡ drop size body)
HasLevelsV2 true count size body flags behind = HoldsFlags count (take size body) flags × (behind ≡ drop size body)

-- booleans as runs behind their length; bytes may follow
pub record HoldsBools (count : ℕ) (bytes : List ℕ) (vs : Values) : Type 0 where
  pub flags : List Bool
  pub behind : List ℕ
  pub holds : HoldsFramedFlags count bytes flags behind
  pub same : vs ≡ bools flags

-- of no values no byte is needed
abbrev pub AreRuns : ℕ → List ℕ → Values → Type 0
AreRuns count bytes vs =
    ((count ≡ 0) × (vs ≡ bools [])) ⊎ ((count ≢ 0) × HoldsBools count bytes vs)

-- ---- What a page holds

-- cells, the entries of a dictionary, or nothing that is used
pub data Content : Type 0 where
  Holds : Cells → Content
  Defines : Values → Content
  Nothing : Content

-- entries of the dictionary, by their numbers
pub record PicksEntries (dictionary : Option Values) (count : ℕ) (bytes : List ℕ) (vs : Values) : Type 0 where
  pub entries : Values
  pub stands : dictionary ≡ Some entries
  pub numbers : List ℕ
  pub holds : HoldsIndices count (count_of entries) bytes numbers
  pub same : vs ≡ picked entries numbers

-- of no values no dictionary is needed
abbrev pub ArePicked : Physical → Option Values → ℕ → List ℕ → Values → Type 0
ArePicked kind dictionary count bytes vs =
    ((count ≡ 0) × (vs ≡ no_values kind)) ⊎ ((count ≢ 0) × PicksEntries dictionary count bytes vs)

-- so many values, in the encoding of their page
abbrev pub AreValues : ChunkSpec → Option Values → Coding → ℕ → List ℕ → Values → Type 0
AreValues spec dictionary coding.Plain count bytes vs = (values_in spec.kind count bytes ≡ Ok vs) × (spec.text ≡ true → AreTexts vs)
AreValues spec dictionary coding.Indices count bytes vs = ArePicked spec.kind dictionary count bytes vs × (spec.text ≡ true → AreTexts vs)
AreValues spec dictionary coding.Runs count bytes vs = AreRuns count bytes vs

-- Cells whose levels a page has, with bytes behind them that are the values of the cells that are no NULLs.
pub record HoldsCells (spec : ChunkSpec) (dictionary : Option Values) (encoding : ℤ) (Has : List Bool → List ℕ → Type 0) (cells : Cells) : Type 0 where
  pub way : Coding
  pub coded : coding_of spec.kind encoding ≡ Ok way
  pub behind : List ℕ
  pub defined : Has cells.defined behind
  pub values : AreValues spec dictionary way (count_by (λ flag. flag) cells.defined) behind cells.values

-- what a page holds, given the last dictionary before it
abbrev pub HasContent : ChunkSpec → Option Values → Page → List ℕ → Content → Type 0
HasContent spec dictionary (page.Data count encoding levels_encoding) body (Holds cells) =
    (runs_coded levels_encoding ≡ Ok tt) × HoldsCells spec dictionary encoding (HasLevels spec.optional count body) cells
HasContent spec dictionary (page.DataV2 count encoding size repetition) body (Holds cells) =
    (size ≤ length body) × (repetition ≡ 0) × HoldsCells spec dictionary encoding (HasLevelsV2 spec.optional count size body) cells
HasContent spec dictionary (page.Dictionary count encoding) body (Defines entries) = (plain_coded encoding ≡ Ok tt) × (values_in spec.kind count body ≡ Ok entries)
HasContent spec dictionary page.Other body Nothing = Unit {0}
HasContent spec dictionary says body content = ⊥

-- the last dictionary up to a page, given the one before it
abbrev pub latest : Option Values → Content → Option Values
latest before (Defines entries) = Some entries
latest before content = before

-- what pages hold, given the last dictionary before them
abbrev pub HaveContents : ChunkSpec → Option Values → List StoredPage → List Content → Type 0
HaveContents spec dictionary [] [] = Unit {0}
HaveContents spec dictionary (stored ∷ pages) (content ∷ contents) =
    HasContent spec dictionary stored.says stored.body content × HaveContents spec (latest dictionary content) pages contents
HaveContents spec dictionary pages contents = ⊥

-- ---- The chunk

abbrev pub no_cell : Physical → Cells
no_cell kind = record { defined = []; values = no_values kind }

-- the cells of a page behind those of the pages before it
abbrev pub beside : Cells → Content → Cells
beside had (Holds cells) = record { defined = had.defined ++ cells.defined; values = joined had.values cells.values }
beside had content = had

-- A chunk holds these cells: those of the pages that it begins with, one after the other, and as many as are said.
-- Each page has a byte at least, so there are no more pages than bytes.
pub record IsChunk (spec : ChunkSpec) (bytes : List ℕ) (cells : Cells) : Type 0 where
  pub plain : spec.codec ≡ pos 0
  pub pages : List StoredPage
  pub few : length pages ≤ length bytes
  pub rest : List ℕ
  pub begin : BeginWith spec.optional (length bytes) bytes pages rest
  pub contents : List Content
  pub have : HaveContents spec None pages contents
  pub same : cells ≡ fold beside (no_cell spec.kind) contents
  pub counted : length cells.defined ≡ spec.num_values

-- The answer is the cells that the chunk holds, and it holds no others; or a fault where it holds none. Memory may run out
-- at any chunk.
abbrev pub AnswersChunk : ChunkSpec → List ℕ → Result RawCells PageFault → Type 0
AnswersChunk spec bytes answer = Decides is_memory cells_of (IsChunk spec bytes) answer
