-- What is read is a sound sheet.
use Rattle.std.proofs.Common.{◌≡◌, ◌≢◌, ℕ, ℤ, zero, suc, ◌+◌, ◌-◌, ◌≤◌, ◌^◌, min, nat_lt, inl, inr, List, [], ◌∷◌, length, get_or, map, fold, Option, Bool, true, false, cond, Result, Ok, Err, All, refl, sym, ap, subst, ◌∙◌, arith}
use Rattle.std.proofs.lemmas.List.{length-append, length-map}
use Rattle.std.proofs.lemmas.Bool.{cases_lt, lt-ltb}
use Rattle.std.proofs.lemmas.List.Elements.{All-append, All-cons, All-filter, All-head, All-map, All-nil, All-tail}
use Rattle.std.proofs.lemmas.List.Sums.{sum_by-cons}
use Rattle.std.specs.Prelude.{AllPairs, IfOk, IfSome, filter, if◌then◌else◌, ⊤}
use Rattle.std.specs.List.{AllZip, count_by, sum_by}
use Rattle.std.specs.Str.{IsUtf8}
use Rattle.lake_types.specs.declared.sheet.Sheet.{Sheet}
use Rattle.lake_types.specs.declared.sheet.SheetColumn.{SheetColumn}
use Rattle.lake_types.specs.declared.value.ColType.{ColType}
use Rattle.lake_types.specs.declared.value.ColType.TheVariants as ty
use Rattle.lake_types.specs.declared.value.Value.{Value}
use Rattle.lake_types.specs.declared.value.Value.TheVariants as value
use Rattle.lake_types.specs.Fits.{fits}
use Rattle.pq_encodings.specs.declared.strings.TheConstants.{MAX_STRING}
use Rattle.pq_encodings.specs.Values.{AreShort, Values, bools, i32s, i64s, strings, count_of}
use Rattle.pq_meta.specs.declared.fault.MetaFault.{MetaFault}
use Rattle.pq_meta.specs.declared.meta.FileMeta.{FileMeta}
use Rattle.pq_meta.specs.declared.meta.MetaColumn.{MetaColumn}
use Rattle.pq_meta.specs.declared.meta.MetaChunk.{MetaChunk}
use Rattle.pq_meta.specs.declared.meta.MetaGroup.{MetaGroup}
use Rattle.pq_meta.specs.Consistency.{FitsColumns, HasFieldId, HasValues, IsConsistent, IsNamed}
use Rattle.pq_meta.specs.Consistency as consistency
use Rattle.pq_meta.specs.Footers.{footer_of}
use Rattle.pq_pages.specs.declared.chunk.ChunkSpec.{ChunkSpec}
use Rattle.pq_pages.specs.declared.fault.PageFault.{PageFault}
use Rattle.pq_pages.specs.Fitting.{FitSpec}
use Rattle.pq_pages.specs.Pages.{Cells, chunk_of}
use Rattle.pq_pages.specs.Writing.{AreTexts}
use Rattle.pq_file.specs.declared.fault.FileFault.{FileFault}
use Rattle.pq_file.specs.declared.fault.FileFault.TheVariants as fault
use Rattle.pq_file.specs.declared.parts.Part.{Part}
use Rattle.answers.proofs.AnswerLemmas.{steps, ok_same}
use Rattle.answers.specs.Answers.{Answers, ◌>>=◌}
use Rattle.pq_file.specs.Answers.{of_meta, of_page, is_memory}
use Rattle.pq_file.specs.Cells.{bool_of, cells_of, is_text, long_of, number_of, spread, string_of, typed}
use Rattle.pq_file.specs.Frame.{footer_in}
use Rattle.lake_types.specs.declared.limits.TheConstants.{MAX_FILE_ROWS}
use Rattle.pq_file.specs.Reading.{GroupParts, bare, beside, cells_fit, few_rows, file_of, groups_fit, groups_in, is_wanted, longer, part_of, parts_fit, parts_in, sheet_in, sheet_of, span_of, spec_of, stated_rows, with_group}
use Rattle.pq_file.specs.Sheets.{IsSound, IsSoundColumn}
use Rattle.pq_file.specs.Writable.{HasCellTexts, HasName, HasText, IsCell, IsShort, OtherField}

-- what the laws of the chunks and of the footer say
abbrev pub ChunksAsSaid : Type 0
ChunksAsSaid = (spec : ChunkSpec) (bytes : List ℕ) (cells : Cells) → chunk_of spec bytes ≡ Ok cells → FitSpec spec cells

abbrev pub FootersConsistent : Type 0
FootersConsistent = (bytes : List ℕ) (meta : FileMeta) → footer_of bytes ≡ Ok meta → IsConsistent meta

-- ---- Readings that have a value

pub page_ok : {A : Type 0} (group place : ℕ) (read : Result A PageFault) (x : A) → of_page group place read ≡ Ok x → read ≡ Ok x
page_ok group place (Ok y) x h = ap (λ a. Ok a) (ok_same y x h)
page_ok group place (Err e) x h = cc

pub meta_ok : {A : Type 0} (read : Result A MetaFault) (x : A) → of_meta read ≡ Ok x → read ≡ Ok x
meta_ok (Ok y) x h = ap (λ a. Ok a) (ok_same y x h)
meta_ok (Err e) x h = cc

pub passed : {A : Type 0} (b : Bool) (read : Result A FileFault) (e : FileFault) (x : A) → (if b then read else Err e) ≡ Ok x → (b ≡ true) × (read ≡ Ok x)
passed true read e x h = (refl, h)
passed false read e x h = cc

refused : (b : Bool) (e : FileFault) (u : ⊤) → b ≡ true → (if b then Err e else Ok tt) ≡ Ok u → ⊥
refused true e u is h = cc
refused false e u is h = cc

-- ---- Cells of a chunk

-- no NULL where none may be, few bytes, and UTF-8 where it is a text
abbrev IsHad : Bool → Value → Type 0
IsHad optional cell = (optional ≡ false → cell ≢ value.Null) × IsShort cell × HasText cell

abbrev IsValue : Value → Type 0
IsValue cell = (cell ≢ value.Null) × IsShort cell × HasText cell

number_value : (t : ColType) (n : ℤ) → IsValue (number_of t n)
number_value ty.Bool n = (λ e. cc, tt, tt)
number_value ty.Int8 n = (λ e. cc, tt, tt)
number_value ty.Int16 n = (λ e. cc, tt, tt)
number_value ty.Int32 n = (λ e. cc, tt, tt)
number_value ty.Int64 n = (λ e. cc, tt, tt)
number_value ty.Varchar n = (λ e. cc, tt, tt)
number_value ty.Blob n = (λ e. cc, tt, tt)
number_value ty.Date n = (λ e. cc, tt, tt)

string_value : (t : ColType) (x : List ℕ) → (is_text t ≡ true → IsUtf8 x) → length x ≤ MAX_STRING → IsValue (string_of t x)
string_value ty.Bool x text short = (λ e. cc, short, tt)
string_value ty.Int8 x text short = (λ e. cc, short, tt)
string_value ty.Int16 x text short = (λ e. cc, short, tt)
string_value ty.Int32 x text short = (λ e. cc, short, tt)
string_value ty.Int64 x text short = (λ e. cc, short, tt)
string_value ty.Varchar x text short = (λ e. cc, short, text refl)
string_value ty.Blob x text short = (λ e. cc, short, tt)
string_value ty.Date x text short = (λ e. cc, short, tt)

typed_values : (t : ColType) (vs : Values) → (is_text t ≡ true → AreTexts vs) → AreShort vs → All IsValue (typed t vs)
typed_values t (bools xs) texts short = All-map IsValue bool_of xs (λ k d lt. (λ e. cc, tt, tt))
typed_values t (i32s xs) texts short = All-map IsValue (number_of t) xs (λ k d lt. number_value t (get_or xs k d))
typed_values t (i64s xs) texts short = All-map IsValue long_of xs (λ k d lt. (λ e. cc, tt, tt))
typed_values t (strings xs) texts short = All-map IsValue (string_of t) xs (λ k d lt. string_value t (get_or xs k d) (λ e. texts e k d lt) (short k d lt))

typed_count : (t : ColType) (vs : Values) → length (typed t vs) ≡ count_of vs
typed_count t (bools xs) = length-map xs bool_of
typed_count t (i32s xs) = length-map xs (number_of t)
typed_count t (i64s xs) = length-map xs long_of
typed_count t (strings xs) = length-map xs (string_of t)

spread_length : (flags : List Bool) (vs : List Value) → length (spread flags vs) ≡ length flags
spread_length [] vs = refl
spread_length (false ∷ flags) vs = ap (λ (n : ℕ). suc n) (spread_length flags vs)
spread_length (true ∷ flags) [] = ap (λ (n : ℕ). suc n) (spread_length flags [])
spread_length (true ∷ flags) (v ∷ vs) = ap (λ (n : ℕ). suc n) (spread_length flags vs)

abbrev trues : List Bool → ℕ
trues flags = count_by (λ flag. flag) flags

trues_cons : (flag : Bool) (flags : List Bool) → trues (flag ∷ flags) ≡ cond flag 1 0 + trues flags
trues_cons flag flags = sum_by-cons (λ (b : Bool). cond b 1 0) flag flags

-- what is true of each value, and of NULL where a flag says so, is true of each cell
spread_all : (P : Value → Type 0) (flags : List Bool) (vs : List Value) → All P vs → All (λ flag. flag ≡ false → P value.Null) flags → length vs ≡ trues flags
    → All P (spread flags vs)
spread_all P [] vs values nulls same = All-nil P
spread_all P (false ∷ flags) vs values nulls same =
    All-cons P value.Null (spread flags vs) (All-head (λ flag. flag ≡ false → P value.Null) false flags nulls refl)
    (spread_all P flags vs values (All-tail (λ flag. flag ≡ false → P value.Null) false flags nulls) (omega (arith, trues_cons false flags)))
spread_all P (true ∷ flags) [] values nulls same = absurd (omega (arith, trues_cons true flags))
spread_all P (true ∷ flags) (v ∷ vs) values nulls same =
    All-cons P v (spread flags vs) (All-head P v vs values)
    (spread_all P flags vs (All-tail P v vs values) (All-tail (λ flag. flag ≡ false → P value.Null) true flags nulls) (omega (arith, trues_cons true flags)))

had_cells : (spec : ChunkSpec) (t : ColType) (cells : Cells) → FitSpec spec cells → spec.text ≡ is_text t → All (IsHad spec.optional) (cells_of t cells)
had_cells spec t cells fit text =
    let texts : is_text t ≡ true → AreTexts cells.values = λ e. fit.texts (text ∙ e) in
    let all : All IsValue (typed t cells.values) = typed_values t cells.values texts fit.short in
    let values : All (IsHad spec.optional) (typed t cells.values) = λ k d lt. (λ e. (all k d lt).0, (all k d lt).1, (all k d lt).2) in
    let nulls : All (λ flag. flag ≡ false → IsHad spec.optional value.Null) cells.defined = λ k d lt no. (λ e. absurd (let has = fit.required e k d lt in cc), tt, tt) in
    spread_all (IsHad spec.optional) cells.defined (typed t cells.values) values nulls (typed_count t cells.values ∙ fit.matched)

-- ---- Parts

record IsPart (rows : ℕ) (column : MetaColumn) (part : Part) : Type 0 where
  same : part.ty ≡ column.ty
  full : length part.cells ≡ rows
  cells : All (IsHad column.optional) part.cells

part_sound : ChunksAsSaid → (bytes : List ℕ) (group place : ℕ) (column : MetaColumn) (chunk : MetaChunk) (part : Part) → part_of bytes group place column chunk ≡ Ok part
    → IsPart chunk.num_values column part
unfolding part_of
part_sound chunks bytes group place column chunk part h =
    let span = steps (span_of bytes group place chunk) _ part h in
    let read = steps (of_page group place (chunk_of (spec_of column chunk) span.value)) _ part span.later in
    let fit : FitSpec (spec_of column chunk) read.value = chunks (spec_of column chunk) span.value read.value (page_ok group place _ read.value read.gives) in
    let made : Part = record { place = place; ty = column.ty; cells = cells_of column.ty read.value } in
    let is : IsPart chunk.num_values column made = record {
      same = refl;
      full = spread_length read.value.defined (typed column.ty read.value.values) ∙ fit.counted;
      cells = had_cells (spec_of column chunk) column.ty read.value fit refl;
    } in
    subst (IsPart chunk.num_values column) (ok_same made part read.later) is

parts_step : (b : Bool) (rows : ℕ) (column : MetaColumn) (columns : List MetaColumn) (one : Result Part FileFault) (others : Result (List Part) FileFault) (parts : List Part)
    → ((part : Part) → one ≡ Ok part → IsPart rows column part) → ((ps : List Part) → others ≡ Ok ps → AllZip (IsPart rows) columns ps)
    → (if b then (one >>= λ part. others >>= λ ps. Ok (part ∷ ps)) else others) ≡ Ok parts → AllZip (IsPart rows) (cond b (column ∷ columns) columns) parts
parts_step false rows column columns one others parts first rest h = rest parts h
parts_step true rows column columns one others parts first rest h =
    let part = steps one (λ part. others >>= λ ps. Ok (part ∷ ps)) parts h in
    let more = steps others (λ ps. Ok (part.value ∷ ps)) parts part.later in
    subst (λ (ps : List Part). AllZip (IsPart rows) (column ∷ columns) ps) (ok_same (part.value ∷ more.value) parts more.later)
    (first part.value part.gives, rest more.value more.gives)

abbrev wanted : Option (List ℕ) → List MetaColumn → List MetaColumn
wanted fields columns = filter (is_wanted fields) columns

parts_sound : ChunksAsSaid → (bytes : List ℕ) (fields : Option (List ℕ)) (rows group place : ℕ) (columns : List MetaColumn) (chunks : List MetaChunk) (parts : List Part)
    → length chunks ≡ length columns → All (HasValues rows) chunks → parts_in bytes fields group place columns chunks ≡ Ok parts → AllZip (IsPart rows) (wanted fields columns) parts
parts_sound law bytes fields rows group place [] chunks [] same values h = tt
parts_sound law bytes fields rows group place [] chunks (p ∷ ps) same values h = cc
parts_sound law bytes fields rows group place (column ∷ columns) [] parts same values h = absurd (omega arith)
parts_sound law bytes fields rows group place (column ∷ columns) (chunk ∷ chunks) parts same values h =
    let has : chunk.num_values ≡ rows = All-head (HasValues rows) chunk chunks values in
    parts_step (is_wanted fields column) rows column (wanted fields columns) (part_of bytes group place column chunk) (parts_in bytes fields group (place + 1) columns chunks) parts
    (λ part read. subst (λ (n : ℕ). IsPart n column part) has (part_sound law bytes group place column chunk part read))
    (λ ps read. parts_sound law bytes fields rows group (place + 1) columns chunks ps (omega arith) (All-tail (HasValues rows) chunk chunks values) read) h

-- ---- Ranges

pub cells_in_range : (place : ℕ) (t : ColType) (row : ℕ) (cells : List Value) (u : ⊤) → cells_fit place t row cells ≡ Ok u → All (λ cell. fits cell t ≡ true) cells
cells_in_range place t row [] u h = All-nil (λ cell. fits cell t ≡ true)
cells_in_range place t row (cell ∷ cells) u h =
    let good = passed (fits cell t) (cells_fit place t (row + 1) cells) (fault.BadCell place row) u h in
    All-cons (λ cell. fits cell t ≡ true) cell cells good.0 (cells_in_range place t (row + 1) cells u good.1)

abbrev IsInRange : Part → Type 0
IsInRange part = All (λ cell. fits cell part.ty ≡ true) part.cells

parts_in_range : (row : ℕ) (parts : List Part) (u : ⊤) → parts_fit row parts ≡ Ok u → All IsInRange parts
parts_in_range row [] u h = All-nil IsInRange
parts_in_range row (part ∷ parts) u h =
    let good = steps (cells_fit part.place part.ty row part.cells) (λ v. parts_fit row parts) u h in
    All-cons IsInRange part parts (cells_in_range part.place part.ty row part.cells good.value good.gives) (parts_in_range row parts u good.later)

-- ---- Columns, as far as they were read

record IsSoundCell (t : ColType) (optional : Bool) (cell : Value) : Type 0 where
  held : IsCell t cell
  given : optional ≡ false → cell ≢ value.Null
  text : HasText cell

record IsGrown (rows : ℕ) (meta : MetaColumn) (column : SheetColumn) : Type 0 where
  same : column.ty ≡ meta.ty
  optional : column.optional ≡ meta.optional
  field : column.field ≡ meta.field
  id : IfSome column.field (λ id. id ≤ 2147483647)
  named : HasName column
  count : length column.cells ≡ rows
  cells : All (IsSoundCell column.ty column.optional) column.cells

bare_grown : (metas : List MetaColumn) → All IsNamed metas → All HasFieldId metas → AllZip (IsGrown 0) metas (map bare metas)
bare_grown [] named ids = tt
bare_grown (m ∷ metas) named ids =
    let first : IsGrown 0 m (bare m) = record {
      same = refl;
      optional = refl;
      field = refl;
      id = All-head HasFieldId m metas ids;
      named = All-head IsNamed m metas named;
      count = refl;
      cells = All-nil (IsSoundCell m.ty m.optional);
    } in
    (first, bare_grown metas (All-tail IsNamed m metas named) (All-tail HasFieldId m metas ids))

longer_grown : (have more total : ℕ) (meta : MetaColumn) (column : SheetColumn) (part : Part) → have + more ≡ total → IsGrown have meta column → IsPart more meta part → IsInRange part
    → IsGrown total meta (longer column part)
longer_grown have more total meta column part sum grown had range =
    let type : part.ty ≡ column.ty = had.same ∙ sym grown.same in
    let cells : All (IsSoundCell column.ty column.optional) part.cells = λ k d lt. record {
      held = record { short = (had.cells k d lt).1; fits = subst (λ (t : ColType). fits (get_or part.cells k d) t ≡ true) type (range k d lt) };
      given = λ no. (had.cells k d lt).0 (sym grown.optional ∙ no);
      text = (had.cells k d lt).2;
    } in
    record {
      same = grown.same;
      optional = grown.optional;
      field = grown.field;
      id = grown.id;
      named = grown.named;
      count = omega (arith, length-append column.cells part.cells, grown.count, had.full);
      cells = All-append (IsSoundCell column.ty column.optional) column.cells part.cells grown.cells cells;
    }

beside_grown : (have more total : ℕ) (metas : List MetaColumn) (columns : List SheetColumn) (parts : List Part) → have + more ≡ total
    → AllZip (IsGrown have) metas columns → AllZip (IsPart more) metas parts → All IsInRange parts → AllZip (IsGrown total) metas (beside columns parts)
beside_grown have more total [] [] parts sum grown had range = tt
beside_grown have more total [] (c ∷ cs) parts sum grown had range = absurd grown
beside_grown have more total (m ∷ ms) [] parts sum grown had range = absurd grown
beside_grown have more total (m ∷ ms) (c ∷ cs) [] sum grown had range = absurd had
beside_grown have more total (m ∷ ms) (c ∷ cs) (p ∷ ps) sum grown had range = (
  longer_grown have more total m c p sum grown.0 had.0 (All-head IsInRange p ps range),
  beside_grown have more total ms cs ps sum grown.1 had.1 (All-tail IsInRange p ps range),
)

groups_grown : ChunksAsSaid → (bytes : List ℕ) (fields : Option (List ℕ)) (metas : List MetaColumn) (group row have total : ℕ) (groups : List MetaGroup) (read : List GroupParts)
    (columns : List SheetColumn) (u : ⊤) → have + sum_by stated_rows groups ≡ total → All (FitsColumns (length metas)) groups
    → groups_in bytes fields metas group groups ≡ Ok read → groups_fit row read ≡ Ok u → AllZip (IsGrown have) (wanted fields metas) columns
    → AllZip (IsGrown total) (wanted fields metas) (fold with_group columns read)
groups_grown law bytes fields metas group row have total [] [] columns u sum fit h range grown =
    let same : have ≡ total = omega arith in
    subst (λ (n : ℕ). AllZip (IsGrown n) (wanted fields metas) columns) same grown
groups_grown law bytes fields metas group row have total [] (g ∷ gs) columns u sum fit h range grown = cc
groups_grown law bytes fields metas group row have total (g ∷ gs) read columns u sum fit h range grown =
    let one = steps (parts_in bytes fields group 0 metas g.chunks) _ read h in
    let more = steps (groups_in bytes fields metas (group + 1) gs) _ read one.later in
    let first : GroupParts = record { rows = g.rows; parts = one.value } in
    let same : first ∷ more.value ≡ read = ok_same (first ∷ more.value) read more.later in
    let good = steps (parts_fit row one.value) (λ v. groups_fit (row + g.rows) more.value) u (rw (← same) at range) in
    let here = All-head (FitsColumns (length metas)) g gs fit in
    let had = parts_sound law bytes fields g.rows group 0 metas g.chunks one.value here.count here.values one.gives in
    let longer : AllZip (IsGrown (have + g.rows)) (wanted fields metas) (beside columns one.value) =
    beside_grown have g.rows (have + g.rows) (wanted fields metas) columns one.value refl grown had (parts_in_range row one.value good.value good.gives) in
    let rest : (have + g.rows) + sum_by stated_rows gs ≡ total = omega (arith, sum_by-cons stated_rows g gs) in
    subst (λ (r : List GroupParts). AllZip (IsGrown total) (wanted fields metas) (fold with_group columns r)) same
    (groups_grown law bytes fields metas (group + 1) (row + g.rows) (have + g.rows) total gs more.value (beside columns one.value) u rest
    (All-tail (FitsColumns (length metas)) g gs fit) more.gives good.later longer)

-- ---- The sheet

-- what is true of each column that was read
each_grown : (P : SheetColumn → Type 0) (rows : ℕ) (metas : List MetaColumn) (columns : List SheetColumn) → ((meta : MetaColumn) (column : SheetColumn) → IsGrown rows meta column → P column)
    → AllZip (IsGrown rows) metas columns → All P columns
each_grown P rows [] [] each grown = All-nil P
each_grown P rows [] (c ∷ cs) each grown = absurd grown
each_grown P rows (m ∷ ms) [] each grown = absurd grown
each_grown P rows (m ∷ ms) (c ∷ cs) each grown = All-cons P c cs (each m c grown.0) (each_grown P rows ms cs each grown.1)

column_sound : (rows : ℕ) (meta : MetaColumn) (column : SheetColumn) → IsGrown rows meta column → IsSoundColumn rows column
column_sound rows meta column grown = record {
  count = grown.count;
  cells = λ k d lt. (grown.cells k d lt).held;
  required = λ no k d lt. (grown.cells k d lt).given no;
  field = grown.id;
}

column_texts : (rows : ℕ) (meta : MetaColumn) (column : SheetColumn) → IsGrown rows meta column → HasCellTexts column
column_texts rows meta column grown e k d lt = (grown.cells k d lt).text

pairs_cons : {A : Type 0} (R : A → A → Type 0) (x : A) (xs : List A) → All (R x) xs → AllPairs R xs → AllPairs R (x ∷ xs)
pairs_cons R x xs first others i zero d lt within = absurd (omega arith)
pairs_cons R x xs first others zero (suc j) d lt within = first j d (omega arith)
pairs_cons R x xs first others (suc i) (suc j) d lt within = others i j d (omega arith) (omega arith)

pairs_head : {A : Type 0} (R : A → A → Type 0) (x : A) (xs : List A) → AllPairs R (x ∷ xs) → All (R x) xs
pairs_head R x xs pairs k d lt = pairs 0 (suc k) d (omega arith) (omega arith)

pairs_tail : {A : Type 0} (R : A → A → Type 0) (x : A) (xs : List A) → AllPairs R (x ∷ xs) → AllPairs R xs
pairs_tail R x xs pairs i j d lt within = pairs (suc i) (suc j) d (omega arith) (omega arith)

-- those kept of a list stand apart as they did in it
pairs_kept : {A : Type 0} (R : A → A → Type 0) (test : A → Bool) (xs : List A) → AllPairs R xs → AllPairs R (filter test xs)
pairs_kept R test [] pairs = pairs
pairs_kept {A = A} R test (x ∷ xs) pairs =
    let rest : AllPairs R (filter test xs) = pairs_kept R test xs (pairs_tail R x xs pairs) in
    let first : All (R x) (filter test xs) = All-filter test (R x) xs (pairs_head R x xs pairs) in
    elim (test x) as (λ (b : Bool). AllPairs R (cond b (x ∷ filter test xs) (filter test xs))) [ true ↦ pairs_cons R x (filter test xs) first rest | false ↦ rest ]

others_apart : (rows : ℕ) (meta : MetaColumn) (column : SheetColumn) (metas : List MetaColumn) (columns : List SheetColumn) → column.field ≡ meta.field
    → AllZip (IsGrown rows) metas columns → All (consistency.OtherField meta) metas → All (OtherField column) columns
others_apart rows m c [] [] is grown apart = All-nil (OtherField c)
others_apart rows m c [] (d ∷ ds) is grown apart = absurd grown
others_apart rows m c (n ∷ ns) [] is grown apart = absurd grown
others_apart rows m c (n ∷ ns) (d ∷ ds) is grown apart =
    let first : OtherField c d = rw (is, (grown.0).field) (All-head (consistency.OtherField m) n ns apart) in
    All-cons (OtherField c) d ds first (others_apart rows m c ns ds is grown.1 (All-tail (consistency.OtherField m) n ns apart))

all_apart : (rows : ℕ) (metas : List MetaColumn) (columns : List SheetColumn) → AllZip (IsGrown rows) metas columns → AllPairs consistency.OtherField metas → AllPairs OtherField columns
all_apart rows [] [] grown apart = λ i j d lt within. absurd (omega arith)
all_apart rows [] (c ∷ cs) grown apart = absurd grown
all_apart rows (m ∷ ms) [] grown apart = absurd grown
all_apart rows (m ∷ ms) (c ∷ cs) grown apart =
    pairs_cons OtherField c cs (others_apart rows m c ms cs (grown.0).field grown.1 (pairs_head consistency.OtherField m ms apart)) (all_apart rows ms cs grown.1 (pairs_tail consistency.OtherField m ms apart))

pub few_ok : (rows : ℕ) (u : ⊤) → few_rows rows ≡ Ok u → rows ≤ 4194304
few_ok rows u h =
    elim (cases_lt MAX_FILE_ROWS rows) [
      | inl more ↦ absurd (refused (nat_lt MAX_FILE_ROWS rows) (fault.TooManyRows rows) u (lt-ltb MAX_FILE_ROWS rows more) h)
      | inr few ↦ few
    ]

sheet_sound : ChunksAsSaid → (bytes : List ℕ) (fields : Option (List ℕ)) (meta : FileMeta) (sheet : Sheet) → IsConsistent meta → sheet_in bytes fields meta ≡ Ok sheet → IsSound sheet
unfolding sheet_in
sheet_sound law bytes fields meta sheet fit h =
    let few = steps (few_rows meta.num_rows) _ sheet h in
    let read = steps (groups_in bytes fields meta.columns 0 meta.groups) _ sheet few.later in
    let range = steps (groups_fit 0 read.value) _ sheet read.later in
    let most : meta.num_rows ≤ 4194304 = few_ok meta.num_rows few.value few.gives in
    let all : min (sum_by stated_rows meta.groups) (2 ^ 64 - 1) ≡ meta.num_rows = fit.rows in
    let sum : 0 + sum_by stated_rows meta.groups ≡ meta.num_rows = omega arith in
    let grown = groups_grown law bytes fields meta.columns 0 0 0 meta.num_rows meta.groups read.value (map bare (wanted fields meta.columns)) range.value sum fit.groups
    read.gives range.gives (bare_grown (wanted fields meta.columns) (All-filter (is_wanted fields) IsNamed meta.columns fit.names) (All-filter (is_wanted fields) HasFieldId meta.columns fit.ids)) in
    let made : Sheet = sheet_of fields meta read.value in
    let metas = wanted fields meta.columns in
    let is : IsSound made = record {
      few_rows = most;
      columns = each_grown (IsSoundColumn meta.num_rows) meta.num_rows metas made.columns (column_sound meta.num_rows) grown;
      fields = all_apart meta.num_rows metas made.columns grown (pairs_kept consistency.OtherField (is_wanted fields) meta.columns fit.fields);
      texts = record {
        names = each_grown HasName meta.num_rows metas made.columns (λ m c g. g.named) grown;
        cells = each_grown HasCellTexts meta.num_rows metas made.columns (column_texts meta.num_rows) grown;
      };
    } in
    subst IsSound (ok_same made sheet range.later) is

pub file_sound : ChunksAsSaid → FootersConsistent → (fields : Option (List ℕ)) (bytes : List ℕ) (sheet : Sheet) → file_of fields bytes ≡ Ok sheet → IsSound sheet
unfolding file_of
file_sound chunks footers fields bytes sheet h =
    let footer = steps (footer_in bytes) _ sheet h in
    let meta = steps (of_meta (footer_of footer.value)) _ sheet footer.later in
    sheet_sound chunks bytes fields meta.value sheet (footers footer.value meta.value (meta_ok _ meta.value meta.gives)) meta.later

-- what is answered is what the definition gives, if it is a sheet
pub answer_sound : (answer read : Result Sheet FileFault) → ((sheet : Sheet) → read ≡ Ok sheet → IsSound sheet) → Answers is_memory answer read → IfOk answer IsSound
answer_sound (Ok sheet) read law h = law sheet h
answer_sound (Err e) read law h = tt
