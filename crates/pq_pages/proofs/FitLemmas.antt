-- The cells that are read fit what is said of their chunk.
use Rattle.std.proofs.Common.{◌≡◌, ℕ, ℤ, pos, zero, suc, ◌+◌, ◌<◌, ◌≤◌, nat_eq, nat_lt, ◌||◌, ◌&&◌, List, [], ◌∷◌, ◌++◌, length, take, drop, map, replicate, get_or, ◌⊎◌, inl, inr, Bool, true, false, cond, Option, Some, None, Result, Ok, Err, All, refl, sym, ap, subst, ◌∙◌, arith}
use Rattle.std.proofs.lemmas.Bool.{eqb-true}
use Rattle.std.proofs.lemmas.List.{length-append, length-map}
use Rattle.std.proofs.lemmas.List.Elements.{All-append, All-cons, All-map, All-nil, All-replicate}
use Rattle.std.proofs.lemmas.List.Sums.{sum_by-append}
use Rattle.std.proofs.lemmas.Str.{IsUtf8-from_is_utf8}
use Rattle.std.specs.Prelude.{⊤}
use Rattle.std.specs.List.{count_by}
use Rattle.std.specs.Str.{IsUtf8, is_utf8}
use Rattle.pq_encodings.specs.declared.fault.EncFault.{EncFault}
use Rattle.pq_encodings.specs.declared.plain.Physical.{Physical}
use Rattle.pq_encodings.specs.declared.plain.Physical.TheVariants as physical
use Rattle.pq_encodings.specs.Indices.{indices_before, indices_in}
use Rattle.pq_encodings.specs.declared.strings.TheConstants.{MAX_STRING}
use Rattle.pq_encodings.specs.Runs.{levels_in}
use Rattle.pq_encodings.specs.Values.{AreShort, Values, bools, i32s, i64s, strings, count_of, kind_of, made, values_in}
use Rattle.thrift_compact.proofs.Matching.{chosen}
use Rattle.pq_pages.specs.declared.chunk.ChunkSpec.{ChunkSpec}
use Rattle.pq_pages.specs.declared.fault.PageFault.{PageFault}
use Rattle.pq_pages.specs.declared.fault.PageFault.TheVariants as fault
use Rattle.pq_pages.specs.declared.headers.PageHeader.{PageHeader}
use Rattle.pq_pages.specs.declared.headers.Coding.{Coding}
use Rattle.pq_pages.specs.declared.headers.Coding.TheVariants as coding
use Rattle.pq_pages.specs.declared.headers.Page.{Page}
use Rattle.pq_pages.specs.declared.headers.Page.TheVariants as page
use Rattle.answers.specs.Answers.{◌>>=◌}
use Rattle.answers.proofs.AnswerLemmas.{steps, ok_same, err_ok}
use Rattle.pq_pages.specs.Answers.{fault_of, of_fields, of_values}
use Rattle.pq_pages.specs.Headers.{coding_of, header_of, is_code, no_page, page_field, plain_coded, runs_coded}
use Rattle.pq_pages.specs.Pages.{Cells, Chunk, all_texts, are_texts, behind_header, cells_in, chunk_of, cut_off, data_coding, data_levels, data_page, data_v2_coding, data_v2_levels, data_v2_page, dictionary_page, entries_at, entries_of, fits, flags_in, framed, in_page, indexed_values, is_one, is_whole, joined, judged, no_cells, no_values, page_in, page_values, pages_in, picked, plain_before, plain_values, run_values, whole, whole_levels, with_cells}
use Rattle.pq_pages.specs.Writing.{AreTexts}
use Rattle.pq_pages.specs.Fitting.{FitSpec}
use Rattle.thrift_compact.specs.Structs.{struct_of}

-- what the laws of the encodings say
abbrev pub LevelsAsked : Type 0
LevelsAsked = (width count : ℕ) (bytes xs : List ℕ) → levels_in width bytes count ≡ Ok xs → length xs ≡ count

abbrev pub IndicesAsked : Type 0
IndicesAsked = (count size : ℕ) (bytes xs : List ℕ) → indices_in bytes count size ≡ Ok xs → (length xs ≡ count) × All (λ x. x < size) xs

abbrev pub ValuesAsked : Type 0
ValuesAsked = (kind : Physical) (count : ℕ) (bytes : List ℕ) (vs : Values) → values_in kind count bytes ≡ Ok vs → (kind_of vs ≡ kind) × (count_of vs ≡ count) × AreShort vs

-- ---- Readings that have a value

pub ok_enc : {A : Type 0} (read : Result A EncFault) (x : A) → of_values read ≡ Ok x → read ≡ Ok x
ok_enc (Ok y) x h = let same : y ≡ x = ok_same y x h in ap (λ z. Ok z) same
ok_enc (Err e) x h = cc

-- ---- Values

-- values of a type, as many as were wanted, short enough, and texts if they have to be
pub record Fit (type_of : Physical) (count : ℕ) (text : Bool) (vs : Values) : Type 0 where
  pub kind : kind_of vs ≡ type_of
  pub size : count_of vs ≡ count
  pub short : AreShort vs
  pub texts : text ≡ true → AreTexts vs

cond_ok : (t : Bool) (more : Result ⊤ PageFault) (e : PageFault) → cond t more (Err e) ≡ Ok tt → (t ≡ true) × (more ≡ Ok tt)
cond_ok true more e h = (refl, h)
cond_ok false more e h = cc

texts_found : (place : ℕ) (xs : List (List ℕ)) → all_texts place xs ≡ Ok tt → All (λ x. IsUtf8 x) xs
texts_found place [] h = All-nil (λ (x : List ℕ). IsUtf8 x)
texts_found place (x ∷ xs) h =
    let parts = cond_ok (is_utf8 x) (all_texts (place + 1) xs) (fault.BadUtf8 place) h in
    All-cons (λ (y : List ℕ). IsUtf8 y) x xs (IsUtf8-from_is_utf8 x parts.0) (texts_found (place + 1) xs parts.1)

pub texts_are : (text : Bool) (place : ℕ) (vs : Values) → are_texts text place vs ≡ Ok tt → text ≡ true → AreTexts vs
texts_are text place (bools xs) h e = tt
texts_are text place (i32s xs) h e = tt
texts_are text place (i64s xs) h e = tt
texts_are true place (strings xs) h e = texts_found place xs h
texts_are false place (strings xs) h e = cc

pub judged_ok : (text : Bool) (place : ℕ) (read : Result Values EncFault) (before vs : Values) → judged text place read before ≡ Ok vs → (read ≡ Ok vs) × (are_texts text place vs ≡ Ok tt)
judged_ok text place (Ok ws) before vs h =
    let b = steps (are_texts text place ws) (λ u. Ok ws) vs h in
    let same : ws ≡ vs = ok_same ws vs b.later in
    (ap (λ (v : Values). Ok v) same, subst (λ v. are_texts text place v ≡ Ok tt) same b.gives)
judged_ok text place (Err e) before vs h =
    let b = steps {B = Values} (are_texts text place before) (λ u. Err (fault_of e)) vs h in
    absurd (err_ok (fault_of e) vs b.later)

plain_fit : ValuesAsked → (kind : Physical) (text : Bool) (place count : ℕ) (bytes : List ℕ) (vs : Values) → plain_values kind text place count bytes ≡ Ok vs → Fit kind count text vs
unfolding plain_values
plain_fit law kind text place count bytes vs h =
    let j = judged_ok text place (values_in kind count bytes) (plain_before kind count bytes) vs h in
    let asked = law kind count bytes vs j.0 in
    record { kind = asked.0; size = asked.1; short = asked.2; texts = texts_are text place vs j.1 }

pub flags_count : LevelsAsked → (count : ℕ) (bytes : List ℕ) (flags : List Bool) → flags_in count bytes ≡ Ok flags → length flags ≡ count
unfolding flags_in
flags_count law count bytes flags h =
    let b = steps (of_values (levels_in 1 bytes count)) (λ xs. Ok (map is_one xs)) flags h in
    let read = ok_enc (levels_in 1 bytes count) b.value b.gives in
    let same : map is_one b.value ≡ flags = ok_same _ _ b.later in
    ap length (sym same) ∙ length-map b.value is_one ∙ law 1 count bytes b.value read

pub none_fit : (kind : Physical) (count : ℕ) (text : Bool) → count ≡ 0 → Fit kind count text (no_values kind)
none_fit physical.Boolean count text h = record { kind = refl; size = sym h; short = tt; texts = λ e. tt }
none_fit physical.Int32 count text h = record { kind = refl; size = sym h; short = tt; texts = λ e. tt }
none_fit physical.Int64 count text h = record { kind = refl; size = sym h; short = tt; texts = λ e. tt }
none_fit physical.ByteArray count text h =
    record { kind = refl; size = sym h; short = All-nil (λ (x : List ℕ). length x ≤ MAX_STRING); texts = λ e. All-nil (λ (x : List ℕ). IsUtf8 x) }

bools_fit : (count : ℕ) (text : Bool) (flags : List Bool) → length flags ≡ count → Fit physical.Boolean count text (bools flags)
bools_fit count text flags h = record { kind = refl; size = h; short = tt; texts = λ e. tt }

run_fit : LevelsAsked → (text : Bool) (count : ℕ) (bytes : List ℕ) (vs : Values) → run_values count bytes ≡ Ok vs → Fit physical.Boolean count text vs
unfolding run_values
run_fit law text count bytes vs h =
    let more : Result Values PageFault = framed bytes >>= λ parts. flags_in count parts.0 >>= λ flags. Ok (bools flags) in
    elim (chosen (nat_eq count 0) (Ok (bools [])) more (Ok vs) h) [
      | inl a ↦
          let same : bools [] ≡ vs = ok_same (bools []) vs a.1 in
          subst (λ v. Fit physical.Boolean count text v) same (none_fit physical.Boolean count text (eqb-true count 0 a.0))
      | inr a ↦
          let b = steps (framed bytes) (λ parts. flags_in count parts.0 >>= λ flags. Ok (bools flags)) vs a.1 in
          let c = steps (flags_in count b.value.0) (λ flags. Ok (bools flags)) vs b.later in
          let same : bools c.value ≡ vs = ok_same (bools c.value) vs c.later in
          subst (λ v. Fit physical.Boolean count text v) same (bools_fit count text c.value (flags_count law count b.value.0 c.value c.gives))
    ]

-- ---- Entries of a dictionary

picked_kind : (entries : Values) (numbers : List ℕ) → kind_of (picked entries numbers) ≡ kind_of entries
picked_kind (bools xs) numbers = refl
picked_kind (i32s xs) numbers = refl
picked_kind (i64s xs) numbers = refl
picked_kind (strings xs) numbers = refl

picked_size : (entries : Values) (numbers : List ℕ) → count_of (picked entries numbers) ≡ length numbers
picked_size (bools xs) numbers = length-map numbers (λ i. get_or xs i false)
picked_size (i32s xs) numbers = length-map numbers (λ i. get_or xs i (pos 0))
picked_size (i64s xs) numbers = length-map numbers (λ i. get_or xs i (pos 0))
picked_size (strings xs) numbers = length-map numbers (λ i. get_or xs i [])

picked_short : (entries : Values) (numbers : List ℕ) → AreShort entries → All (λ i. i < count_of entries) numbers → AreShort (picked entries numbers)
picked_short (bools xs) numbers short below = tt
picked_short (i32s xs) numbers short below = tt
picked_short (i64s xs) numbers short below = tt
picked_short (strings xs) numbers short below =
    All-map (λ (x : List ℕ). length x ≤ MAX_STRING) (λ i. get_or xs i []) numbers (λ k d h. short (get_or numbers k d) [] (below k d h))

record Made {X : Type 0} (f : X → Values) (read : Result X EncFault) (vs : Values) : Type 0 where
  pub value : X
  pub had : read ≡ Ok value
  pub same : f value ≡ vs

made_is : {X : Type 0} (f : X → Values) (read : Result X EncFault) (vs : Values) → made f read ≡ Ok vs → Made f read vs
made_is f (Ok x) vs h =
    let same : f x ≡ vs = cc in record { value = x; had = refl; same = same }
made_is f (Err e) vs h = cc

entries_fit : IndicesAsked → (text : Bool) (place : ℕ) (entries : Values) (count : ℕ) (bytes : List ℕ) (vs : Values) → AreShort entries → entries_at text place entries count bytes ≡ Ok vs → Fit (kind_of entries) count text vs
unfolding entries_at
entries_fit law text place entries count bytes vs short h =
    let size = count_of entries in
    let j = judged_ok text place (made (picked entries) (indices_in bytes count size)) (picked entries (indices_before bytes count size)) vs h in
    let m = made_is (picked entries) (indices_in bytes count size) vs j.0 in
    let asked = law count size bytes m.value m.had in
    record {
      kind = ap kind_of (sym m.same) ∙ picked_kind entries m.value;
      size = ap count_of (sym m.same) ∙ picked_size entries m.value ∙ asked.0;
      short = subst (λ v. AreShort v) m.same (picked_short entries m.value short asked.1);
      texts = texts_are text place vs j.1;
    }

abbrev DictionaryFits : Physical → Option Values → Type 0
DictionaryFits kind None = Unit {0}
DictionaryFits kind (Some entries) = (kind_of entries ≡ kind) × AreShort entries

entries_of_fit : IndicesAsked → (kind : Physical) (text : Bool) (place : ℕ) (dictionary : Option Values) (count : ℕ) (bytes : List ℕ) (vs : Values) → DictionaryFits kind dictionary → entries_of text place dictionary count bytes ≡ Ok vs → Fit kind count text vs
entries_of_fit law kind text place None count bytes vs fits h = cc
entries_of_fit law kind text place (Some entries) count bytes vs fits h =
    subst (λ k. Fit k count text vs) fits.0 (entries_fit law text place entries count bytes vs fits.1 h)

indexed_fit : IndicesAsked → (kind : Physical) (text : Bool) (place : ℕ) (dictionary : Option Values) (count : ℕ) (bytes : List ℕ) (vs : Values) → DictionaryFits kind dictionary → indexed_values kind text place dictionary count bytes ≡ Ok vs → Fit kind count text vs
unfolding indexed_values
indexed_fit law kind text place dictionary count bytes vs fits h =
    elim (chosen (nat_eq count 0) (Ok (no_values kind)) (entries_of text place dictionary count bytes) (Ok vs) h) [
      | inl a ↦
          let same : no_values kind ≡ vs = ok_same (no_values kind) vs a.1 in
          subst (λ v. Fit kind count text v) same (none_fit kind count text (eqb-true count 0 a.0))
      | inr a ↦ entries_of_fit law kind text place dictionary count bytes vs fits a.1
    ]

-- ---- Pages

record Sound (spec : ChunkSpec) (had : Chunk) : Type 0 where
  pub kind : kind_of had.values ≡ spec.kind
  pub matched : count_of had.values ≡ count_by (λ flag. flag) had.defined
  pub required : spec.optional ≡ false → All (λ flag. flag ≡ true) had.defined
  pub short : AreShort had.values
  pub texts : spec.text ≡ true → AreTexts had.values
  pub dictionary : DictionaryFits spec.kind had.dictionary

-- the three laws
record Laws : Type 0 where
  pub levels : LevelsAsked
  pub indices : IndicesAsked
  pub values : ValuesAsked

page_fit : Laws → (spec : ChunkSpec) (had : Chunk) (way : Coding) (count : ℕ) (bytes : List ℕ) (vs : Values) → Sound spec had → (way ≡ coding.Runs → spec.kind ≡ physical.Boolean)
    → page_values spec had way count bytes ≡ Ok vs → Fit spec.kind count spec.text vs
page_fit laws spec had coding.Plain count bytes vs sound runs h = plain_fit laws.values spec.kind spec.text (count_of had.values) count bytes vs h
page_fit laws spec had coding.Indices count bytes vs sound runs h = indexed_fit laws.indices spec.kind spec.text (count_of had.values) had.dictionary count bytes vs sound.dictionary h
page_fit laws spec had coding.Runs count bytes vs sound runs h = subst (λ k. Fit k count spec.text vs) (sym (runs refl)) (run_fit laws.levels spec.text count bytes vs h)

not_runs : (a b c d : Bool) (e : PageFault)
    → cond a (Ok coding.Plain) (cond b (Ok coding.Indices) (cond c (Ok coding.Indices) (cond (d && false) (Ok coding.Runs) (Err e)))) ≡ Ok coding.Runs → ⊥
not_runs true b c d e h = cc
not_runs false true c d e h = cc
not_runs false false true d e h = cc
not_runs false false false true e h = cc
not_runs false false false false e h = cc

pub runs_are_boolean : (kind : Physical) (code : ℤ) (way : Coding) → coding_of kind code ≡ Ok way → way ≡ coding.Runs → kind ≡ physical.Boolean
unfolding coding_of
runs_are_boolean physical.Boolean code way h e = refl
runs_are_boolean physical.Int32 code way h e = absurd (not_runs (is_code 0 code) (is_code 2 code) (is_code 8 code) (is_code 3 code) (fault.Encoding code) (h ∙ ap (λ w. Ok w) e))
runs_are_boolean physical.Int64 code way h e = absurd (not_runs (is_code 0 code) (is_code 2 code) (is_code 8 code) (is_code 3 code) (fault.Encoding code) (h ∙ ap (λ w. Ok w) e))
runs_are_boolean physical.ByteArray code way h e = absurd (not_runs (is_code 0 code) (is_code 2 code) (is_code 8 code) (is_code 3 code) (fault.Encoding code) (h ∙ ap (λ w. Ok w) e))

-- values behind others of the same type
record Joins (vs ws : Values) : Type 0 where
  pub kind : kind_of (joined vs ws) ≡ kind_of vs
  pub size : count_of (joined vs ws) ≡ count_of vs + count_of ws
  pub short : AreShort vs → AreShort ws → AreShort (joined vs ws)
  pub texts : AreTexts vs → AreTexts ws → AreTexts (joined vs ws)

joins : (vs ws : Values) → kind_of vs ≡ kind_of ws → Joins vs ws
joins (bools xs) (bools ys) same = record { kind = refl; size = length-append xs ys; short = λ a b. tt; texts = λ a b. tt }
joins (i32s xs) (i32s ys) same = record { kind = refl; size = length-append xs ys; short = λ a b. tt; texts = λ a b. tt }
joins (i64s xs) (i64s ys) same = record { kind = refl; size = length-append xs ys; short = λ a b. tt; texts = λ a b. tt }
joins (strings xs) (strings ys) same =
    record { kind = refl; size = length-append xs ys; short = All-append (λ (x : List ℕ). length x ≤ MAX_STRING) xs ys; texts = All-append (λ (x : List ℕ). IsUtf8 x) xs ys }
joins (bools xs) (i32s ys) same = cc
joins (bools xs) (i64s ys) same = cc
joins (bools xs) (strings ys) same = cc
joins (i32s xs) (bools ys) same = cc
joins (i32s xs) (i64s ys) same = cc
joins (i32s xs) (strings ys) same = cc
joins (i64s xs) (bools ys) same = cc
joins (i64s xs) (i32s ys) same = cc
joins (i64s xs) (strings ys) same = cc
joins (strings xs) (bools ys) same = cc
joins (strings xs) (i32s ys) same = cc
joins (strings xs) (i64s ys) same = cc

with_cells_sound : Laws → (spec : ChunkSpec) (had : Chunk) (way : Coding) (flags : List Bool) (bytes : List ℕ) (new : Chunk) → Sound spec had → (way ≡ coding.Runs → spec.kind ≡ physical.Boolean)
    → (spec.optional ≡ false → All (λ flag. flag ≡ true) flags) → with_cells spec had way flags bytes ≡ Ok new → Sound spec new
unfolding with_cells
with_cells_sound laws spec had way flags bytes new sound runs all_true h =
    let count = count_by (λ flag. flag) flags in
    let b = steps (page_values spec had way count bytes) (λ vs. Ok (record had { defined = had.defined ++ flags; values = joined had.values vs })) new h in
    let vs : Values = b.value in
    let fit = page_fit laws spec had way count bytes vs sound runs b.gives in
    let j = joins had.values vs (sound.kind ∙ sym fit.kind) in
    let same : record had { defined = had.defined ++ flags; values = joined had.values vs } ≡ new = ok_same _ new b.later in
    subst (λ c. Sound spec c) same (record {
      kind = j.kind ∙ sound.kind;
      matched = omega (arith, j.size, sound.matched, fit.size, sum_by-append (λ flag. cond flag 1 0) had.defined flags);
      required = λ e. All-append (λ (flag : Bool). flag ≡ true) had.defined flags (sound.required e) (all_true e);
      short = j.short sound.short fit.short;
      texts = λ e. j.texts (sound.texts e) (fit.texts e);
      dictionary = sound.dictionary;
    })

levels_required : (optional : Bool) (count : ℕ) (body : List ℕ) (found : List Bool × List ℕ) → data_levels optional count body ≡ Ok found → optional ≡ false → All (λ flag. flag ≡ true) found.0
unfolding data_levels
levels_required true count body found h e = cc
levels_required false count body found h e =
    let same : (replicate count true, body) ≡ found = ok_same _ found h in
    subst (λ (x : List Bool × List ℕ). All (λ (flag : Bool). flag ≡ true) x.0) same (All-replicate (λ (flag : Bool). flag ≡ true) count true refl)

levels_v2_required : (optional : Bool) (count size : ℕ) (body : List ℕ) (found : List Bool × List ℕ) → data_v2_levels optional count size body ≡ Ok found → optional ≡ false → All (λ flag. flag ≡ true) found.0
unfolding data_v2_levels
levels_v2_required true count size body found h e = cc
levels_v2_required false count size body found h e =
    let same : (replicate count true, drop size body) ≡ found = ok_same _ found h in
    subst (λ (x : List Bool × List ℕ). All (λ (flag : Bool). flag ≡ true) x.0) same (All-replicate (λ (flag : Bool). flag ≡ true) count true refl)

data_runs : (spec : ChunkSpec) (had : Chunk) (count : ℕ) (encoding : ℤ) (levels_encoding : Option ℤ) (way : Coding) → data_coding spec had count encoding levels_encoding ≡ Ok way → way ≡ coding.Runs → spec.kind ≡ physical.Boolean
unfolding data_coding
data_runs spec had count encoding levels_encoding way h =
    let b = steps (fits spec had count) (λ u. coding_of spec.kind encoding >>= λ w. runs_coded levels_encoding >>= λ v. Ok w) way h in
    let c = steps (coding_of spec.kind encoding) (λ w. runs_coded levels_encoding >>= λ v. Ok w) way b.later in
    let d = steps (runs_coded levels_encoding) (λ v. Ok c.value) way c.later in
    let same : c.value ≡ way = ok_same c.value way d.later in
    λ e. runs_are_boolean spec.kind encoding c.value c.gives (same ∙ e)

data_v2_runs : (spec : ChunkSpec) (had : Chunk) (count : ℕ) (encoding : ℤ) (size repetition : ℕ) (body : List ℕ) (way : Coding) → data_v2_coding spec had count encoding size repetition body ≡ Ok way → way ≡ coding.Runs → spec.kind ≡ physical.Boolean
unfolding data_v2_coding
data_v2_runs spec had count encoding size repetition body way h =
    let b = steps (fits spec had count) (λ u. coding_of spec.kind encoding >>= λ w. whole_levels size repetition body >>= λ v. Ok w) way h in
    let c = steps (coding_of spec.kind encoding) (λ w. whole_levels size repetition body >>= λ v. Ok w) way b.later in
    let d = steps (whole_levels size repetition body) (λ v. Ok c.value) way c.later in
    let same : c.value ≡ way = ok_same c.value way d.later in
    λ e. runs_are_boolean spec.kind encoding c.value c.gives (same ∙ e)

data_sound : Laws → (spec : ChunkSpec) (had : Chunk) (count : ℕ) (way : Coding) (body : List ℕ) (new : Chunk) → Sound spec had → (way ≡ coding.Runs → spec.kind ≡ physical.Boolean)
    → data_page spec had count way body ≡ Ok new → Sound spec new
unfolding data_page
data_sound laws spec had count way body new sound runs h =
    let b = steps (data_levels spec.optional count body) (λ found. with_cells spec had way found.0 found.1) new h in
    with_cells_sound laws spec had way b.value.0 b.value.1 new sound runs (levels_required spec.optional count body b.value b.gives) b.later

data_v2_sound : Laws → (spec : ChunkSpec) (had : Chunk) (count size : ℕ) (way : Coding) (body : List ℕ) (new : Chunk) → Sound spec had → (way ≡ coding.Runs → spec.kind ≡ physical.Boolean)
    → data_v2_page spec had count size way body ≡ Ok new → Sound spec new
unfolding data_v2_page
data_v2_sound laws spec had count size way body new sound runs h =
    let b = steps (data_v2_levels spec.optional count size body) (λ found. with_cells spec had way found.0 found.1) new h in
    with_cells_sound laws spec had way b.value.0 b.value.1 new sound runs (levels_v2_required spec.optional count size body b.value b.gives) b.later

dictionary_sound : Laws → (spec : ChunkSpec) (had : Chunk) (count : ℕ) (encoding : ℤ) (body : List ℕ) (new : Chunk) → Sound spec had → dictionary_page spec had count encoding body ≡ Ok new → Sound spec new
unfolding dictionary_page
dictionary_sound laws spec had count encoding body new sound h =
    let b = steps (plain_coded encoding) (λ u. of_values (values_in spec.kind count body) >>= λ entries. Ok (record had { dictionary = Some entries })) new h in
    let c = steps (of_values (values_in spec.kind count body)) (λ entries. Ok (record had { dictionary = Some entries })) new b.later in
    let asked = laws.values spec.kind count body c.value (ok_enc (values_in spec.kind count body) c.value c.gives) in
    let same : record had { dictionary = Some c.value } ≡ new = ok_same _ new c.later in
    subst (λ x. Sound spec x) same (record {
      kind = sound.kind;
      matched = sound.matched;
      required = sound.required;
      short = sound.short;
      texts = sound.texts;
      dictionary = (asked.0, asked.2);
    })

in_page_sound : Laws → (spec : ChunkSpec) (had : Chunk) (found : Page) (body : List ℕ) (new : Chunk) → Sound spec had → in_page spec had found body ≡ Ok new → Sound spec new
in_page_sound laws spec had (page.Data count encoding levels_encoding) body new sound h =
    let b = steps (data_coding spec had count encoding levels_encoding) (λ way. data_page spec had count way body) new h in
    data_sound laws spec had count b.value body new sound (data_runs spec had count encoding levels_encoding b.value b.gives) b.later
in_page_sound laws spec had (page.DataV2 count encoding size repetition) body new sound h =
    let b = steps (data_v2_coding spec had count encoding size repetition body) (λ way. data_v2_page spec had count size way body) new h in
    data_v2_sound laws spec had count size b.value body new sound (data_v2_runs spec had count encoding size repetition body b.value b.gives) b.later
in_page_sound laws spec had (page.Dictionary count encoding) body new sound h = dictionary_sound laws spec had count encoding body new sound h
in_page_sound laws spec had page.Other body new sound h = subst (λ x. Sound spec x) (ok_same had new h) sound

behind_sound : Laws → (spec : ChunkSpec) (had : Chunk) (header : PageHeader) (bytes : List ℕ) (new : Chunk × List ℕ) → Sound spec had → behind_header spec had header bytes ≡ Ok new → Sound spec new.0
unfolding behind_header
behind_sound laws spec had header bytes new sound h =
    let more : Result (Chunk × List ℕ) PageFault = in_page spec had header.page (take header.size bytes) >>= λ c. Ok (c, drop header.size bytes) in
    elim (chosen (nat_lt (length bytes) header.size) (Err cut_off) more (Ok new) h) [
      | inl a ↦ absurd (err_ok cut_off new a.1)
      | inr a ↦
          let b = steps (in_page spec had header.page (take header.size bytes)) (λ c. Ok (c, drop header.size bytes)) new a.1 in
          let same : (b.value, drop header.size bytes) ≡ new = ok_same _ new b.later in
          subst (λ (x : Chunk × List ℕ). Sound spec x.0) same (in_page_sound laws spec had header.page (take header.size bytes) b.value sound b.gives)
    ]

page_sound : Laws → (spec : ChunkSpec) (end : ℕ) (had : Chunk) (bytes : List ℕ) (new : Chunk × List ℕ) → Sound spec had → page_in spec end had bytes ≡ Ok new → Sound spec new.0
unfolding page_in
page_sound laws spec end had bytes new sound h =
    let b = steps (of_fields (struct_of page_field no_page end bytes)) (λ draft. header_of spec.optional draft.0 >>= λ header. behind_header spec had header draft.1) new h in
    let c = steps (header_of spec.optional b.value.0) (λ header. behind_header spec had header b.value.1) new b.later in
    behind_sound laws spec had c.value b.value.1 new sound c.later

-- all cells were had, and they are sound
record Whole (spec : ChunkSpec) (had : Chunk) : Type 0 where
  pub sound : Sound spec had
  pub counted : length had.defined ≡ spec.num_values

whole_sound : (spec : ChunkSpec) (had new : Chunk) → Sound spec had → whole spec had ≡ Ok new → Whole spec new
whole_sound spec had new sound h =
    elim (chosen (is_whole spec had) (Ok had) (Err (fault.Count spec.num_values (length had.defined))) (Ok new) h) [
      | inl a ↦
          let same : had ≡ new = ok_same had new a.1 in
          subst (λ x. Whole spec x) same (record { sound = sound; counted = eqb-true _ _ a.0 })
      | inr a ↦ absurd (err_ok _ new a.1)
    ]

pages_sound : Laws → (spec : ChunkSpec) (end most : ℕ) (had : Chunk) (bytes : List ℕ) (new : Chunk) → Sound spec had → pages_in spec end most had bytes ≡ Ok new → Whole spec new
unfolding pages_in
pages_sound laws spec end zero had bytes new sound h = whole_sound spec had new sound h
pages_sound laws spec end (suc most) had bytes new sound h =
    elim (chosen (is_whole spec had || nat_eq (length bytes) 0) (whole spec had) (page_in spec end had bytes >>= λ x. pages_in spec end most x.0 x.1) (Ok new) h) [
      | inl a ↦ whole_sound spec had new sound a.1
      | inr a ↦
          let b = steps (page_in spec end had bytes) (λ x. pages_in spec end most x.0 x.1) new a.1 in
          pages_sound laws spec end most b.value.0 b.value.1 new (page_sound laws spec end had bytes b.value sound b.gives) b.later
    ]

none_sound : (spec : ChunkSpec) → Sound spec (no_cells spec.kind)
none_sound spec =
    let fit = none_fit spec.kind 0 spec.text refl in
    record { kind = fit.kind; matched = fit.size; required = λ e. All-nil (λ (flag : Bool). flag ≡ true); short = fit.short; texts = fit.texts; dictionary = tt }

fit_of : (spec : ChunkSpec) (had : Chunk) → Whole spec had → FitSpec spec (cells_in had)
fit_of spec had found =
    record { counted = found.counted; kind = found.sound.kind; matched = found.sound.matched; required = found.sound.required; short = found.sound.short; texts = found.sound.texts }

pub chunk_fits : LevelsAsked → IndicesAsked → ValuesAsked → (spec : ChunkSpec) (bytes : List ℕ) (cells : Cells) → chunk_of spec bytes ≡ Ok cells → FitSpec spec cells
unfolding chunk_of
chunk_fits levels indices values spec bytes cells h =
    let laws : Laws = record { levels = levels; indices = indices; values = values } in
    let size = length bytes in
    let more : Result Cells PageFault = pages_in spec size size (no_cells spec.kind) bytes >>= λ had. Ok (cells_in had) in
    elim (chosen (is_code 0 spec.codec) more (Err (fault.Compressed spec.codec)) (Ok cells) h) [
      | inl a ↦
          let b = steps (pages_in spec size size (no_cells spec.kind) bytes) (λ had. Ok (cells_in had)) cells a.1 in
          let same : cells_in b.value ≡ cells = ok_same _ cells b.later in
          subst (λ x. FitSpec spec x) same (fit_of spec b.value (pages_sound laws spec size size (no_cells spec.kind) bytes b.value (none_sound spec) b.gives))
      | inr a ↦ absurd (err_ok _ cells a.1)
    ]
