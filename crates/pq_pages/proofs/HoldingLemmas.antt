-- A chunk's cells are read exactly where the chunk holds them.
use Rattle.std.proofs.Common.{◌≡◌, ℕ, ℤ, pos, negsuc, zero, suc, ◌+◌, ◌≤◌, nat_eq, nat_lt, ◌||◌, List, [], ◌∷◌, ◌++◌, length, take, drop, fold, replicate, inl, inr, ◌↔◌, Bool, true, false, Option, Result, Ok, Err, refl, sym, ap, subst, ◌∙◌, append-nil, arith}
use Rattle.std.specs.List.{count_by}
use Rattle.std.proofs.Math.Seq.{drop-append_seam, take-append_seam}
use Rattle.std.proofs.lemmas.Bool.{cases_Bool, eqb-true, le-ltb, ne_eqb}
use Rattle.std.proofs.lemmas.List.{length-append, length-replicate}
use Rattle.thrift_compact.specs.Structs.{struct_in, struct_of}
use Rattle.pq_encodings.specs.declared.plain.Physical.{Physical}
use Rattle.pq_encodings.specs.declared.plain.Physical.TheVariants as physical
use Rattle.pq_encodings.specs.Values.{Values, bools, i32s, i64s, strings, kind_of}
use Rattle.thrift_compact.proofs.Matching.{chosen}
use Rattle.pq_pages.specs.declared.chunk.ChunkSpec.{ChunkSpec}
use Rattle.pq_pages.specs.declared.chunk.RawCells.{RawCells}
use Rattle.pq_pages.specs.declared.fault.PageFault.{PageFault}
use Rattle.pq_pages.specs.declared.fault.PageFault.TheVariants as fault
use Rattle.pq_pages.specs.declared.headers.Coding.{Coding}
use Rattle.pq_pages.specs.declared.headers.Coding.TheVariants as coding
use Rattle.pq_pages.specs.declared.headers.Page.{Page}
use Rattle.pq_pages.specs.declared.headers.Page.TheVariants as page
use Rattle.answers.specs.Answers.{Gives, ◌>>=◌}
use Rattle.pq_pages.specs.Answers.{is_memory}
use Rattle.pq_pages.specs.Headers.{is_code, runs_coded}
use Rattle.pq_pages.specs.Holding.{AnswersChunk, AreValues, BeginWith, BeginsWith, Content, Defines, HasContent, HasLevels, HasLevelsV2, HaveContents, Holds, HoldsCells, IsChunk, StoredPage, Nothing, beside, latest, no_cell}
use Rattle.pq_pages.specs.Pages.{Cells, Chunk, behind_header, cells_in, cells_of, chunk_of, data_coding, data_levels, data_page, data_v2_coding, data_v2_levels, data_v2_page, dictionary_page, fits, flags_in, framed, in_page, is_whole, joined, no_cells, no_values, page_in, pages_in, whole, whole_levels, with_cells}
use Rattle.pq_pages.proofs.ChunkBackLemmas.{ends_here, next_page, none_at_all}
use Rattle.answers.proofs.AnswerLemmas.{decides, steps, err_ok, ok_same}
use Rattle.pq_pages.proofs.FitLemmas.{LevelsAsked, ValuesAsked, flags_count}
use Rattle.pq_pages.proofs.LevelsHeldLemmas.{levels_found, levels_v2_found}
use Rattle.pq_pages.proofs.HeldLemmas.{grown, stored_held, values_found}

-- ---- What a page holds is found

cells_found : (spec : ChunkSpec) (had : Chunk) (encoding : ℤ) (levels : Result (List Bool × List ℕ) PageFault) (Has : List Bool → List ℕ → Type 0) (cells : Cells)
    → ((flags : List Bool) (behind : List ℕ) → Has flags behind → levels ≡ Ok (flags, behind)) → (is : HoldsCells spec had.dictionary encoding Has cells)
    → (levels >>= λ found. with_cells spec had is.way found.0 found.1) ≡ Ok (grown had (Holds cells))
unfolding with_cells
cells_found spec had encoding levels Has cells are is =
    rw (are cells.defined is.behind is.defined, values_found spec had is.way (count_by (λ flag. flag) cells.defined) is.behind cells.values is.values) refl

levels_count : LevelsAsked → (optional : Bool) (count : ℕ) (body : List ℕ) (found : List Bool × List ℕ) → data_levels optional count body ≡ Ok found → length found.0 ≡ count
unfolding data_levels
levels_count law false count body found h =
    let same : (replicate count true, body) ≡ found = ok_same (replicate count true, body) found h in
    subst (λ (x : List Bool × List ℕ). length x.0 ≡ count) same (length-replicate count true)
levels_count law true count body found h =
    let more : Result (List Bool × List ℕ) PageFault = framed body >>= λ parts. flags_in count parts.0 >>= λ flags. Ok (flags, parts.1) in
    elim (chosen (nat_eq count 0) (Ok ([], body)) more (Ok found) h) [
      | inl a ↦
          let same : ([], body) ≡ found = ok_same ([], body) found a.1 in
          subst (λ (x : List Bool × List ℕ). length x.0 ≡ count) same (sym (eqb-true count 0 a.0))
      | inr a ↦
          let b = steps (framed body) (λ parts. flags_in count parts.0 >>= λ flags. Ok (flags, parts.1)) found a.1 in
          let c = steps (flags_in count b.value.0) (λ flags. Ok (flags, b.value.1)) found b.later in
          let same : (c.value, b.value.1) ≡ found = ok_same (c.value, b.value.1) found c.later in
          subst (λ (x : List Bool × List ℕ). length x.0 ≡ count) same (flags_count law count b.value.0 c.value c.gives)
    ]

levels_v2_count : LevelsAsked → (optional : Bool) (count size : ℕ) (body : List ℕ) (found : List Bool × List ℕ) → data_v2_levels optional count size body ≡ Ok found → length found.0 ≡ count
unfolding data_v2_levels
levels_v2_count law false count size body found h =
    let same : (replicate count true, drop size body) ≡ found = ok_same (replicate count true, drop size body) found h in
    subst (λ (x : List Bool × List ℕ). length x.0 ≡ count) same (length-replicate count true)
levels_v2_count law true count size body found h =
    let b = steps (flags_in count (take size body)) (λ flags. Ok (flags, drop size body)) found h in
    let same : (b.value, drop size body) ≡ found = ok_same (b.value, drop size body) found b.later in
    subst (λ (x : List Bool × List ℕ). length x.0 ≡ count) same (flags_count law count (take size body) b.value b.gives)

-- the cells that were had, with these behind them, are no more than are wanted
abbrev HasRoom : ChunkSpec → Chunk → Content → Type 0
HasRoom spec had content = length (beside (cells_in had) content).defined ≤ spec.num_values

fits_in : (spec : ChunkSpec) (had : Chunk) (count : ℕ) → length had.defined + count ≤ spec.num_values → fits spec had count ≡ Ok tt
unfolding fits
fits_in spec had count room =
    let enough : nat_lt spec.num_values (length had.defined + count) ≡ false = le-ltb _ _ room in
    rw enough refl

data_found : LevelsAsked → (spec : ChunkSpec) (had : Chunk) (count : ℕ) (encoding : ℤ) (levels_encoding : Option ℤ) (body : List ℕ) (cells : Cells) → runs_coded levels_encoding ≡ Ok tt
    → (is : HoldsCells spec had.dictionary encoding (HasLevels spec.optional count body) cells) → length (had.defined ++ cells.defined) ≤ spec.num_values
    → in_page spec had (page.Data count encoding levels_encoding) body ≡ Ok (grown had (Holds cells))
unfolding data_coding data_page
data_found law spec had count encoding levels_encoding body cells runs is room =
    let size : length cells.defined ≡ count = levels_count law spec.optional count body (cells.defined, is.behind) (levels_found spec.optional count body cells.defined is.behind is.defined) in
    let inside : length had.defined + count ≤ spec.num_values = omega (arith, room, size, length-append had.defined cells.defined) in
    let way : data_coding spec had count encoding levels_encoding ≡ Ok is.way = rw (fits_in spec had count inside, is.coded, runs) refl in
    rw way (cells_found spec had encoding (data_levels spec.optional count body) (HasLevels spec.optional count body) cells (levels_found spec.optional count body) is)

whole_found : (size repetition : ℕ) (body : List ℕ) → size ≤ length body → repetition ≡ 0 → whole_levels size repetition body ≡ Ok tt
unfolding whole_levels
whole_found size repetition body room none =
    let held : nat_lt (length body) size ≡ false = le-ltb _ _ room in
    rw (held, none) refl

data_v2_found : LevelsAsked → (spec : ChunkSpec) (had : Chunk) (count : ℕ) (encoding : ℤ) (size repetition : ℕ) (body : List ℕ) (cells : Cells) → size ≤ length body → repetition ≡ 0
    → (is : HoldsCells spec had.dictionary encoding (HasLevelsV2 spec.optional count size body) cells) → length (had.defined ++ cells.defined) ≤ spec.num_values
    → in_page spec had (page.DataV2 count encoding size repetition) body ≡ Ok (grown had (Holds cells))
unfolding data_v2_coding data_v2_page
data_v2_found law spec had count encoding size repetition body cells held none is room =
    let many : length cells.defined ≡ count = levels_v2_count law spec.optional count size body (cells.defined, is.behind) (levels_v2_found spec.optional count size body cells.defined is.behind is.defined) in
    let inside : length had.defined + count ≤ spec.num_values = omega (arith, room, many, length-append had.defined cells.defined) in
    let way : data_v2_coding spec had count encoding size repetition body ≡ Ok is.way = rw (fits_in spec had count inside, is.coded, whole_found size repetition body held none) refl in
    rw way (cells_found spec had encoding (data_v2_levels spec.optional count size body) (HasLevelsV2 spec.optional count size body) cells (levels_v2_found spec.optional count size body) is)

dictionary_found : (spec : ChunkSpec) (had : Chunk) (count : ℕ) (encoding : ℤ) (body : List ℕ) (entries : Values) → HasContent spec had.dictionary (page.Dictionary count encoding) body (Defines entries)
    → in_page spec had (page.Dictionary count encoding) body ≡ Ok (grown had (Defines entries))
unfolding dictionary_page
dictionary_found spec had count encoding body entries has = rw (has.0, has.1) refl

page_found : LevelsAsked → (spec : ChunkSpec) (had : Chunk) (says : Page) (body : List ℕ) (content : Content) → HasContent spec had.dictionary says body content → HasRoom spec had content
    → in_page spec had says body ≡ Ok (grown had content)
page_found law spec had (page.Data count encoding levels_encoding) body (Holds cells) has room = data_found law spec had count encoding levels_encoding body cells has.0 has.1 room
page_found law spec had (page.DataV2 count encoding size repetition) body (Holds cells) has room =
    data_v2_found law spec had count encoding size repetition body cells has.0 has.1 has.2 room
page_found law spec had (page.Dictionary count encoding) body (Defines entries) has room = dictionary_found spec had count encoding body entries has
page_found law spec had page.Other body Nothing has room = refl
page_found law spec had (page.Data count encoding levels_encoding) body (Defines entries) has room = absurd has
page_found law spec had (page.Data count encoding levels_encoding) body Nothing has room = absurd has
page_found law spec had (page.DataV2 count encoding size repetition) body (Defines entries) has room = absurd has
page_found law spec had (page.DataV2 count encoding size repetition) body Nothing has room = absurd has
page_found law spec had (page.Dictionary count encoding) body (Holds cells) has room = absurd has
page_found law spec had (page.Dictionary count encoding) body Nothing has room = absurd has
page_found law spec had page.Other body (Holds cells) has room = absurd has
page_found law spec had page.Other body (Defines entries) has room = absurd has

stored_found : LevelsAsked → (spec : ChunkSpec) (end : ℕ) (had : Chunk) (bytes : List ℕ) (stored : StoredPage) (content : Content) (rest : List ℕ) → BeginsWith spec.optional end bytes stored rest
    → HasContent spec had.dictionary stored.says stored.body content → HasRoom spec had content → page_in spec end had bytes ≡ Ok (grown had content, rest)
unfolding page_in behind_header
stored_found law spec end had bytes stored content rest is has room =
    let held : nat_lt (length (stored.body ++ rest)) (length stored.body) ≡ false = le-ltb _ _ (omega (arith, length-append stored.body rest)) in
    rw (is.header, is.says, is.parts, held, take-append_seam stored.body rest, drop-append_seam stored.body rest, page_found law spec had stored.says stored.body content has room) refl

-- a page has a byte at least
some_byte : (optional : Bool) (end : ℕ) (bytes : List ℕ) (stored : StoredPage) (rest : List ℕ) → BeginsWith optional end bytes stored rest → nat_eq (length bytes) 0 ≡ false
unfolding struct_of struct_in
some_byte optional end [] stored rest is = let never = is.header in cc
some_byte optional end (b ∷ bytes) stored rest is = ne_eqb (length (b ∷ bytes)) 0 (λ e. cc)

-- ---- Pages behind the last cell hold no cells

joined_nothing : (vs : Values) (kind : Physical) → joined vs (no_values kind) ≡ vs
joined_nothing (bools xs) physical.Boolean = ap (λ (ys : List Bool). bools ys) (append-nil xs)
joined_nothing (bools xs) physical.Int32 = refl
joined_nothing (bools xs) physical.Int64 = refl
joined_nothing (bools xs) physical.ByteArray = refl
joined_nothing (i32s xs) physical.Boolean = refl
joined_nothing (i32s xs) physical.Int32 = ap (λ (ys : List ℤ). i32s ys) (append-nil xs)
joined_nothing (i32s xs) physical.Int64 = refl
joined_nothing (i32s xs) physical.ByteArray = refl
joined_nothing (i64s xs) physical.Boolean = refl
joined_nothing (i64s xs) physical.Int32 = refl
joined_nothing (i64s xs) physical.Int64 = ap (λ (ys : List ℤ). i64s ys) (append-nil xs)
joined_nothing (i64s xs) physical.ByteArray = refl
joined_nothing (strings xs) physical.Boolean = refl
joined_nothing (strings xs) physical.Int32 = refl
joined_nothing (strings xs) physical.Int64 = refl
joined_nothing (strings xs) physical.ByteArray = ap (λ (ys : List (List ℕ)). strings ys) (append-nil xs)

none_stand : ValuesAsked → (spec : ChunkSpec) (dictionary : Option Values) (way : Coding) (bytes : List ℕ) (vs : Values) → AreValues spec dictionary way 0 bytes vs
    → (kind : Physical) × (vs ≡ no_values kind)
none_stand law spec dictionary coding.Plain bytes vs is = (kind_of vs, sym (none_at_all vs (law spec.kind 0 bytes vs is.0).1))
none_stand law spec dictionary coding.Indices bytes vs is = elim is.0 [ inl a ↦ (spec.kind, a.1) | inr a ↦ absurd (a.0 refl) ]
none_stand law spec dictionary coding.Runs bytes vs is = elim is [ inl a ↦ (physical.Boolean, a.1) | inr a ↦ absurd (a.0 refl) ]

nothing_added : ValuesAsked → (spec : ChunkSpec) (dictionary : Option Values) (encoding : ℤ) (Has : List Bool → List ℕ → Type 0) (flags : List Bool) (vs : Values) (had : Cells)
    → HoldsCells spec dictionary encoding Has (record { defined = flags; values = vs }) → length (had.defined ++ flags) ≡ length had.defined
    → beside had (Holds (record { defined = flags; values = vs })) ≡ had
nothing_added law spec dictionary encoding Has [] vs had is same =
    let none = none_stand law spec dictionary is.way is.behind vs is.values in
    rw (none.1, append-nil had.defined, joined_nothing had.values none.0) refl
nothing_added law spec dictionary encoding Has (flag ∷ flags) vs had is same =
    let longer : length (had.defined ++ (flag ∷ flags)) ≡ length had.defined + suc (length flags) = length-append had.defined (flag ∷ flags) in
    absurd (omega (arith, longer, same))

page_adds_nothing : ValuesAsked → (spec : ChunkSpec) (dictionary : Option Values) (says : Page) (body : List ℕ) (content : Content) (had : Cells) → HasContent spec dictionary says body content
    → length (beside had content).defined ≡ length had.defined → beside had content ≡ had
page_adds_nothing law spec dictionary says body (Defines entries) had has same = refl
page_adds_nothing law spec dictionary says body Nothing had has same = refl
page_adds_nothing law spec dictionary (page.Data count encoding levels_encoding) body (Holds cells) had has same =
    nothing_added law spec dictionary encoding (HasLevels spec.optional count body) cells.defined cells.values had has.1 same
page_adds_nothing law spec dictionary (page.DataV2 count encoding size repetition) body (Holds cells) had has same =
    nothing_added law spec dictionary encoding (HasLevelsV2 spec.optional count size body) cells.defined cells.values had has.2 same
page_adds_nothing law spec dictionary (page.Dictionary count encoding) body (Holds cells) had has same = absurd has
page_adds_nothing law spec dictionary page.Other body (Holds cells) had has same = absurd has

not_shorter : (had : Cells) (content : Content) → length had.defined ≤ length (beside had content).defined
not_shorter had (Holds cells) = omega (arith, length-append had.defined cells.defined)
not_shorter had (Defines entries) = omega arith
not_shorter had Nothing = omega arith

grows : (had : Cells) (contents : List Content) → length had.defined ≤ length (fold beside had contents).defined
grows had [] = omega arith
grows had (content ∷ contents) = omega (arith, not_shorter had content, grows (beside had content) contents)

add_nothing : ValuesAsked → (spec : ChunkSpec) (dictionary : Option Values) (pages : List StoredPage) (contents : List Content) (had : Cells) → HaveContents spec dictionary pages contents
    → length (fold beside had contents).defined ≡ length had.defined → fold beside had contents ≡ had
add_nothing law spec dictionary [] [] had have same = refl
add_nothing law spec dictionary [] (content ∷ contents) had have same = absurd have
add_nothing law spec dictionary (stored ∷ pages) [] had have same = absurd have
add_nothing law spec dictionary (stored ∷ pages) (content ∷ contents) had have same =
    let next : Cells = beside had content in
    let here : length next.defined ≡ length had.defined = omega (arith, not_shorter had content, grows next contents, same) in
    let first : next ≡ had = page_adds_nothing law spec dictionary stored.says stored.body content had have.0 here in
    add_nothing law spec (latest dictionary content) pages contents next have.1 (same ∙ sym here) ∙ first

-- ---- Pages

-- pages that were read: those that the bytes begin with, and what they hold
record PagesHeld (spec : ChunkSpec) (end most : ℕ) (had : Chunk) (bytes : List ℕ) (new : Chunk) : Type 0 where
  pages : List StoredPage
  few : length pages ≤ most
  rest : List ℕ
  begin : BeginWith spec.optional end bytes pages rest
  contents : List Content
  have : HaveContents spec had.dictionary pages contents
  same : cells_in new ≡ fold beside (cells_in had) contents
  counted : length new.defined ≡ spec.num_values

none_held : (spec : ChunkSpec) (end most : ℕ) (had : Chunk) (bytes : List ℕ) (new : Chunk) → whole spec had ≡ Ok new → PagesHeld spec end most had bytes new
none_held spec end most had bytes new h =
    elim (chosen (is_whole spec had) (Ok had) (Err (fault.Count spec.num_values (length had.defined))) (Ok new) h) [
      | inl a ↦
          let same : had ≡ new = ok_same had new a.1 in
          subst (PagesHeld spec end most had bytes) same
          (record { pages = []; few = omega arith; rest = bytes; begin = refl; contents = []; have = tt; same = refl; counted = eqb-true _ _ a.0 })
      | inr a ↦ absurd (err_ok _ new a.1)
    ]

pages_held : (spec : ChunkSpec) (end most : ℕ) (had : Chunk) (bytes : List ℕ) (new : Chunk) → pages_in spec end most had bytes ≡ Ok new → PagesHeld spec end most had bytes new
unfolding pages_in
pages_held spec end zero had bytes new h = none_held spec end zero had bytes new h
pages_held spec end (suc most) had bytes new h =
    elim (chosen (is_whole spec had || nat_eq (length bytes) 0) (whole spec had) (page_in spec end had bytes >>= λ x. pages_in spec end most x.0 x.1) (Ok new) h) [
      | inl a ↦ none_held spec end (suc most) had bytes new a.1
      | inr a ↦
          let b = steps (page_in spec end had bytes) (λ x. pages_in spec end most x.0 x.1) new a.1 in
          let first = stored_held spec end had bytes b.value b.gives in
          let now : Chunk = grown had first.held.content in
          let more = pages_held spec end most now b.value.1 new (subst (λ (c : Chunk). pages_in spec end most c b.value.1 ≡ Ok new) first.held.same b.later) in
          record {
            pages = first.stored ∷ more.pages;
            few = omega (arith, more.few);
            rest = more.rest;
            begin = (b.value.1, first.begins, more.begin);
            contents = first.held.content ∷ more.contents;
            have = (first.held.has, more.have);
            same = more.same;
            counted = more.counted;
          }
    ]

pages_found : LevelsAsked → ValuesAsked → (spec : ChunkSpec) (end most : ℕ) (had : Chunk) (bytes : List ℕ) (pages : List StoredPage) (rest : List ℕ) (contents : List Content) → length pages ≤ most
    → BeginWith spec.optional end bytes pages rest → HaveContents spec had.dictionary pages contents → length (fold beside (cells_in had) contents).defined ≡ spec.num_values
    → (pages_in spec end most had bytes >>= λ new. Ok (cells_in new)) ≡ Ok (fold beside (cells_in had) contents)
pages_found levels values spec end most had bytes [] rest [] few begin have counted = rw (ends_here spec end most had bytes counted) refl
pages_found levels values spec end most had bytes [] rest (content ∷ contents) few begin have counted = absurd have
pages_found levels values spec end most had bytes (stored ∷ pages) rest [] few begin have counted = absurd have
pages_found levels values spec end zero had bytes (stored ∷ pages) rest (content ∷ contents) few begin have counted = absurd (omega (arith, few))
pages_found levels values spec end (suc most) had bytes (stored ∷ pages) rest (content ∷ contents) few begin have counted =
    elim (cases_Bool (is_whole spec had)) [
      | inl full ↦
          let all : length had.defined ≡ spec.num_values = eqb-true _ _ full in
          let same : fold beside (cells_in had) (content ∷ contents) ≡ cells_in had =
          add_nothing values spec had.dictionary (stored ∷ pages) (content ∷ contents) (cells_in had) have (counted ∙ sym all) in
          rw (ends_here spec end (suc most) had bytes all) (ap (λ (c : Cells). Ok c) (sym same))
      | inr wanted ↦
          let some : nat_eq (length bytes) 0 ≡ false = some_byte spec.optional end bytes stored begin.0 begin.1 in
          let go : (is_whole spec had || nat_eq (length bytes) 0) ≡ false = rw (wanted, some) refl in
          let room : length (beside (cells_in had) content).defined ≤ spec.num_values = omega (arith, grows (beside (cells_in had) content) contents, counted) in
          let read = stored_found levels spec end had bytes stored content begin.0 begin.1 have.0 room in
          rw (next_page spec end most had (grown had content) bytes begin.0 go read)
          (pages_found levels values spec end most (grown had content) begin.0 pages rest contents (omega (arith, few)) begin.2 have.1 counted)
    ]

-- ---- The chunk

plain_code : (code : ℤ) → is_code 0 code ≡ true → code ≡ pos 0
plain_code (pos n) h = ap (λ (m : ℕ). pos m) (eqb-true n 0 h)
plain_code (negsuc n) h = cc

chunk_held : (spec : ChunkSpec) (bytes : List ℕ) (cells : Cells) → chunk_of spec bytes ≡ Ok cells → IsChunk spec bytes cells
unfolding chunk_of
chunk_held spec bytes cells h =
    let size = length bytes in
    let more : Result Cells PageFault = pages_in spec size size (no_cells spec.kind) bytes >>= λ had. Ok (cells_in had) in
    elim (chosen (is_code 0 spec.codec) more (Err (fault.Compressed spec.codec)) (Ok cells) h) [
      | inl a ↦
          let b = steps (pages_in spec size size (no_cells spec.kind) bytes) (λ had. Ok (cells_in had)) cells a.1 in
          let same : cells_in b.value ≡ cells = ok_same (cells_in b.value) cells b.later in
          let held = pages_held spec size size (no_cells spec.kind) bytes b.value b.gives in
          subst (IsChunk spec bytes) same (record {
            plain = plain_code spec.codec a.0;
            pages = held.pages;
            few = held.few;
            rest = held.rest;
            begin = held.begin;
            contents = held.contents;
            have = held.have;
            same = held.same;
            counted = held.counted;
          })
      | inr a ↦ absurd (err_ok _ cells a.1)
    ]

chunk_found : LevelsAsked → ValuesAsked → (spec : ChunkSpec) (bytes : List ℕ) (cells : Cells) → IsChunk spec bytes cells → chunk_of spec bytes ≡ Ok cells
unfolding chunk_of
chunk_found levels values spec bytes cells is =
    let size = length bytes in
    let plain : is_code 0 spec.codec ≡ true = rw is.plain refl in
    let counted : length (fold beside (no_cell spec.kind) is.contents).defined ≡ spec.num_values = ap (λ (c : Cells). length c.defined) (sym is.same) ∙ is.counted in
    let read = pages_found levels values spec size size (no_cells spec.kind) bytes is.pages is.rest is.contents is.few is.begin is.have counted in
    rw plain (read ∙ ap (λ (c : Cells). Ok c) (sym is.same))

-- cells are read of a chunk exactly where it holds them
pub held_both : LevelsAsked → ValuesAsked → (spec : ChunkSpec) (bytes : List ℕ) (cells : Cells) → (chunk_of spec bytes ≡ Ok cells) ↔ IsChunk spec bytes cells
held_both levels values spec bytes cells = (chunk_held spec bytes cells, chunk_found levels values spec bytes cells)

-- what is answered are the cells that are held, or a fault where none are
pub answer_held : (spec : ChunkSpec) (bytes : List ℕ) (answer : Result RawCells PageFault) (read : Result Cells PageFault) → ((cells : Cells) → (read ≡ Ok cells) ↔ IsChunk spec bytes cells)
    → Gives is_memory cells_of answer read → AnswersChunk spec bytes answer
answer_held spec bytes answer read law h = decides is_memory cells_of (IsChunk spec bytes) answer read law h
