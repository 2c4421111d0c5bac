-- A sheet is read of a file exactly where the file holds it.
use Rattle.std.proofs.Common.{◌≡◌, ℕ, zero, suc, ◌+◌, ◌-◌, ◌≤◌, ◌<◌, nat_lt, List, [], ◌∷◌, ◌++◌, length, take, drop, map, fold, Option, Some, None, Bool, true, false, cond, Result, Ok, Err, All, refl, sym, ap, subst, ◌∙◌, append_assoc, arith}
use Rattle.std.specs.Prelude.{◌&&◌, ◌↔◌, ⊤, IfOk, filter, if◌then◌else◌}
use Rattle.std.specs.Cmp.Lexicographic.{bytes_decides}
use Rattle.std.specs.List.{AllZip, enumerate_from, flat_map, slice_get}
use Rattle.std.proofs.lemmas.Bool.{and_parts, le-ltb, ltb-false, ltb-true, lt-ltb}
use Rattle.std.proofs.lemmas.List.{append-nil, drop-drop, drop_at, length-append, length-drop, length-take, take-append-drop, take_at}
use Rattle.std.proofs.lemmas.List.Elements.{All-cons, All-head, All-nil, All-tail}
use Rattle.byteorder.specs.Endian.{little_number}
use Rattle.byteorder.specs.Numbers.{little_from-take}
use Rattle.lake_types.specs.declared.sheet.Sheet.{Sheet}
use Rattle.lake_types.specs.declared.sheet.SheetColumn.{SheetColumn}
use Rattle.lake_types.specs.declared.value.Value.{Value}
use Rattle.pq_meta.specs.declared.meta.FileMeta.{FileMeta}
use Rattle.pq_meta.specs.declared.meta.MetaChunk.{MetaChunk}
use Rattle.pq_meta.specs.declared.meta.MetaColumn.{MetaColumn}
use Rattle.pq_meta.specs.declared.meta.MetaGroup.{MetaGroup}
use Rattle.pq_meta.specs.Consistency.{FitsColumns}
use Rattle.pq_meta.specs.Footers.{footer_of}
use Rattle.pq_meta.specs.Holding.{IsFooter}
use Rattle.pq_pages.specs.declared.chunk.ChunkSpec.{ChunkSpec}
use Rattle.pq_pages.specs.Holding.{IsChunk}
use Rattle.pq_pages.specs.Pages.{Cells, chunk_of}
use Rattle.pq_file.specs.declared.fault.FileFault.{FileFault}
use Rattle.pq_file.specs.declared.fault.FileFault.TheVariants as fault
use Rattle.pq_file.specs.declared.parts.Part.{Part}
use Rattle.answers.specs.Answers.{Answers, ◌>>=◌}
use Rattle.pq_file.specs.Answers.{of_meta, of_page, is_memory}
use Rattle.pq_file.specs.Cells.{cells_of}
use Rattle.pq_file.specs.Frame.{footer_in, is_framed, is_mark, mark, stated_length}
use Rattle.pq_file.specs.Holding.{AnswersReading, HasFooter, HoldsCells, HoldsColumn, IsReading, named, wanted_of}
use Rattle.lake_types.specs.declared.limits.TheConstants.{MAX_FILE_ROWS}
use Rattle.pq_file.specs.Reading.{GroupParts, bare, beside, cells_fit, few_rows, file_of, groups_fit, groups_in, is_among, is_wanted, longer, part_of, parts_fit, parts_in, sheet_in, sheet_of, span_of, spec_of, with_group}
use Rattle.pq_file.proofs.BackLemmas.{cells_back}
use Rattle.answers.proofs.AnswerLemmas.{decides, ok_same, steps}
use Rattle.pq_file.proofs.SoundLemmas.{FootersConsistent, cells_in_range, few_ok, meta_ok, page_ok, passed}

-- what the laws of chunks and of footers say
abbrev pub ChunksHeld : Type 0
ChunksHeld = (spec : ChunkSpec) (bytes : List ℕ) (cells : Cells) → (chunk_of spec bytes ≡ Ok cells) ↔ IsChunk spec bytes cells

abbrev pub FootersHeld : Type 0
FootersHeld = (bytes : List ℕ) (meta : FileMeta) → (footer_of bytes ≡ Ok meta) ↔ IsFooter bytes meta

pub record Laws : Type 0 where
  pub chunks : ChunksHeld
  pub footers : FootersHeld
  pub consistent : FootersConsistent

-- where nothing was refused
let_in : {A : Type 0} (b : Bool) (e : FileFault) (x y : A) → (if b then Err e else Ok x) ≡ Ok y → (b ≡ false) × (x ≡ y)
let_in true e x y h = cc
let_in false e x y h = (refl, ok_same x y h)

-- what stands from one place on, cut at a later place
cut : (xs : List ℕ) (i n j : ℕ) → i + n ≡ j → drop i xs ≡ take n (drop i xs) ++ drop j xs
cut xs i n j is = sym (take-append-drop n (drop i xs)) ∙ ap (λ (ys : List ℕ). take n (drop i xs) ++ ys) (drop-drop n i xs ∙ ap (λ (k : ℕ). drop k xs) is)

-- ---- The frame

pub footer_held : (bytes footer : List ℕ) → footer_in bytes ≡ Ok footer → HasFooter bytes footer
unfolding footer_in is_framed
footer_held bytes footer h =
    let n : ℕ = length bytes in
    let s : ℕ = stated_length bytes in
    let found : List ℕ = take s (drop (n - 8 - s) bytes) in
    let framed = passed (is_framed bytes) (if nat_lt (n - 12) s then Err (fault.Footer s) else Ok found) fault.Magic footer h in
    let marks = and_parts (nat_lt 11 n && is_mark (take 4 bytes)) (is_mark (drop (n - 4) bytes)) framed.0 in
    let begun = and_parts (nat_lt 11 n) (is_mark (take 4 bytes)) marks.0 in
    let first : take 4 bytes ≡ mark = (bytes_decides (take 4 bytes) mark).0 begun.1 in
    let last : drop (n - 4) bytes ≡ mark = (bytes_decides (drop (n - 4) bytes) mark).0 marks.1 in
    let inside = let_in (nat_lt (n - 12) s) (fault.Footer s) found footer framed.1 in
    let room : s ≤ n - 12 = ltb-false (n - 12) s inside.0 in
    let long : 11 < n = ltb-true 11 n begun.0 in
    let front : List ℕ = take (n - 12 - s) (drop 4 bytes) in
    let size : List ℕ = take 4 (drop (n - 8) bytes) in
    let one = cut bytes 4 (n - 12 - s) (n - 8 - s) (omega arith) in
    let two = cut bytes (n - 8 - s) s (n - 8) (omega arith) in
    let three = cut bytes (n - 8) 4 (n - 4) (omega arith) in
    let all_found : length found ≡ s = omega (arith, length-take s (drop (n - 8 - s) bytes), length-drop (n - 8 - s) bytes) in
    let is : HasFooter bytes found = record {
      front = front;
      size = size;
      parts = sym (take-append-drop 4 bytes) ∙ ap (λ (xs : List ℕ). xs ++ drop 4 bytes) first
          ∙ ap (λ (xs : List ℕ). mark ++ xs) (one ∙ ap (λ (xs : List ℕ). front ++ xs) (two ∙ ap (λ (xs : List ℕ). found ++ xs) (three ∙ ap (λ (xs : List ℕ). size ++ xs) last)));
      four = omega (arith, length-take 4 (drop (n - 8) bytes), length-drop (n - 8) bytes);
      stated = little_from-take 0 4 4 (drop (n - 8) bytes) (omega arith) ∙ sym all_found;
    } in
    subst (HasFooter bytes) inside.1 is

pub footer_found : (bytes footer : List ℕ) → HasFooter bytes footer → footer_in bytes ≡ Ok footer
unfolding footer_in is_framed
footer_found bytes footer has =
    let f : List ℕ = has.front in
    let z : List ℕ = has.size in
    let all : List ℕ = mark ++ (f ++ (footer ++ (z ++ mark))) in
    let parts : bytes ≡ all = has.parts in
    let four : length z ≡ 4 = has.four in
    let before_footer : all ≡ (mark ++ f) ++ (footer ++ (z ++ mark)) = sym (append_assoc mark f (footer ++ (z ++ mark))) in
    let before_size : all ≡ (mark ++ (f ++ footer)) ++ (z ++ mark) =
    sym (append_assoc mark (f ++ footer) (z ++ mark) ∙ ap (λ (xs : List ℕ). mark ++ xs) (append_assoc f footer (z ++ mark))) in
    let before_mark : all ≡ (mark ++ (f ++ (footer ++ z))) ++ mark =
    sym (append_assoc mark (f ++ (footer ++ z)) mark ∙ ap (λ (xs : List ℕ). mark ++ xs) (append_assoc f (footer ++ z) mark ∙ ap (λ (xs : List ℕ). f ++ xs) (append_assoc footer z mark))) in
    let n : length bytes ≡ length f + length footer + 12 =
    ap (λ (xs : List ℕ). length xs) parts
    ∙ omega (arith, four, length-append mark (f ++ (footer ++ (z ++ mark))), length-append f (footer ++ (z ++ mark)), length-append footer (z ++ mark), length-append z mark) in
    let long : nat_lt 11 (length bytes) ≡ true = lt-ltb _ _ (omega arith) in
    let first : take 4 bytes ≡ mark = ap (λ (xs : List ℕ). take 4 xs) parts in
    let last : drop (length bytes - 4) bytes ≡ mark =
    ap (λ (xs : List ℕ). drop (length bytes - 4) xs) (parts ∙ before_mark)
    ∙ drop_at (mark ++ (f ++ (footer ++ z))) mark (length bytes - 4) (omega (arith, four, n, length-append mark (f ++ (footer ++ z)), length-append f (footer ++ z), length-append footer z)) in
    let behind : drop (length bytes - 8) bytes ≡ z ++ mark =
    ap (λ (xs : List ℕ). drop (length bytes - 8) xs) (parts ∙ before_size)
    ∙ drop_at (mark ++ (f ++ footer)) (z ++ mark) (length bytes - 8) (omega (arith, n, length-append mark (f ++ footer), length-append f footer)) in
    let stated : stated_length bytes ≡ length footer =
    ap (λ (xs : List ℕ). little_number 4 xs) behind ∙ sym (little_from-take 0 4 4 (z ++ mark) (omega arith))
    ∙ ap (λ (xs : List ℕ). little_number 4 xs) (take_at z mark 4 four) ∙ has.stated in
    let fits : nat_lt (length bytes - 12) (length footer) ≡ false = le-ltb _ _ (omega arith) in
    let here : take (length footer) (drop (length bytes - 8 - length footer) bytes) ≡ footer =
    ap (λ (xs : List ℕ). take (length footer) xs)
    (ap (λ (xs : List ℕ). drop (length bytes - 8 - length footer) xs) (parts ∙ before_footer)
    ∙ drop_at (mark ++ f) (footer ++ (z ++ mark)) (length bytes - 8 - length footer) (omega (arith, n, length-append mark f)))
    ∙ take_at footer (z ++ mark) (length footer) refl in
    rw (long, first, last, stated, fits, here) refl

-- ---- The cells of a chunk

-- what is found of a chunk, and is in range, is held
part_held : ChunksHeld → (bytes : List ℕ) (number place row : ℕ) (column : MetaColumn) (group : MetaGroup) (chunk : MetaChunk) (part : Part) (u : ⊤) → slice_get group.chunks place ≡ Some chunk
    → part_of bytes number place column chunk ≡ Ok part → cells_fit part.place part.ty row part.cells ≡ Ok u → HoldsCells bytes place column group part.cells
unfolding part_of span_of
part_held law bytes number place row column group chunk part u at h range =
    let here : List ℕ = take chunk.length (drop chunk.first bytes) in
    let span = steps (span_of bytes number place chunk) _ part h in
    let read = steps (of_page number place (chunk_of (spec_of column chunk) span.value)) _ part span.later in
    let inside = let_in (nat_lt (length bytes) (chunk.first + chunk.length)) (fault.Span number place) here span.value span.gives in
    let room : chunk.first + chunk.length ≤ length bytes = ltb-false (length bytes) (chunk.first + chunk.length) inside.0 in
    let made : Part = record { place = place; ty = column.ty; cells = cells_of column.ty read.value } in
    let same : made ≡ part = ok_same made part read.later in
    let is : HoldsCells bytes place column group made.cells = record {
      chunk = chunk;
      at = at;
      before = take chunk.first bytes;
      span = here;
      after = drop (chunk.first + chunk.length) bytes;
      parts = sym (take-append-drop chunk.first bytes)
          ∙ ap (λ (xs : List ℕ). take chunk.first bytes ++ xs) (cut bytes chunk.first chunk.length (chunk.first + chunk.length) refl);
      first = omega (arith, length-take chunk.first bytes);
      size = omega (arith, length-take chunk.length (drop chunk.first bytes), length-drop chunk.first bytes);
      raw = read.value;
      says = (law (spec_of column chunk) here read.value).0 (subst (λ (xs : List ℕ). chunk_of (spec_of column chunk) xs ≡ Ok read.value) (sym inside.1) (page_ok number place _ read.value read.gives));
      typed = refl;
      fit = cells_in_range place column.ty row made.cells u (subst (λ (p : Part). cells_fit p.place p.ty row p.cells ≡ Ok u) (sym same) range);
    } in
    subst (λ (p : Part). HoldsCells bytes place column group p.cells) same is

-- a part that is read, with cells in range
record FoundPart (row : ℕ) (read : Result Part FileFault) : Type 0 where
  part : Part
  gives : read ≡ Ok part
  fit : cells_fit part.place part.ty row part.cells ≡ Ok tt

same_chunk : (a b : MetaChunk) → ◌≡◌ {A = Option MetaChunk} (Some a) (Some b) → a ≡ b
same_chunk a b h = cc

abbrev part_with : ℕ → MetaColumn → List Value → Part
part_with place column cells = record { place = place; ty = column.ty; cells = cells }

-- what is held of a chunk is found
part_read : ChunksHeld → (bytes : List ℕ) (number place : ℕ) (column : MetaColumn) (group : MetaGroup) (chunk : MetaChunk) (cells : List Value) → slice_get group.chunks place ≡ Some chunk
    → HoldsCells bytes place column group cells → part_of bytes number place column chunk ≡ Ok (part_with place column cells)
unfolding part_of span_of
part_read law bytes number place column group chunk cells at has =
    let one : has.chunk ≡ chunk = same_chunk has.chunk chunk (sym has.at ∙ at) in
    let first : length has.before ≡ chunk.first = has.first ∙ ap (λ (c : MetaChunk). c.first) one in
    let size : length has.span ≡ chunk.length = has.size ∙ ap (λ (c : MetaChunk). c.length) one in
    let all : length bytes ≡ length has.before + (length has.span + length has.after) =
    ap (λ (xs : List ℕ). length xs) has.parts ∙ omega (arith, length-append has.before (has.span ++ has.after), length-append has.span has.after) in
    let inside : nat_lt (length bytes) (chunk.first + chunk.length) ≡ false = le-ltb _ _ (omega arith) in
    let here : take chunk.length (drop chunk.first bytes) ≡ has.span =
    ap (λ (xs : List ℕ). take chunk.length xs) (ap (λ (xs : List ℕ). drop chunk.first xs) has.parts ∙ drop_at has.before (has.span ++ has.after) chunk.first first)
    ∙ take_at has.span has.after chunk.length size in
    let says : IsChunk (spec_of column chunk) has.span has.raw = subst (λ (c : MetaChunk). IsChunk (spec_of column c) has.span has.raw) one has.says in
    let read : chunk_of (spec_of column chunk) has.span ≡ Ok has.raw = (law (spec_of column chunk) has.span has.raw).1 says in
    let typed : cells_of column.ty has.raw ≡ cells = sym has.typed in
    rw (inside, here, read, typed) refl

part_found : ChunksHeld → (bytes : List ℕ) (number place row : ℕ) (column : MetaColumn) (group : MetaGroup) (chunk : MetaChunk) (cells : List Value) → slice_get group.chunks place ≡ Some chunk
    → HoldsCells bytes place column group cells → FoundPart row (part_of bytes number place column chunk)
part_found law bytes number place row column group chunk cells at has = record {
  part = part_with place column cells;
  gives = part_read law bytes number place column group chunk cells at has;
  fit = cells_back place row column.ty cells has.fit;
}

-- a group holds no other cells of a column
cells_only : ChunksHeld → (bytes : List ℕ) (place : ℕ) (column : MetaColumn) (group : MetaGroup) (a b : List Value) → HoldsCells bytes place column group a → HoldsCells bytes place column group b → a ≡ b
cells_only law bytes place column group a b has also =
    let one = part_read law bytes 0 place column group has.chunk a has.at has in
    let two = part_read law bytes 0 place column group has.chunk b has.at also in
    ap (λ (p : Part). p.cells) (ok_same (part_with place column a) (part_with place column b) (sym one ∙ two))

-- ---- The parts of a group

first_at : {A : Type 0} (xs : List A) (i : ℕ) (x : A) (more : List A) → drop i xs ≡ x ∷ more → slice_get xs i ≡ Some x
first_at [] zero x more h = cc
first_at [] (suc i) x more h = cc
first_at (y ∷ ys) zero x more h = cc
first_at (y ∷ ys) (suc i) x more h = first_at ys i x more h

behind_at : {A : Type 0} (xs : List A) (i : ℕ) (x : A) (more : List A) → drop i xs ≡ x ∷ more → drop (i + 1) xs ≡ more
behind_at {A = A} xs i x more h = sym (drop-drop 1 i xs) ∙ ap (λ (ys : List A). drop 1 ys) h

abbrev wanted_from : Option (List ℕ) → ℕ → List MetaColumn → List (ℕ × MetaColumn)
wanted_from fields place columns = filter (λ (column : ℕ × MetaColumn). is_wanted fields column.1) (enumerate_from place columns)

-- a part is what a group holds of a column
abbrev IsHeld : List ℕ → MetaGroup → (ℕ × MetaColumn) → Part → Type 0
IsHeld bytes group column part = HoldsCells bytes column.0 column.1 group part.cells

parts_held_step : (b : Bool) (bytes : List ℕ) (row : ℕ) (group : MetaGroup) (x : ℕ × MetaColumn) (xs : List (ℕ × MetaColumn)) (one : Result Part FileFault) (others : Result (List Part) FileFault)
    (parts : List Part) (u : ⊤)
    → ((part : Part) (v : ⊤) → one ≡ Ok part → cells_fit part.place part.ty row part.cells ≡ Ok v → IsHeld bytes group x part)
    → ((ps : List Part) (v : ⊤) → others ≡ Ok ps → parts_fit row ps ≡ Ok v → AllZip (IsHeld bytes group) xs ps)
    → (if b then (one >>= λ part. others >>= λ ps. Ok (part ∷ ps)) else others) ≡ Ok parts → parts_fit row parts ≡ Ok u
    → AllZip (IsHeld bytes group) (cond b (x ∷ xs) xs) parts
parts_held_step false bytes row group x xs one others parts u first rest h range = rest parts u h range
parts_held_step true bytes row group x xs one others parts u first rest h range =
    let part = steps one (λ part. others >>= λ ps. Ok (part ∷ ps)) parts h in
    let more = steps others (λ ps. Ok (part.value ∷ ps)) parts part.later in
    let same : part.value ∷ more.value ≡ parts = ok_same (part.value ∷ more.value) parts more.later in
    let good = steps (cells_fit part.value.place part.value.ty row part.value.cells) (λ v. parts_fit row more.value) u (rw (← same) at range) in
    subst (λ (ps : List Part). AllZip (IsHeld bytes group) (x ∷ xs) ps) same
    (first part.value good.value part.gives good.gives, rest more.value u more.gives good.later)

parts_held : ChunksHeld → (bytes : List ℕ) (fields : Option (List ℕ)) (number place row : ℕ) (group : MetaGroup) (columns : List MetaColumn) (chunks : List MetaChunk) (parts : List Part) (u : ⊤)
    → length chunks ≡ length columns → drop place group.chunks ≡ chunks → parts_in bytes fields number place columns chunks ≡ Ok parts → parts_fit row parts ≡ Ok u
    → AllZip (IsHeld bytes group) (wanted_from fields place columns) parts
parts_held law bytes fields number place row group [] chunks [] u same at h range = tt
parts_held law bytes fields number place row group [] chunks (p ∷ ps) u same at h range = cc
parts_held law bytes fields number place row group (column ∷ columns) [] parts u same at h range = absurd (omega arith)
parts_held law bytes fields number place row group (column ∷ columns) (chunk ∷ chunks) parts u same at h range =
    parts_held_step (is_wanted fields column) bytes row group (place, column) (wanted_from fields (place + 1) columns)
    (part_of bytes number place column chunk) (parts_in bytes fields number (place + 1) columns chunks) parts u
    (λ part v read good. part_held law bytes number place row column group chunk part v (first_at group.chunks place chunk chunks at) read good)
    (λ ps v read good. parts_held law bytes fields number (place + 1) row group columns chunks ps v (omega arith) (behind_at group.chunks place chunk chunks at) read good)
    h range

-- a group holds some cells of a column
record HoldsSome (bytes : List ℕ) (group : MetaGroup) (column : ℕ × MetaColumn) : Type 0 where
  cells : List Value
  held : HoldsCells bytes column.0 column.1 group cells

-- parts that are read, with cells in range
record FoundParts (row : ℕ) (read : Result (List Part) FileFault) : Type 0 where
  parts : List Part
  gives : read ≡ Ok parts
  fit : parts_fit row parts ≡ Ok tt

parts_found_step : (b : Bool) (bytes : List ℕ) (row : ℕ) (group : MetaGroup) (x : ℕ × MetaColumn) (xs : List (ℕ × MetaColumn)) (one : Result Part FileFault) (others : Result (List Part) FileFault)
    → (HoldsSome bytes group x → FoundPart row one) → (All (HoldsSome bytes group) xs → FoundParts row others) → All (HoldsSome bytes group) (cond b (x ∷ xs) xs)
    → FoundParts row (if b then (one >>= λ part. others >>= λ ps. Ok (part ∷ ps)) else others)
parts_found_step false bytes row group x xs one others first rest some = rest some
parts_found_step true bytes row group x xs one others first rest some =
    let part = first (All-head (HoldsSome bytes group) x xs some) in
    let more = rest (All-tail (HoldsSome bytes group) x xs some) in
    record {
      parts = part.part ∷ more.parts;
      gives = rw (part.gives, more.gives) refl;
      fit = rw part.fit more.fit;
    }

parts_found : ChunksHeld → (bytes : List ℕ) (fields : Option (List ℕ)) (number place row : ℕ) (group : MetaGroup) (columns : List MetaColumn) (chunks : List MetaChunk)
    → length chunks ≡ length columns → drop place group.chunks ≡ chunks → All (HoldsSome bytes group) (wanted_from fields place columns)
    → FoundParts row (parts_in bytes fields number place columns chunks)
parts_found law bytes fields number place row group [] chunks same at some = record { parts = []; gives = refl; fit = refl }
parts_found law bytes fields number place row group (column ∷ columns) [] same at some = absurd (omega arith)
parts_found law bytes fields number place row group (column ∷ columns) (chunk ∷ chunks) same at some =
    parts_found_step (is_wanted fields column) bytes row group (place, column) (wanted_from fields (place + 1) columns)
    (part_of bytes number place column chunk) (parts_in bytes fields number (place + 1) columns chunks)
    (λ has. part_found law bytes number place row column group chunk has.cells (first_at group.chunks place chunk chunks at) has.held)
    (λ more. parts_found law bytes fields number (place + 1) row group columns chunks (omega arith) (behind_at group.chunks place chunk chunks at) more)
    some

-- ---- Columns, as far as they were read

abbrev joined : List (List Value) → List Value
joined pieces = flat_map (λ piece. piece) pieces

joined-push : (pieces : List (List Value)) (piece : List Value) → joined (pieces ++ piece ∷ []) ≡ joined pieces ++ piece
joined-push [] piece = append-nil piece
joined-push (p ∷ pieces) piece = ap (λ (xs : List Value). p ++ xs) (joined-push pieces piece) ∙ sym (append_assoc p (joined pieces) piece)

zip_push : {A B : Type 0} (R : A → B → Type 0) (xs : List A) (ys : List B) (x : A) (y : B) → AllZip R xs ys → R x y → AllZip R (xs ++ x ∷ []) (ys ++ y ∷ [])
zip_push R [] [] x y h r = (r, tt)
zip_push R [] (b ∷ seconds) x y h r = absurd h
zip_push R (a ∷ firsts) [] x y h r = absurd h
zip_push R (a ∷ firsts) (b ∷ seconds) x y h r = (h.0, zip_push R firsts seconds x y h.1 r)

longer_held : (bytes : List ℕ) (done : List MetaGroup) (group : MetaGroup) (x : ℕ × MetaColumn) (column : SheetColumn) (part : Part) → HoldsColumn bytes done x column → IsHeld bytes group x part
    → HoldsColumn bytes (done ++ group ∷ []) x (longer column part)
longer_held bytes done group x column part has more = record {
  pieces = has.pieces ++ part.cells ∷ [];
  held = zip_push (HoldsCells bytes x.0 x.1) done has.pieces group part.cells has.held more;
  same = ap (λ (c : SheetColumn). longer c part) has.same
      ∙ ap (λ (cells : List Value). record (bare x.1) { cells = cells }) (sym (joined-push has.pieces part.cells));
}

beside_held : (bytes : List ℕ) (done : List MetaGroup) (group : MetaGroup) (xs : List (ℕ × MetaColumn)) (columns : List SheetColumn) (parts : List Part)
    → AllZip (HoldsColumn bytes done) xs columns → AllZip (IsHeld bytes group) xs parts → AllZip (HoldsColumn bytes (done ++ group ∷ [])) xs (beside columns parts)
beside_held bytes done group [] [] parts had more = tt
beside_held bytes done group [] (c ∷ cs) parts had more = absurd had
beside_held bytes done group (x ∷ xs) [] parts had more = absurd had
beside_held bytes done group (x ∷ xs) (c ∷ cs) [] had more = absurd more
beside_held bytes done group (x ∷ xs) (c ∷ cs) (p ∷ ps) had more = (longer_held bytes done group x c p had.0 more.0, beside_held bytes done group xs cs ps had.1 more.1)

bare_held_step : (b : Bool) (bytes : List ℕ) (x : ℕ × MetaColumn) (xs : List (ℕ × MetaColumn)) (columns : List MetaColumn) → AllZip (HoldsColumn bytes []) xs (map bare columns)
    → AllZip (HoldsColumn bytes []) (cond b (x ∷ xs) xs) (map bare (cond b (x.1 ∷ columns) columns))
bare_held_step false bytes x xs columns more = more
bare_held_step true bytes x xs columns more = (record { pieces = []; held = tt; same = refl }, more)

bare_held : (bytes : List ℕ) (fields : Option (List ℕ)) (place : ℕ) (columns : List MetaColumn)
    → AllZip (HoldsColumn bytes []) (wanted_from fields place columns) (map bare (filter (is_wanted fields) columns))
bare_held bytes fields place [] = tt
bare_held bytes fields place (column ∷ columns) =
    bare_held_step (is_wanted fields column) bytes (place, column) (wanted_from fields (place + 1) columns) (filter (is_wanted fields) columns) (bare_held bytes fields (place + 1) columns)

groups_held : ChunksHeld → (bytes : List ℕ) (fields : Option (List ℕ)) (metas : List MetaColumn) (number row : ℕ) (all done groups : List MetaGroup) (read : List GroupParts) (columns : List SheetColumn) (u : ⊤)
    → done ++ groups ≡ all → All (FitsColumns (length metas)) groups → groups_in bytes fields metas number groups ≡ Ok read → groups_fit row read ≡ Ok u
    → AllZip (HoldsColumn bytes done) (wanted_from fields 0 metas) columns → AllZip (HoldsColumn bytes all) (wanted_from fields 0 metas) (fold with_group columns read)
groups_held law bytes fields metas number row all done [] [] columns u is fit h range had =
    subst (λ (gs : List MetaGroup). AllZip (HoldsColumn bytes gs) (wanted_from fields 0 metas) columns) (sym (append-nil done) ∙ is) had
groups_held law bytes fields metas number row all done [] (p ∷ ps) columns u is fit h range had = cc
groups_held law bytes fields metas number row all done (g ∷ gs) read columns u is fit h range had =
    let one = steps (parts_in bytes fields number 0 metas g.chunks) _ read h in
    let more = steps (groups_in bytes fields metas (number + 1) gs) _ read one.later in
    let first : GroupParts = record { rows = g.rows; parts = one.value } in
    let same : first ∷ more.value ≡ read = ok_same (first ∷ more.value) read more.later in
    let good = steps (parts_fit row one.value) (λ v. groups_fit (row + g.rows) more.value) u (rw (← same) at range) in
    let here = All-head (FitsColumns (length metas)) g gs fit in
    let held = parts_held law bytes fields number 0 row g metas g.chunks one.value good.value here.count refl one.gives good.gives in
    let longer = beside_held bytes done g (wanted_from fields 0 metas) columns one.value had held in
    subst (λ (r : List GroupParts). AllZip (HoldsColumn bytes all) (wanted_from fields 0 metas) (fold with_group columns r)) same
    (groups_held law bytes fields metas (number + 1) (row + g.rows) all (done ++ g ∷ []) gs more.value (beside columns one.value) u (append_assoc done (g ∷ []) gs ∙ is)
    (All-tail (FitsColumns (length metas)) g gs fit) more.gives good.later longer)

-- ---- The groups, where the columns are held

-- groups hold some cells of a column
record HoldsPieces (bytes : List ℕ) (groups : List MetaGroup) (column : ℕ × MetaColumn) : Type 0 where
  pieces : List (List Value)
  held : AllZip (HoldsCells bytes column.0 column.1) groups pieces

first_held : (bytes : List ℕ) (group : MetaGroup) (groups : List MetaGroup) (x : ℕ × MetaColumn) (pieces : List (List Value)) → AllZip (HoldsCells bytes x.0 x.1) (group ∷ groups) pieces
    → HoldsSome bytes group x
first_held bytes group groups x [] held = absurd held
first_held bytes group groups x (piece ∷ pieces) held = record { cells = piece; held = held.0 }

others_held : (bytes : List ℕ) (group : MetaGroup) (groups : List MetaGroup) (x : ℕ × MetaColumn) (pieces : List (List Value)) → AllZip (HoldsCells bytes x.0 x.1) (group ∷ groups) pieces
    → HoldsPieces bytes groups x
others_held bytes group groups x [] held = absurd held
others_held bytes group groups x (piece ∷ pieces) held = record { pieces = pieces; held = held.1 }

record FoundGroups (row : ℕ) (read : Result (List GroupParts) FileFault) : Type 0 where
  groups : List GroupParts
  gives : read ≡ Ok groups
  fit : groups_fit row groups ≡ Ok tt

groups_found : ChunksHeld → (bytes : List ℕ) (fields : Option (List ℕ)) (metas : List MetaColumn) (number row : ℕ) (groups : List MetaGroup) → All (FitsColumns (length metas)) groups
    → All (HoldsPieces bytes groups) (wanted_from fields 0 metas) → FoundGroups row (groups_in bytes fields metas number groups)
groups_found law bytes fields metas number row [] fit hold = record { groups = []; gives = refl; fit = refl }
groups_found law bytes fields metas number row (g ∷ gs) fit hold =
    let here = All-head (FitsColumns (length metas)) g gs fit in
    let one = parts_found law bytes fields number 0 row g metas g.chunks here.count refl (λ k d lt. first_held bytes g gs _ (hold k d lt).pieces (hold k d lt).held) in
    let more = groups_found law bytes fields metas (number + 1) (row + g.rows) gs (All-tail (FitsColumns (length metas)) g gs fit)
    (λ k d lt. others_held bytes g gs _ (hold k d lt).pieces (hold k d lt).held) in
    record {
      groups = record { rows = g.rows; parts = one.parts } ∷ more.groups;
      gives = rw (one.gives, more.gives) refl;
      fit = rw one.fit more.fit;
    }

columns_pieces : (bytes : List ℕ) (groups : List MetaGroup) (xs : List (ℕ × MetaColumn)) (columns : List SheetColumn) → AllZip (HoldsColumn bytes groups) xs columns → All (HoldsPieces bytes groups) xs
columns_pieces bytes groups [] [] held = All-nil (HoldsPieces bytes groups)
columns_pieces bytes groups [] (c ∷ cs) held = absurd held
columns_pieces bytes groups (x ∷ xs) [] held = absurd held
columns_pieces bytes groups (x ∷ xs) (c ∷ cs) held =
    All-cons (HoldsPieces bytes groups) x xs (record { pieces = (held.0).pieces; held = (held.0).held }) (columns_pieces bytes groups xs cs held.1)

-- ---- No other columns are held

pieces_only : ChunksHeld → (bytes : List ℕ) (place : ℕ) (column : MetaColumn) (groups : List MetaGroup) (ps qs : List (List Value)) → AllZip (HoldsCells bytes place column) groups ps
    → AllZip (HoldsCells bytes place column) groups qs → ps ≡ qs
pieces_only law bytes place column [] [] [] h k = refl
pieces_only law bytes place column [] [] (q ∷ qs) h k = absurd k
pieces_only law bytes place column [] (p ∷ ps) qs h k = absurd h
pieces_only law bytes place column (g ∷ gs) [] qs h k = absurd h
pieces_only law bytes place column (g ∷ gs) (p ∷ ps) [] h k = absurd k
pieces_only law bytes place column (g ∷ gs) (p ∷ ps) (q ∷ qs) h k = rw (cells_only law bytes place column g p q h.0 k.0, pieces_only law bytes place column gs ps qs h.1 k.1) refl

column_only : ChunksHeld → (bytes : List ℕ) (groups : List MetaGroup) (x : ℕ × MetaColumn) (a b : SheetColumn) → HoldsColumn bytes groups x a → HoldsColumn bytes groups x b → a ≡ b
column_only law bytes groups x a b has also =
    has.same
    ∙ ap (λ (ps : List (List Value)). record (bare x.1) { cells = joined ps }) (pieces_only law bytes x.0 x.1 groups has.pieces also.pieces has.held also.held)
    ∙ sym also.same

columns_only : ChunksHeld → (bytes : List ℕ) (groups : List MetaGroup) (xs : List (ℕ × MetaColumn)) (ones others : List SheetColumn) → AllZip (HoldsColumn bytes groups) xs ones → AllZip (HoldsColumn bytes groups) xs others → ones ≡ others
columns_only law bytes groups [] [] [] h k = refl
columns_only law bytes groups [] [] (b ∷ others) h k = absurd k
columns_only law bytes groups [] (a ∷ ones) others h k = absurd h
columns_only law bytes groups (x ∷ xs) [] others h k = absurd h
columns_only law bytes groups (x ∷ xs) (a ∷ ones) [] h k = absurd k
columns_only law bytes groups (x ∷ xs) (a ∷ ones) (b ∷ others) h k = rw (column_only law bytes groups x a b h.0 k.0, columns_only law bytes groups xs ones others h.1 k.1) refl

-- ---- The file

pub file_held : Laws → (fields : Option (List ℕ)) (bytes : List ℕ) (sheet : Sheet) → file_of fields bytes ≡ Ok sheet → IsReading fields bytes sheet
unfolding file_of sheet_in
file_held laws fields bytes sheet h =
    let footer = steps (footer_in bytes) _ sheet h in
    let meta = steps (of_meta (footer_of footer.value)) _ sheet footer.later in
    let m : FileMeta = meta.value in
    let says : footer_of footer.value ≡ Ok m = meta_ok _ m meta.gives in
    let fit = laws.consistent footer.value m says in
    let few = steps (few_rows m.num_rows) _ sheet meta.later in
    let read = steps (groups_in bytes fields m.columns 0 m.groups) _ sheet few.later in
    let range = steps (groups_fit 0 read.value) _ sheet read.later in
    let made : Sheet = sheet_of fields m read.value in
    let is : IsReading fields bytes made = record {
      footer = footer.value;
      frame = footer_held bytes footer.value footer.gives;
      meta = m;
      says = (laws.footers footer.value m).0 says;
      few_rows = few_ok m.num_rows few.value few.gives;
      rows = refl;
      columns = groups_held laws.chunks bytes fields m.columns 0 0 m.groups [] m.groups read.value (map bare (filter (is_wanted fields) m.columns)) range.value refl fit.groups read.gives range.gives
          (bare_held bytes fields 0 m.columns);
    } in
    subst (IsReading fields bytes) (ok_same made sheet range.later) is

pub file_found : Laws → (fields : Option (List ℕ)) (bytes : List ℕ) (sheet : Sheet) → IsReading fields bytes sheet → file_of fields bytes ≡ Ok sheet
unfolding file_of sheet_in
file_found laws fields bytes sheet is =
    let m : FileMeta = is.meta in
    let says : footer_of is.footer ≡ Ok m = (laws.footers is.footer m).1 is.says in
    let fit = laws.consistent is.footer m says in
    let few : nat_lt MAX_FILE_ROWS m.num_rows ≡ false = le-ltb _ _ is.few_rows in
    let found = groups_found laws.chunks bytes fields m.columns 0 0 m.groups fit.groups (columns_pieces bytes m.groups (wanted_of fields m.columns) sheet.columns is.columns) in
    let bares : List SheetColumn = map bare (filter (is_wanted fields) m.columns) in
    let held = groups_held laws.chunks bytes fields m.columns 0 0 m.groups [] m.groups found.groups bares tt refl fit.groups found.gives found.fit (bare_held bytes fields 0 m.columns) in
    let columns : fold with_group bares found.groups ≡ sheet.columns = columns_only laws.chunks bytes m.groups (wanted_of fields m.columns) (fold with_group bares found.groups) sheet.columns held is.columns in
    let rows : m.num_rows ≡ sheet.rows = sym is.rows in
    rw (footer_found bytes is.footer is.frame, says, few, found.gives, found.fit, columns, rows) refl

pub held_both : Laws → (fields : Option (List ℕ)) (bytes : List ℕ) (sheet : Sheet) → (file_of fields bytes ≡ Ok sheet) ↔ IsReading fields bytes sheet
held_both laws fields bytes sheet = (file_held laws fields bytes sheet, file_found laws fields bytes sheet)

-- what is answered is the one sheet that is held, or a fault where none is
pub answer_held : (fields : Option (List ℕ)) (bytes : List ℕ) (answer read : Result Sheet FileFault) → ((sheet : Sheet) → (read ≡ Ok sheet) ↔ IsReading fields bytes sheet) → Answers is_memory answer read
    → AnswersReading fields bytes answer
answer_held fields bytes answer read law h = decides is_memory (λ sheet. sheet) (IsReading fields bytes) answer read law h

-- ---- The columns that are named

named_step : (b d : Bool) (bytes : List ℕ) (groups : List MetaGroup) (x : ℕ × MetaColumn) (xs : List (ℕ × MetaColumn)) (column : SheetColumn) (columns : List SheetColumn) → b ≡ d
    → HoldsColumn bytes groups x column → AllZip (HoldsColumn bytes groups) xs columns → AllZip (HoldsColumn bytes groups) (cond b (x ∷ xs) xs) (cond d (column ∷ columns) columns)
named_step false false bytes groups x xs column columns same first more = more
named_step true true bytes groups x xs column columns same first more = (first, more)
named_step true false bytes groups x xs column columns same first more = absurd (cc)
named_step false true bytes groups x xs column columns same first more = absurd (cc)

abbrev named_in : List ℕ → List SheetColumn → List SheetColumn
named_in fields columns = filter (λ (column : SheetColumn). is_among fields column.field) columns

columns_named : (bytes : List ℕ) (groups : List MetaGroup) (fields : List ℕ) (place : ℕ) (metas : List MetaColumn) (columns : List SheetColumn)
    → AllZip (HoldsColumn bytes groups) (wanted_from None place metas) columns → AllZip (HoldsColumn bytes groups) (wanted_from (Some fields) place metas) (named_in fields columns)
columns_named bytes groups fields place [] [] held = tt
columns_named bytes groups fields place [] (c ∷ cs) held = absurd held
columns_named bytes groups fields place (m ∷ metas) [] held = absurd held
columns_named bytes groups fields place (m ∷ metas) (c ∷ cs) held =
    let same : m.field ≡ c.field = ap (λ (column : SheetColumn). column.field) (sym (held.0).same) in
    let more = columns_named bytes groups fields (place + 1) metas cs held.1 in
    named_step (is_among fields m.field) (is_among fields c.field) bytes groups (place, m) (wanted_from (Some fields) (place + 1) metas) c (named_in fields cs)
    (ap (λ (field : Option ℕ). is_among fields field) same) held.0 more

pub reading_named : (fields : List ℕ) (bytes : List ℕ) (whole : Sheet) → IsReading None bytes whole → IsReading (Some fields) bytes (named fields whole)
reading_named fields bytes whole is = record {
  footer = is.footer;
  frame = is.frame;
  meta = is.meta;
  says = is.says;
  few_rows = is.few_rows;
  rows = is.rows;
  columns = columns_named bytes is.meta.groups fields 0 is.meta.columns whole.columns is.columns;
}

-- the sheet of some columns is that of all of them with the others left out
pub answer_named : (fields : List ℕ) (bytes : List ℕ) (answer : Result Sheet FileFault) → ((whole : Sheet) → IsReading None bytes whole → IsReading (Some fields) bytes (named fields whole))
    → AnswersReading (Some fields) bytes answer → IfOk answer (λ sheet. (whole : Sheet) → IsReading None bytes whole → sheet ≡ named fields whole)
answer_named fields bytes (Ok sheet) law h = λ whole is. sym (h.only (named fields whole) (law whole is))
answer_named fields bytes (Err e) law h = tt
