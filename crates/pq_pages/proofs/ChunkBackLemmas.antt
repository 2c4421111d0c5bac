-- A written chunk reads back.
use Rattle.std.proofs.Common.{◌≡◌, ℕ, ℤ, pos, suc, ◌+◌, ◌-◌, ◌*◌, ◌<◌, ◌≤◌, ◌^◌, nat_eq, nat_lt, ◌||◌, List, [], ◌∷◌, ◌++◌, length, drop, map, replicate, Bool, true, false, cond, Option, Some, None, Ok, All, refl, ap, subst, ◌∙◌, append_assoc, arith}
use Rattle.std.proofs.Math.Seq.{drop-append_seam, take-append_seam}
use Rattle.std.proofs.lemmas.Bool.{eq-eqb, le-ltb}
use Rattle.std.proofs.lemmas.List.{append-nil, length-append, take_all}
use Rattle.std.proofs.lemmas.List.Elements.{All-head, All-tail}
use Rattle.std.proofs.lemmas.Str.{is_utf8-from_IsUtf8}
use Rattle.std.specs.List.{count_by}
use Rattle.std.specs.Str.{IsUtf8}
use Rattle.byteorder.specs.Endian.{little_bytes, little_number}
use Rattle.byteorder.specs.Numbers.{length-bytes_low_first, little_number-reads_back}
use Rattle.pq_encodings.specs.Levels.{level_bytes, level_of}
use Rattle.pq_encodings.specs.Runs.{levels_in}
use Rattle.pq_encodings.specs.Values.{AreInRange, AreShort, IsReadAgain, Values, bools, i32s, i64s, strings, count_of, kind_of, plain_size, value_bytes, values_in}
use Rattle.pq_pages.specs.declared.chunk.ChunkSpec.{ChunkSpec}
use Rattle.pq_pages.specs.declared.headers.Coding.TheVariants as coding
use Rattle.pq_pages.specs.declared.headers.Page.TheVariants as page
use Rattle.pq_pages.specs.Headers.{coding_of, data_of, header_of, page_of, runs_coded}
use Rattle.pq_pages.specs.Pages.{Cells, Chunk, all_texts, are_texts, behind_header, chunk_of, data_coding, data_levels, data_page, fits, flags_in, framed, in_page, is_one, is_whole, joined, judged, no_cells, no_values, page_in, pages_in, plain_before, plain_values, with_cells}
use Rattle.pq_pages.specs.Writing.{AreTexts, AreWritable, body_bytes, chunk_bytes, frame, spec_of}
use Rattle.pq_pages.proofs.HeaderBackLemmas.{IntsBack, header_long, page_back, written_page}
use Rattle.pq_pages.proofs.PageLemmas.{pages_end}

abbrev pub LevelsBack : Type 0
LevelsBack = (flags : List Bool) (rest : List ℕ) → length flags < 2 ^ 63 → levels_in 1 (level_bytes flags ++ rest) (length flags) ≡ Ok (map level_of flags)

abbrev pub ValuesBack : Type 0
ValuesBack = (vs : Values) (rest : List ℕ) → AreShort vs → AreInRange vs → IsReadAgain vs (value_bytes vs ++ rest)

-- ---- Levels

flags_again : (flags : List Bool) → map is_one (map level_of flags) ≡ flags
flags_again [] = refl
flags_again (true ∷ flags) = ap (λ (fs : List Bool). true ∷ fs) (flags_again flags)
flags_again (false ∷ flags) = ap (λ (fs : List Bool). false ∷ fs) (flags_again flags)

flags_back : LevelsBack → (flags : List Bool) → length flags < 2 ^ 31 → flags_in (length flags) (level_bytes flags) ≡ Ok flags
unfolding flags_in
flags_back back flags few =
    let read : levels_in 1 (level_bytes flags) (length flags) ≡ Ok (map level_of flags) =
    subst (λ bytes. levels_in 1 bytes (length flags) ≡ Ok (map level_of flags)) (append-nil (level_bytes flags)) (back flags [] (omega (arith, few))) in
    rw read (ap (λ (fs : List Bool). Ok fs) (flags_again flags))

framed_is : (all bytes rest : List ℕ) → 4 ≤ length all → little_number 4 all ≡ length bytes → drop 4 all ≡ bytes ++ rest → framed all ≡ Ok (bytes, rest)
unfolding framed
framed_is all bytes rest four number behind =
    let long : nat_lt (length all) 4 ≡ false = le-ltb _ _ four in
    let held : nat_lt (length (bytes ++ rest)) (length bytes) ≡ false = le-ltb _ _ (omega (arith, length-append bytes rest)) in
    rw (long, number, behind, held, take-append_seam bytes rest, drop-append_seam bytes rest) refl

frame_back : (bytes rest : List ℕ) → length bytes < 2 ^ 31 → framed (frame bytes ++ rest) ≡ Ok (bytes, rest)
frame_back bytes rest small =
    let head : List ℕ = little_bytes 4 (length bytes) in
    let parts : frame bytes ++ rest ≡ head ++ (bytes ++ rest) = append_assoc head bytes rest in
    let four : length head ≡ 4 = length-bytes_low_first 0 4 (length bytes) in
    let number : little_number 4 (head ++ (bytes ++ rest)) ≡ length bytes = little_number-reads_back 4 (length bytes) (bytes ++ rest) (omega (arith, small)) in
    let behind : drop 4 (head ++ (bytes ++ rest)) ≡ bytes ++ rest = subst (λ n. drop n (head ++ (bytes ++ rest)) ≡ bytes ++ rest) four (drop-append_seam head (bytes ++ rest)) in
    ap (λ all. framed all) parts
    ∙ framed_is (head ++ (bytes ++ rest)) bytes rest (omega (arith, length-append head (bytes ++ rest), four)) number behind

all_set : (flags : List Bool) → All (λ flag. flag ≡ true) flags → replicate (length flags) true ≡ flags
all_set [] h = refl
all_set (flag ∷ flags) h =
    let first : flag ≡ true = All-head (λ (f : Bool). f ≡ true) flag flags h in
    rw first (ap (λ (fs : List Bool). true ∷ fs) (all_set flags (All-tail (λ (f : Bool). f ≡ true) flag flags h)))

levels_back : LevelsBack → (optional : Bool) (cells : Cells) → AreWritable optional cells → 0 < length cells.defined
    → data_levels optional (length cells.defined) (body_bytes optional cells) ≡ Ok (cells.defined, value_bytes cells.values)
unfolding data_levels
levels_back back true cells can some =
    let flags : List Bool = cells.defined in
    let not_none : nat_eq (length flags) 0 ≡ false = grind (arith, some) in
    let whole_frame : length (level_bytes flags) < 2 ^ 31 =
    omega (arith, can.small, length-append (frame (level_bytes flags)) (value_bytes cells.values), length-append (little_bytes 4 (length (level_bytes flags))) (level_bytes flags)) in
    rw (not_none, frame_back (level_bytes flags) (value_bytes cells.values) whole_frame, flags_back back flags can.few) refl
levels_back back false cells can some = rw (all_set cells.defined (can.required refl)) refl

-- ---- Values

texts_again : (place : ℕ) (xs : List (List ℕ)) → All (λ x. IsUtf8 x) xs → all_texts place xs ≡ Ok tt
texts_again place [] h = refl
texts_again place (x ∷ xs) h =
    rw (is_utf8-from_IsUtf8 x (All-head (λ (y : List ℕ). IsUtf8 y) x xs h)) (texts_again (place + 1) xs (All-tail (λ (y : List ℕ). IsUtf8 y) x xs h))

texts_back : (text : Bool) (place : ℕ) (vs : Values) → (text ≡ true → AreTexts vs) → are_texts text place vs ≡ Ok tt
texts_back text place (bools xs) h = refl
texts_back text place (i32s xs) h = refl
texts_back text place (i64s xs) h = refl
texts_back true place (strings xs) h = texts_again place xs (h refl)
texts_back false place (strings xs) h = refl

pub judged_back : (text : Bool) (place : ℕ) (vs before : Values) → (text ≡ true → AreTexts vs) → judged text place (Ok vs) before ≡ Ok vs
judged_back text place vs before utf8 = rw (texts_back text place vs utf8) refl

values_back : ValuesBack → (text : Bool) (count : ℕ) (vs : Values) → count_of vs ≡ count → AreShort vs → AreInRange vs → (text ≡ true → AreTexts vs)
    → plain_values (kind_of vs) text 0 count (value_bytes vs) ≡ Ok vs
unfolding plain_values
values_back back text count vs same short fits utf8 =
    let read : values_in (kind_of vs) count (value_bytes vs) ≡ Ok vs =
    subst (λ n. values_in (kind_of vs) n (value_bytes vs) ≡ Ok vs) same
    (subst (λ bytes. values_in (kind_of vs) (count_of vs) bytes ≡ Ok vs) (append-nil (value_bytes vs)) (back vs [] short fits)) in
    rw read (judged_back text 0 vs (plain_before (kind_of vs) count (value_bytes vs)) utf8)

none_had : (vs : Values) → count_of (no_values (kind_of vs)) ≡ 0
none_had (bools xs) = refl
none_had (i32s xs) = refl
none_had (i64s xs) = refl
none_had (strings xs) = refl

joined_none : (vs : Values) → joined (no_values (kind_of vs)) vs ≡ vs
joined_none (bools xs) = refl
joined_none (i32s xs) = refl
joined_none (i64s xs) = refl
joined_none (strings xs) = refl

pub none_at_all : (vs : Values) → count_of vs ≡ 0 → no_values (kind_of vs) ≡ vs
none_at_all (bools []) h = refl
none_at_all (bools (x ∷ xs)) h = cc
none_at_all (i32s []) h = refl
none_at_all (i32s (x ∷ xs)) h = cc
none_at_all (i64s []) h = refl
none_at_all (i64s (x ∷ xs)) h = cc
none_at_all (strings []) h = refl
none_at_all (strings (x ∷ xs)) h = cc

-- ---- The page

abbrev all_had : Cells → Chunk
all_had cells = record { defined = cells.defined; values = cells.values; dictionary = None }

cells_back : ValuesBack → (text optional : Bool) (cells : Cells) → AreWritable optional cells → AreInRange cells.values → (text ≡ true → AreTexts cells.values)
    → with_cells (spec_of text optional cells) (no_cells (kind_of cells.values)) coding.Plain cells.defined (value_bytes cells.values) ≡ Ok (all_had cells)
unfolding with_cells
cells_back back text optional cells can fits utf8 =
    rw (none_had cells.values, values_back back text (count_by (λ flag. flag) cells.defined) cells.values can.matched can.short fits utf8, joined_none cells.values) refl

abbrev levels_code : Bool → Option ℤ
levels_code optional = cond optional (Some (pos 3)) None

coding_back : (text optional : Bool) (cells : Cells)
    → data_coding (spec_of text optional cells) (no_cells (kind_of cells.values)) (length cells.defined) (pos 0) (levels_code optional) ≡ Ok coding.Plain
unfolding data_coding fits coding_of runs_coded
coding_back text true cells =
    let enough : nat_lt (length cells.defined) (0 + length cells.defined) ≡ false = le-ltb _ _ (omega arith) in
    rw enough refl
coding_back text false cells =
    let enough : nat_lt (length cells.defined) (0 + length cells.defined) ≡ false = le-ltb _ _ (omega arith) in
    rw enough refl

header_back : (optional : Bool) (size count : ℕ) → header_of optional (written_page size count) ≡ Ok (record { size = size; page = page.Data count (pos 0) (levels_code optional) })
unfolding header_of page_of data_of
header_back true size count = refl
header_back false size count = refl

in_page_back : LevelsBack → ValuesBack → (text optional : Bool) (cells : Cells) → AreWritable optional cells → AreInRange cells.values → (text ≡ true → AreTexts cells.values) → 0 < length cells.defined
    → in_page (spec_of text optional cells) (no_cells (kind_of cells.values)) (page.Data (length cells.defined) (pos 0) (levels_code optional)) (body_bytes optional cells) ≡ Ok (all_had cells)
unfolding data_page
in_page_back levels values text optional cells can fits utf8 some =
    rw (coding_back text optional cells, levels_back levels optional cells can some, cells_back values text optional cells can fits utf8) refl

body_back : LevelsBack → ValuesBack → (text optional : Bool) (cells : Cells) → AreWritable optional cells → AreInRange cells.values → (text ≡ true → AreTexts cells.values) → 0 < length cells.defined
    → behind_header (spec_of text optional cells) (no_cells (kind_of cells.values))
    (record { size = length (body_bytes optional cells); page = page.Data (length cells.defined) (pos 0) (levels_code optional) }) (body_bytes optional cells) ≡ Ok (all_had cells, [])
unfolding behind_header
body_back levels values text optional cells can fits utf8 some =
    let body : List ℕ = body_bytes optional cells in
    let held : nat_lt (length body) (length body) ≡ false = le-ltb _ _ (omega arith) in
    let nothing : drop (length body) body ≡ [] = subst (λ bytes. drop (length body) bytes ≡ []) (append-nil body) (drop-append_seam body []) in
    rw (held, take_all (length body) body (omega arith), in_page_back levels values text optional cells can fits utf8 some, nothing) refl

one_page : IntsBack → LevelsBack → ValuesBack → (text optional : Bool) (cells : Cells) (end : ℕ) → AreWritable optional cells → AreInRange cells.values → (text ≡ true → AreTexts cells.values) → 0 < length cells.defined
    → page_in (spec_of text optional cells) end (no_cells (kind_of cells.values)) (chunk_bytes optional cells) ≡ Ok (all_had cells, [])
unfolding page_in
one_page ints levels values text optional cells end can fits utf8 some =
    rw (
      page_back ints end (length (body_bytes optional cells)) (length cells.defined) (body_bytes optional cells) can.small can.few,
      header_back optional (length (body_bytes optional cells)) (length cells.defined),
      body_back levels values text optional cells can fits utf8 some,
    ) refl

-- ---- The chunk

done : (spec : ChunkSpec) (had : Chunk) → length had.defined ≡ spec.num_values → is_whole spec had ≡ true
done spec had h = eq-eqb _ _ h

pub ends_here : (spec : ChunkSpec) (end most : ℕ) (had : Chunk) (bytes : List ℕ) → length had.defined ≡ spec.num_values → pages_in spec end most had bytes ≡ Ok had
ends_here spec end most had bytes h =
    let full : is_whole spec had ≡ true = done spec had h in
    let stop : (is_whole spec had || nat_eq (length bytes) 0) ≡ true = rw full refl in
    pages_end spec end most had bytes stop ∙ (rw full refl)

pub next_page : (spec : ChunkSpec) (end most : ℕ) (had new : Chunk) (bytes rest : List ℕ) → (is_whole spec had || nat_eq (length bytes) 0) ≡ false → page_in spec end had bytes ≡ Ok (new, rest)
    → pages_in spec end (suc most) had bytes ≡ pages_in spec end most new rest
unfolding pages_in
next_page spec end most had new bytes rest go read = rw (go, read) refl

pages_back : IntsBack → LevelsBack → ValuesBack → (text optional : Bool) (cells : Cells) (end : ℕ) → AreWritable optional cells → AreInRange cells.values → (text ≡ true → AreTexts cells.values) → 0 < length cells.defined
    → pages_in (spec_of text optional cells) end (length (chunk_bytes optional cells)) (no_cells (kind_of cells.values)) (chunk_bytes optional cells) ≡ Ok (all_had cells)
pages_back ints levels values text optional cells end can fits utf8 some =
    let spec : ChunkSpec = spec_of text optional cells in
    let had : Chunk = no_cells (kind_of cells.values) in
    let bytes : List ℕ = chunk_bytes optional cells in
    let long : 0 < length bytes = header_long (length (body_bytes optional cells)) (length cells.defined) (body_bytes optional cells) in
    let fuel : length bytes ≡ suc (length bytes - 1) = omega (arith, long) in
    let wanted : is_whole spec had ≡ false = grind (arith, some) in
    let here : nat_eq (length bytes) 0 ≡ false = grind (arith, long) in
    let go : (is_whole spec had || nat_eq (length bytes) 0) ≡ false = rw (wanted, here) refl in
    ap (λ n. pages_in spec end n had bytes) fuel
    ∙ next_page spec end (length bytes - 1) had (all_had cells) bytes [] go (one_page ints levels values text optional cells end can fits utf8 some)
    ∙ ends_here spec end (length bytes - 1) (all_had cells) [] refl

some_cells : IntsBack → LevelsBack → ValuesBack → (text optional : Bool) (cells : Cells) → AreWritable optional cells → AreInRange cells.values → (text ≡ true → AreTexts cells.values) → 0 < length cells.defined
    → chunk_of (spec_of text optional cells) (chunk_bytes optional cells) ≡ Ok cells
unfolding chunk_of
some_cells ints levels values text optional cells can fits utf8 some =
    rw (pages_back ints levels values text optional cells (length (chunk_bytes optional cells)) can fits utf8 some) refl

no_cell : (text optional : Bool) (vs : Values) → AreWritable optional (record { defined = []; values = vs })
    → chunk_of (spec_of text optional (record { defined = []; values = vs })) (chunk_bytes optional (record { defined = []; values = vs })) ≡ Ok (record { defined = []; values = vs })
unfolding chunk_of
no_cell text optional vs can =
    let cells : Cells = record { defined = []; values = vs } in
    let bytes : List ℕ = chunk_bytes optional cells in
    rw (ends_here (spec_of text optional cells) (length bytes) (length bytes) (no_cells (kind_of vs)) bytes refl)
    (ap (λ (found : Values). Ok (record { defined = []; values = found })) (none_at_all vs can.matched))

by_cells : IntsBack → LevelsBack → ValuesBack → (text optional : Bool) (flags : List Bool) (vs : Values) → AreWritable optional (record { defined = flags; values = vs }) → AreInRange vs → (text ≡ true → AreTexts vs)
    → chunk_of (spec_of text optional (record { defined = flags; values = vs })) (chunk_bytes optional (record { defined = flags; values = vs })) ≡ Ok (record { defined = flags; values = vs })
by_cells ints levels values text optional [] vs can fits utf8 = no_cell text optional vs can
by_cells ints levels values text optional (flag ∷ flags) vs can fits utf8 =
    some_cells ints levels values text optional (record { defined = flag ∷ flags; values = vs }) can fits utf8 (omega arith)

-- what is written for cells is read as these cells
pub chunk_back : IntsBack → LevelsBack → ValuesBack → (text optional : Bool) (cells : Cells) → AreWritable optional cells → AreInRange cells.values → (text ≡ true → AreTexts cells.values)
    → chunk_of (spec_of text optional cells) (chunk_bytes optional cells) ≡ Ok cells
chunk_back ints levels values text optional cells can fits utf8 = by_cells ints levels values text optional cells.defined cells.values can fits utf8

-- ---- How long a page is

pub body_at_most : ((flags : List Bool) → length (level_bytes flags) ≤ 11 * length flags) → ((vs : Values) → length (value_bytes vs) ≡ plain_size vs)
    → (optional : Bool) (cells : Cells) → length (body_bytes optional cells) ≤ 4 + 11 * length cells.defined + plain_size cells.values
body_at_most levels values true cells =
    let flags : List Bool = cells.defined in
    let size : List ℕ = little_bytes 4 (length (level_bytes flags)) in
    let four : length size ≡ 4 = length-bytes_low_first 0 4 (length (level_bytes flags)) in
    omega (arith, length-append (size ++ level_bytes flags) (value_bytes cells.values), length-append size (level_bytes flags), four, levels flags, values cells.values)
body_at_most levels values false cells = omega (arith, values cells.values)
