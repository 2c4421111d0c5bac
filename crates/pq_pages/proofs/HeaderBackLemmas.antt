-- A written page header reads back.
use Rattle.std.proofs.Common.{◌≡◌, ℕ, ℤ, pos, suc, ◌-◌, ◌<◌, ◌≤◌, ◌^◌, List, ◌∷◌, ◌++◌, length, Some, None, Ok, refl, ap, ◌∙◌, append_assoc, arith, FitsSigned}
use Rattle.std.proofs.lemmas.List.{length-append}
use Rattle.std.specs.Int.{w32}
use Rattle.std.proofs.lemmas.Int.{fits_signed_from_abs}
use Rattle.thrift_compact.specs.Reading.{Read, start_of, signed_in, field_header_in, after_value, after_plain}
use Rattle.thrift_compact.specs.Shortest.{field_spelling, signed_spelling}
use Rattle.thrift_compact.specs.Laws.{ReadsBack}
use Rattle.thrift_compact.specs.declared.types.TheConstants.{I32, STRUCT}
use Rattle.thrift_compact.specs.Reading.{count_in}
use Rattle.thrift_compact.specs.Structs.{struct_in, struct_of}
use Rattle.pq_pages.specs.declared.drafts.DataDraft.{DataDraft}
use Rattle.pq_pages.specs.declared.drafts.PageDraft.{PageDraft}
use Rattle.pq_pages.specs.Headers.{data_field, no_data, no_page, page_field}
use Rattle.pq_pages.specs.Writing.{data_header_bytes, header_bytes}

-- signed numbers of 32 bits read back
abbrev pub IntsBack : Type 0
IntsBack = (at : ℕ) (z : ℤ) → FitsSigned w32 z → ReadsBack (signed_in at (2 ^ 32)) (signed_spelling z) z

small_fits : (n : ℕ) → n < 2 ^ 31 → FitsSigned w32 (pos n)
small_fits n h = fits_signed_from_abs w32 (pos n) h

int_back : IntsBack → (at n : ℕ) (rest : List ℕ) → n < 2 ^ 31 → signed_in at (2 ^ 32) (signed_spelling (pos n) ++ rest) ≡ Ok (pos n, rest)
int_back ints at n rest h = ints at (pos n) (small_fits n h) rest

count_back : IntsBack → (at n : ℕ) (rest : List ℕ) → n < 2 ^ 31 → count_in at (2 ^ 32) (signed_spelling (pos n) ++ rest) ≡ Ok (n, rest)
unfolding count_in
count_back ints at n rest h = rw (int_back ints at n rest h) refl

-- one field of a struct
next : {D : Type 0} (end : ℕ) (part : D → ℤ → ℕ → List ℕ → Read D) (most : ℕ) (last id : ℤ) (ty : ℕ) (draft after : D) (bytes rest more : List ℕ)
    → field_header_in (start_of end bytes) last bytes ≡ Ok (Some (id, ty), rest) → part draft id ty rest ≡ Ok (after, more)
    → struct_in end part (suc most) last draft bytes ≡ struct_in end part most id after more
unfolding struct_in
next end part most last id ty draft after bytes rest more head value = rw (head, value) refl

stop : {D : Type 0} (end : ℕ) (part : D → ℤ → ℕ → List ℕ → Read D) (most : ℕ) (last : ℤ) (draft : D) (rest : List ℕ)
    → struct_in end part (suc most) last draft (0 ∷ rest) ≡ Ok (draft, rest)
unfolding struct_in field_header_in
stop end part most last draft rest = refl

-- ---- The headers of the fields, in their shortest spelling

head_1 : (at : ℕ) (rest : List ℕ) → field_header_in at (pos 0) (field_spelling (pos 0) (pos 1) I32 ++ rest) ≡ Ok (Some (pos 1, I32), rest)
unfolding field_header_in field_spelling
head_1 at rest = refl

head_2 : (at : ℕ) (rest : List ℕ) → field_header_in at (pos 1) (field_spelling (pos 1) (pos 2) I32 ++ rest) ≡ Ok (Some (pos 2, I32), rest)
unfolding field_header_in field_spelling
head_2 at rest = refl

head_3 : (at : ℕ) (rest : List ℕ) → field_header_in at (pos 2) (field_spelling (pos 2) (pos 3) I32 ++ rest) ≡ Ok (Some (pos 3, I32), rest)
unfolding field_header_in field_spelling
head_3 at rest = refl

head_4 : (at : ℕ) (rest : List ℕ) → field_header_in at (pos 3) (field_spelling (pos 3) (pos 4) I32 ++ rest) ≡ Ok (Some (pos 4, I32), rest)
unfolding field_header_in field_spelling
head_4 at rest = refl

head_5 : (at : ℕ) (rest : List ℕ) → field_header_in at (pos 3) (field_spelling (pos 3) (pos 5) STRUCT ++ rest) ≡ Ok (Some (pos 5, STRUCT), rest)
unfolding field_header_in field_spelling
head_5 at rest = refl

-- ---- Each field has a byte at least, so that the bytes are fuel enough

under : (xs ys : List ℕ) (n : ℕ) → n ≤ length ys → n ≤ length (xs ++ ys)
under xs ys n h = omega (arith, length-append xs ys, h)

over_1 : (ys : List ℕ) (n : ℕ) → n ≤ length ys → suc n ≤ length (field_spelling (pos 0) (pos 1) I32 ++ ys)
unfolding field_spelling
over_1 ys n h = omega (arith, h)

over_2 : (ys : List ℕ) (n : ℕ) → n ≤ length ys → suc n ≤ length (field_spelling (pos 1) (pos 2) I32 ++ ys)
unfolding field_spelling
over_2 ys n h = omega (arith, h)

over_3 : (ys : List ℕ) (n : ℕ) → n ≤ length ys → suc n ≤ length (field_spelling (pos 2) (pos 3) I32 ++ ys)
unfolding field_spelling
over_3 ys n h = omega (arith, h)

over_4 : (ys : List ℕ) (n : ℕ) → n ≤ length ys → suc n ≤ length (field_spelling (pos 3) (pos 4) I32 ++ ys)
unfolding field_spelling
over_4 ys n h = omega (arith, h)

over_5 : (ys : List ℕ) (n : ℕ) → n ≤ length ys → suc n ≤ length (field_spelling (pos 3) (pos 5) STRUCT ++ ys)
unfolding field_spelling
over_5 ys n h = omega (arith, h)

five : (n : ℕ) → 5 ≤ n → n ≡ suc (suc (suc (suc (suc (n - 5)))))
five n h = omega (arith, h)

opened : {D : Type 0} (part : ℕ → D → ℤ → ℕ → List ℕ → Read D) (empty : D) (end : ℕ) (bytes : List ℕ) → 5 ≤ length bytes
    → struct_of part empty end bytes ≡ struct_in end (part end) (suc (suc (suc (suc (suc (length bytes - 5)))))) (pos 0) empty bytes
unfolding struct_of
opened part empty end bytes h = ap (λ n. struct_in end (part end) n (pos 0) empty bytes) (five (length bytes) h)

-- a number of a field that is not known
passed : IntsBack → (end n : ℕ) (rest : List ℕ) → n < 2 ^ 31 → after_value end 16 I32 (signed_spelling (pos n) ++ rest) ≡ Ok rest
unfolding after_value after_plain
passed ints end n rest h = rw (int_back ints (start_of end (signed_spelling (pos n) ++ rest)) n rest h) refl

-- ---- The header inside

abbrev data_4 : List ℕ → List ℕ
data_4 rest = field_spelling (pos 3) (pos 4) I32 ++ (signed_spelling (pos 3) ++ 0 ∷ rest)

abbrev data_3 : List ℕ → List ℕ
data_3 rest = field_spelling (pos 2) (pos 3) I32 ++ (signed_spelling (pos 3) ++ data_4 rest)

abbrev data_2 : List ℕ → List ℕ
data_2 rest = field_spelling (pos 1) (pos 2) I32 ++ (signed_spelling (pos 0) ++ data_3 rest)

abbrev data_1 : ℕ → List ℕ → List ℕ
data_1 count rest = field_spelling (pos 0) (pos 1) I32 ++ (signed_spelling (pos count) ++ data_2 rest)

data_parts : (count : ℕ) (rest : List ℕ) → data_header_bytes count ++ rest ≡ data_1 count rest
data_parts count rest = simp append_assoc refl

one : (rest : List ℕ) → 1 ≤ length (0 ∷ rest)
one rest = omega arith

data_fuel : (count : ℕ) (rest : List ℕ) → 5 ≤ length (data_1 count rest)
data_fuel count rest =
    over_1 _ 4 (under (signed_spelling (pos count)) _ 4 (over_2 _ 3 (under (signed_spelling (pos 0)) _ 3 (over_3 _ 2 (under (signed_spelling (pos 3)) _ 2
    (over_4 _ 1 (under (signed_spelling (pos 3)) _ 1 (one rest))))))))

abbrev pub written_data : ℕ → DataDraft
written_data count = record { num_values = Some count; encoding = Some (pos 0); levels_encoding = Some (pos 3) }

takes_count : IntsBack → (end n : ℕ) (draft : DataDraft) (rest : List ℕ) → n < 2 ^ 31
    → data_field end draft (pos 1) I32 (signed_spelling (pos n) ++ rest) ≡ Ok (record draft { num_values = Some n }, rest)
unfolding data_field
takes_count ints end n draft rest h = rw (count_back ints (start_of end (signed_spelling (pos n) ++ rest)) n rest h) refl

takes_encoding : IntsBack → (end n : ℕ) (draft : DataDraft) (rest : List ℕ) → n < 2 ^ 31
    → data_field end draft (pos 2) I32 (signed_spelling (pos n) ++ rest) ≡ Ok (record draft { encoding = Some (pos n) }, rest)
unfolding data_field
takes_encoding ints end n draft rest h = rw (int_back ints (start_of end (signed_spelling (pos n) ++ rest)) n rest h) refl

takes_levels : IntsBack → (end n : ℕ) (draft : DataDraft) (rest : List ℕ) → n < 2 ^ 31
    → data_field end draft (pos 3) I32 (signed_spelling (pos n) ++ rest) ≡ Ok (record draft { levels_encoding = Some (pos n) }, rest)
unfolding data_field
takes_levels ints end n draft rest h = rw (int_back ints (start_of end (signed_spelling (pos n) ++ rest)) n rest h) refl

takes_repetition : IntsBack → (end n : ℕ) (draft : DataDraft) (rest : List ℕ) → n < 2 ^ 31
    → data_field end draft (pos 4) I32 (signed_spelling (pos n) ++ rest) ≡ Ok (draft, rest)
unfolding data_field
takes_repetition ints end n draft rest h = rw (passed ints end n rest h) refl

data_back : IntsBack → (end count : ℕ) (rest : List ℕ) → count < 2 ^ 31
    → struct_of data_field no_data end (data_header_bytes count ++ rest) ≡ Ok (written_data count, rest)
data_back ints end count rest h =
    let most = length (data_1 count rest) - 5 in
    let d1 : DataDraft = record no_data { num_values = Some count } in
    let d2 : DataDraft = record d1 { encoding = Some (pos 0) } in
    let d3 : DataDraft = record d2 { levels_encoding = Some (pos 3) } in
    ap (λ bytes. struct_of data_field no_data end bytes) (data_parts count rest)
    ∙ opened data_field no_data end (data_1 count rest) (data_fuel count rest)
    ∙ next end (data_field end) (suc (suc (suc (suc most)))) (pos 0) (pos 1) I32 no_data d1 (data_1 count rest) (signed_spelling (pos count) ++ data_2 rest) (data_2 rest)
    (head_1 _ _) (takes_count ints end count no_data (data_2 rest) h)
    ∙ next end (data_field end) (suc (suc (suc most))) (pos 1) (pos 2) I32 d1 d2 (data_2 rest) (signed_spelling (pos 0) ++ data_3 rest) (data_3 rest)
    (head_2 _ _) (takes_encoding ints end 0 d1 (data_3 rest) (omega arith))
    ∙ next end (data_field end) (suc (suc most)) (pos 2) (pos 3) I32 d2 d3 (data_3 rest) (signed_spelling (pos 3) ++ data_4 rest) (data_4 rest)
    (head_3 _ _) (takes_levels ints end 3 d2 (data_4 rest) (omega arith))
    ∙ next end (data_field end) (suc most) (pos 3) (pos 4) I32 d3 d3 (data_4 rest) (signed_spelling (pos 3) ++ 0 ∷ rest) (0 ∷ rest)
    (head_4 _ _) (takes_repetition ints end 3 d3 (0 ∷ rest) (omega arith))
    ∙ stop end (data_field end) most (pos 4) d3 rest

-- ---- The page's header

abbrev page_5 : ℕ → List ℕ → List ℕ
page_5 count rest = field_spelling (pos 3) (pos 5) STRUCT ++ (data_header_bytes count ++ 0 ∷ rest)

abbrev page_3 : ℕ → ℕ → List ℕ → List ℕ
page_3 size count rest = field_spelling (pos 2) (pos 3) I32 ++ (signed_spelling (pos size) ++ page_5 count rest)

abbrev page_2 : ℕ → ℕ → List ℕ → List ℕ
page_2 size count rest = field_spelling (pos 1) (pos 2) I32 ++ (signed_spelling (pos size) ++ page_3 size count rest)

abbrev page_1 : ℕ → ℕ → List ℕ → List ℕ
page_1 size count rest = field_spelling (pos 0) (pos 1) I32 ++ (signed_spelling (pos 0) ++ page_2 size count rest)

page_parts : (size count : ℕ) (rest : List ℕ) → header_bytes size count ++ rest ≡ page_1 size count rest
page_parts size count rest = simp append_assoc refl

page_fuel : (size count : ℕ) (rest : List ℕ) → 5 ≤ length (page_1 size count rest)
page_fuel size count rest =
    over_1 _ 4 (under (signed_spelling (pos 0)) _ 4 (over_2 _ 3 (under (signed_spelling (pos size)) _ 3 (over_3 _ 2 (under (signed_spelling (pos size)) _ 2
    (over_5 _ 1 (under (data_header_bytes count) _ 1 (one rest))))))))

abbrev pub written_page : ℕ → ℕ → PageDraft
written_page size count =
    record { kind = Some (pos 0); size = Some size; data_page = Some (written_data count); dictionary_page = None; data_page_v2 = None }

takes_kind : IntsBack → (end n : ℕ) (draft : PageDraft) (rest : List ℕ) → n < 2 ^ 31
    → page_field end draft (pos 1) I32 (signed_spelling (pos n) ++ rest) ≡ Ok (record draft { kind = Some (pos n) }, rest)
unfolding page_field
takes_kind ints end n draft rest h = rw (int_back ints (start_of end (signed_spelling (pos n) ++ rest)) n rest h) refl

takes_plain_size : IntsBack → (end n : ℕ) (draft : PageDraft) (rest : List ℕ) → n < 2 ^ 31
    → page_field end draft (pos 2) I32 (signed_spelling (pos n) ++ rest) ≡ Ok (draft, rest)
unfolding page_field
takes_plain_size ints end n draft rest h = rw (passed ints end n rest h) refl

takes_size : IntsBack → (end n : ℕ) (draft : PageDraft) (rest : List ℕ) → n < 2 ^ 31
    → page_field end draft (pos 3) I32 (signed_spelling (pos n) ++ rest) ≡ Ok (record draft { size = Some n }, rest)
unfolding page_field
takes_size ints end n draft rest h = rw (count_back ints (start_of end (signed_spelling (pos n) ++ rest)) n rest h) refl

takes_data : IntsBack → (end count : ℕ) (draft : PageDraft) (rest : List ℕ) → count < 2 ^ 31
    → page_field end draft (pos 5) STRUCT (data_header_bytes count ++ rest) ≡ Ok (record draft { data_page = Some (written_data count) }, rest)
unfolding page_field
takes_data ints end count draft rest h = rw (data_back ints end count rest h) refl

pub page_back : IntsBack → (end size count : ℕ) (rest : List ℕ) → size < 2 ^ 31 → count < 2 ^ 31
    → struct_of page_field no_page end (header_bytes size count ++ rest) ≡ Ok (written_page size count, rest)
page_back ints end size count rest small few =
    let most = length (page_1 size count rest) - 5 in
    let p1 : PageDraft = record no_page { kind = Some (pos 0) } in
    let p3 : PageDraft = record p1 { size = Some size } in
    let p5 : PageDraft = record p3 { data_page = Some (written_data count) } in
    ap (λ bytes. struct_of page_field no_page end bytes) (page_parts size count rest)
    ∙ opened page_field no_page end (page_1 size count rest) (page_fuel size count rest)
    ∙ next end (page_field end) (suc (suc (suc (suc most)))) (pos 0) (pos 1) I32 no_page p1 (page_1 size count rest) (signed_spelling (pos 0) ++ page_2 size count rest) (page_2 size count rest)
    (head_1 _ _) (takes_kind ints end 0 no_page (page_2 size count rest) (omega arith))
    ∙ next end (page_field end) (suc (suc (suc most))) (pos 1) (pos 2) I32 p1 p1 (page_2 size count rest) (signed_spelling (pos size) ++ page_3 size count rest) (page_3 size count rest)
    (head_2 _ _) (takes_plain_size ints end size p1 (page_3 size count rest) small)
    ∙ next end (page_field end) (suc (suc most)) (pos 2) (pos 3) I32 p1 p3 (page_3 size count rest) (signed_spelling (pos size) ++ page_5 count rest) (page_5 count rest)
    (head_3 _ _) (takes_size ints end size p1 (page_5 count rest) small)
    ∙ next end (page_field end) (suc most) (pos 3) (pos 5) STRUCT p3 p5 (page_5 count rest) (data_header_bytes count ++ 0 ∷ rest) (0 ∷ rest)
    (head_5 _ _) (takes_data ints end count p3 (0 ∷ rest) few)
    ∙ stop end (page_field end) most (pos 5) p5 rest

pub header_long : (size count : ℕ) (rest : List ℕ) → 0 < length (header_bytes size count ++ rest)
header_long size count rest =
    let long : 5 ≤ length (page_1 size count rest) = page_fuel size count rest in
    omega (arith, long, ap length (page_parts size count rest))
