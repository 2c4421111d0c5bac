-- Fields that are written one after the other are read back.
use Rattle.std.proofs.Common.{◌≡◌, ℕ, ℤ, pos, ◌+◌, ◌≤◌, ◌<◌, ◌^◌, ◌<ℤ◌, zero, suc, List, [], ◌∷◌, ◌++◌, length, map, Some, None, Ok, true, false, refl, ap, ◌∙◌, append_assoc, arith, length-append, inl, inr, ◌+ℤ◌, ◌-ℤ◌, ◌*◌}
use Rattle.std.specs.Prelude.{FitsSigned, if◌then◌else◌, int_le, unsigned_abs, All}
use Rattle.std.specs.Int.{w16, w32, w64}
use Rattle.std.specs.List.{flat_map}
use Rattle.std.proofs.lemmas.Int.{ints}
use Rattle.std.proofs.lemmas.Bool.{le-ltb, lt-ltb, cases_lt}
use Rattle.std.proofs.lemmas.List.Elements.{All-tail}
use Rattle.thrift_compact.specs.Spelling.{IsType}
use Rattle.thrift_compact.specs.Laws.{ReadsBack}
use Rattle.thrift_compact.specs.Reading.{Read, start_of, begins_list_of, signed_in, binary_in, list_header_in, field_header_in}
use Rattle.thrift_compact.specs.Shortest.{field_spelling, list_spelling, signed_spelling, binary_spelling}
use Rattle.thrift_compact.specs.Structs.{struct_in, struct_of, row_in, structs_of}

-- what is written of each item reads back, as thrift_compact says
pub record ThriftBack : Type 0 where
  pub i32 : (at : ℕ) (z : ℤ) → FitsSigned w32 z → ReadsBack (signed_in at (2 ^ 32)) (signed_spelling z) z
  pub i64 : (at : ℕ) (z : ℤ) → FitsSigned w64 z → ReadsBack (signed_in at (2 ^ 64)) (signed_spelling z) z
  pub binary : (at : ℕ) (text : List ℕ) → length text < 2 ^ 32 → ReadsBack (binary_in at) (binary_spelling text) text
  pub list_header : (at ty size : ℕ) → IsType ty → size < 2 ^ 32 → ReadsBack (list_header_in at) (list_spelling ty size) (ty, size)
  pub field_header : (at : ℕ) (last id : ℤ) (ty : ℕ) → last <ℤ id → IsType ty → FitsSigned w16 id
      → ReadsBack (field_header_in at last) (field_spelling last id ty) (Some (id, ty))
  pub stop : (at : ℕ) (last : ℤ) → ReadsBack (field_header_in at last) (0 ∷ []) None

-- These bytes, behind the field `last`, are read as the fields that make one draft of another, and the stop.
abbrev pub ReadsFields : {D : Type 0} → (ℕ → D → ℤ → ℕ → List ℕ → Read D) → ℤ → D → List ℕ → D → Type 0
ReadsFields part last draft bytes made =
    (end most : ℕ) (rest : List ℕ) → length bytes ≤ most → struct_in end (part end) most last draft (bytes ++ rest) ≡ Ok (made, rest)

-- this value, whatever follows it, is read as what makes one draft of another
abbrev pub ReadsValue : {D : Type 0} → (ℕ → D → ℤ → ℕ → List ℕ → Read D) → D → ℤ → ℕ → List ℕ → D → Type 0
ReadsValue part draft id ty value made = (end : ℕ) (rest : List ℕ) → part end draft id ty (value ++ rest) ≡ Ok (made, rest)

-- a header takes a byte at least
field_spelling_some : (last id : ℤ) (ty : ℕ) → 0 < length (field_spelling last id ty)
unfolding field_spelling
field_spelling_some last id ty =
    elim (int_le id (last +ℤ pos 15)) as (λ b. 0 < length (if b then (16 * unsigned_abs (id -ℤ last) + ty) ∷ [] else ty ∷ signed_spelling id))
    [ true ↦ omega arith | false ↦ omega arith ]

pub stop_read : {D : Type 0} (laws : ThriftBack) (part : ℕ → D → ℤ → ℕ → List ℕ → Read D) (last : ℤ) (draft : D) → ReadsFields part last draft (0 ∷ []) draft
unfolding struct_in
stop_read laws part last draft end zero rest le = absurd (omega arith)
stop_read laws part last draft end (suc most) rest le = rw (laws.stop (start_of end (0 ∷ rest)) last rest) refl

behind : {D : Type 0} (laws : ThriftBack) (part : ℕ → D → ℤ → ℕ → List ℕ → Read D) (last id : ℤ) (ty : ℕ) (draft next made : D) (value more : List ℕ) (end most : ℕ) (rest : List ℕ)
    → last <ℤ id → IsType ty → FitsSigned w16 id
    → ReadsValue part draft id ty value next
    → struct_in end (part end) most id next (more ++ rest) ≡ Ok (made, rest)
    → struct_in end (part end) (suc most) last draft (field_spelling last id ty ++ (value ++ (more ++ rest))) ≡ Ok (made, rest)
unfolding struct_in
behind laws part last id ty draft next made value more end most rest past good fits reads later =
    rw (laws.field_header (start_of end (field_spelling last id ty ++ (value ++ (more ++ rest)))) last id ty past good fits (value ++ (more ++ rest)))
    (rw (reads end (more ++ rest)) later)

-- a field, and the fields behind it
pub field_read : {D : Type 0} (laws : ThriftBack) (part : ℕ → D → ℤ → ℕ → List ℕ → Read D) (last id : ℤ) (ty : ℕ) (draft next made : D) (bytes value more : List ℕ)
    → last <ℤ id → IsType ty → FitsSigned w16 id
    → bytes ≡ field_spelling last id ty ++ (value ++ more)
    → ReadsValue part draft id ty value next → ReadsFields part id next more made
    → ReadsFields part last draft bytes made
field_read laws part last id ty draft next made bytes value more past good fits parts reads later end zero rest le =
    absurd (omega (arith, field_spelling_some last id ty, ap length parts, length-append (field_spelling last id ty) (value ++ more)))
field_read laws part last id ty draft next made bytes value more past good fits parts reads later end (suc most) rest le =
    let room : length more ≤ most = omega (arith, field_spelling_some last id ty, ap length parts, length-append (field_spelling last id ty) (value ++ more), length-append value more) in
    let same : bytes ++ rest ≡ field_spelling last id ty ++ (value ++ (more ++ rest)) =
    ap (λ (x : List ℕ). x ++ rest) parts ∙ append_assoc (field_spelling last id ty) (value ++ more) rest
    ∙ ap (λ (x : List ℕ). field_spelling last id ty ++ x) (append_assoc value more rest) in
    rw same (behind laws part last id ty draft next made value more end most rest past good fits reads (later end most rest room))

-- the same of pieces that are grouped otherwise
pub regrouped_read : {D : Type 0} (part : ℕ → D → ℤ → ℕ → List ℕ → Read D) (last : ℤ) (draft made : D) (bytes other : List ℕ) → bytes ≡ other
    → ReadsFields part last draft other made → ReadsFields part last draft bytes made
regrouped_read part last draft made bytes other same reads end most rest le = rw same (reads end most rest (omega (arith, ap length same)))

-- the same of ids that are small numbers, with the header and the value as one piece
pub field_then : {D : Type 0} (laws : ThriftBack) (part : ℕ → D → ℤ → ℕ → List ℕ → Read D) (last id ty : ℕ) (draft next made : D) (value more : List ℕ)
    → last < id → id < 100 → 0 < ty → ty < 13
    → ReadsValue part draft (pos id) ty value next → ReadsFields part (pos id) next more made
    → ReadsFields part (pos last) draft ((field_spelling (pos last) (pos id) ty ++ value) ++ more) made
field_then laws part last id ty draft next made value more past small some known reads later =
    let past_ints : pos last <ℤ pos id = omega (arith, ints) in
    let fits : FitsSigned w16 (pos id) = omega (arith, ints) in
    field_read laws part (pos last) (pos id) ty draft next made ((field_spelling (pos last) (pos id) ty ++ value) ++ more) value more past_ints (some, known) fits
    (append_assoc (field_spelling (pos last) (pos id) ty) value more) reads later

-- a struct
pub struct_read : {D : Type 0} (part : ℕ → D → ℤ → ℕ → List ℕ → Read D) (empty made : D) (bytes : List ℕ) (end : ℕ) (rest : List ℕ)
    → ReadsFields part (pos 0) empty bytes made → struct_of part empty end (bytes ++ rest) ≡ Ok (made, rest)
unfolding struct_of
struct_read part empty made bytes end rest reads = reads end (length (bytes ++ rest)) rest (omega (arith, length-append bytes rest))

-- ---- lists of structs

pub row_cons : {D : Type 0} (item : List ℕ → Read D) (n : ℕ) (front more rest : List ℕ) (x : D) (xs : List D)
    → item (front ++ (more ++ rest)) ≡ Ok (x, more ++ rest) → row_in item n (more ++ rest) ≡ Ok (xs, rest)
    → row_in item (suc n) ((front ++ more) ++ rest) ≡ Ok (x ∷ xs, rest)
unfolding row_in
row_cons item n front more rest x xs one others = rw append_assoc (rw one (rw others refl))

pub row_nil : {D : Type 0} (item : List ℕ → Read D) (rest : List ℕ) → row_in item 0 rest ≡ Ok ([], rest)
unfolding row_in
row_nil item rest = refl

-- an item's spelling is read as its draft
abbrev pub ReadsItem : {A D : Type 0} → (ℕ → D → ℤ → ℕ → List ℕ → Read D) → D → (A → List ℕ) → (A → D) → A → Type 0
ReadsItem part empty spell draft item = ReadsFields part (pos 0) empty (spell item) (draft item)

-- items that are spelled one after the other
pub row_read : {A D : Type 0} (part : ℕ → D → ℤ → ℕ → List ℕ → Read D) (empty : D) (spell : A → List ℕ) (draft : A → D) (items : List A) (end : ℕ) (rest : List ℕ)
    → All (ReadsItem part empty spell draft) items
    → row_in (struct_of part empty end) (length items) (flat_map spell items ++ rest) ≡ Ok (map draft items, rest)
row_read part empty spell draft [] end rest reads = row_nil (struct_of part empty end) rest
row_read part empty spell draft (item ∷ items) end rest reads =
    row_cons (struct_of part empty end) (length items) (spell item) (flat_map spell items) rest (draft item) (map draft items)
    (struct_read part empty (draft item) (spell item) end (flat_map spell items ++ rest) (reads 0 item (omega arith)))
    (row_read part empty spell draft items end rest (All-tail (ReadsItem part empty spell draft) item items reads))

-- a list of structs with its header
pub structs_read : {D : Type 0} (laws : ThriftBack) (part : ℕ → D → ℤ → ℕ → List ℕ → Read D) (empty : D) (size : ℕ) (bytes : List ℕ) (made : List D) (end : ℕ) (rest : List ℕ)
    → size < 2 ^ 32 → row_in (struct_of part empty end) size (bytes ++ rest) ≡ Ok (made, rest)
    → structs_of part empty end (list_spelling 12 size ++ (bytes ++ rest)) ≡ Ok (made, rest)
unfolding structs_of
structs_read laws part empty size bytes made end rest lt reads =
    rw (laws.list_header (start_of end (list_spelling 12 size ++ (bytes ++ rest))) 12 size (omega arith, omega arith) lt (bytes ++ rest)) reads

-- the header of such a list says what its elements are
pub begins_list : (size : ℕ) (rest : List ℕ) → begins_list_of 12 (list_spelling 12 size ++ rest) ≡ true
unfolding list_spelling
begins_list size rest =
    elim (cases_lt size 15) [
      | inl small ↦ rw (lt-ltb size 15 small) (grind arith)
      | inr big ↦ rw (le-ltb size 15 big) refl
    ]
