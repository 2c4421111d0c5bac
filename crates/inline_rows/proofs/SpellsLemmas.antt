-- Cells that are read spell the bytes that they were read from.
use Rattle.std.proofs.Common.{◌≡◌, ◌≢◌, ℕ, ℤ, zero, suc, ◌^◌, ◌<◌, ◌==◌, if◌then◌else◌, List, [], ◌∷◌, ◌++◌, length, Option, Some, None, Ok, Err, true, false, inl, inr, refl, sym, ap, ◌∙◌, append_assoc, arith, FitsSigned}
use Rattle.std.specs.Int.{w32, w64}
use Rattle.std.specs.List.{AllByRecursion}
use Rattle.std.specs.Prelude.{flat_map}
use Rattle.std.specs.Str.{is_utf8}
use Rattle.std.proofs.lemmas.Bool.{cases_Bool, eqb-true}
use Rattle.std.proofs.lemmas.Int.{ints}
use Rattle.std.proofs.lemmas.Str.{IsUtf8-from_is_utf8}
use Rattle.thrift_compact.specs.Shortest.{unsigned_spelling, to_zigzag}
use Rattle.lake_types.specs.declared.value.Value.{Value}
use Rattle.lake_types.specs.declared.value.Value.TheVariants as value
use Rattle.inline_rows.specs.declared.fault.CellsFault.{CellsFault}
use Rattle.inline_rows.specs.declared.fault.CellsFault.TheVariants.{BadCells, Memory}
use Rattle.inline_rows.specs.Finding.{Stops}
use Rattle.inline_rows.specs.Laws.{Spells, SpellsNone}
use Rattle.inline_rows.specs.Reading.{Item, ◌>>=◌, unsigned_in, signed_in, binary_in, integer_in, utf8_in, text_in, bytes_in, date_in, tagged_in, value_in, field_in, cell_in, Cells, with_cell, at_end, found_or, place, cells_in, decoded}
use Rattle.inline_rows.specs.Spelling.{content, cell_spelling, IsHeld, IsCell, RisesFrom, is_past}
use Rattle.inline_rows.proofs.BackLemmas.{reads_back}
use Rattle.inline_rows.proofs.NumberLemmas.{AreBytes, IsRead, Reads, found, some_parts, unsigned_read, signed_read, binary_read}

-- ---- values

abbrev IsValue : ℕ → List ℕ → Value → List ℕ → Type 0
IsValue tag bytes v rest = IsRead content IsHeld (tag ∷ bytes) v rest

plain_read : (tag : ℕ) (v : Value) (bytes : List ℕ) (w : Value) (rest : List ℕ) → content v ≡ tag ∷ [] → IsHeld v → AreBytes bytes → found v bytes ≡ found w rest → IsValue tag bytes w rest
plain_read tag v bytes w rest is held are e =
    let parts = some_parts v w bytes rest e in
    rw (← parts.0, ← parts.1) (record { spells = rw is refl; holds = held; behind = are })

fits_64 : (z : ℤ) → to_zigzag z < 2 ^ 64 → FitsSigned w64 z
fits_64 z h = grind (arith, ints)

fits_32 : (z : ℤ) → to_zigzag z < 2 ^ 32 → FitsSigned w32 z
fits_32 z h = grind (arith, ints)

integer_read : (bytes : List ℕ) (v : Value) (rest : List ℕ) → AreBytes bytes → integer_in bytes ≡ found v rest → IsValue 3 bytes v rest
integer_read bytes v rest are e = go (signed_in (2 ^ 64) bytes) refl e where
  made : ℤ × List ℕ → Item Value
  made x = Some (value.Int x.0, x.1)

  go : (given : Item ℤ) → signed_in (2 ^ 64) bytes ≡ given → (given >>= made) ≡ found v rest → IsValue 3 bytes v rest
  go None f h = absurd (cc h)
  go (Some (z, behind)) f h =
      let read = signed_read (2 ^ 64) bytes z behind are f in
      let parts = some_parts (value.Int z) v behind rest h in
      rw (← parts.0, ← parts.1) (record { spells = ap (λ (s : List ℕ). 3 ∷ s) read.spells; holds = fits_64 z read.holds; behind = read.behind })

date_read : (bytes : List ℕ) (v : Value) (rest : List ℕ) → AreBytes bytes → date_in bytes ≡ found v rest → IsValue 6 bytes v rest
date_read bytes v rest are e = go (signed_in (2 ^ 32) bytes) refl e where
  made : ℤ × List ℕ → Item Value
  made x = Some (value.Date x.0, x.1)

  go : (given : Item ℤ) → signed_in (2 ^ 32) bytes ≡ given → (given >>= made) ≡ found v rest → IsValue 6 bytes v rest
  go None f h = absurd (cc h)
  go (Some (z, behind)) f h =
      let read = signed_read (2 ^ 32) bytes z behind are f in
      let parts = some_parts (value.Date z) v behind rest h in
      rw (← parts.0, ← parts.1) (record { spells = ap (λ (s : List ℕ). 6 ∷ s) read.spells; holds = fits_32 z read.holds; behind = read.behind })

bytes_read : (bytes : List ℕ) (v : Value) (rest : List ℕ) → AreBytes bytes → bytes_in bytes ≡ found v rest → IsValue 5 bytes v rest
bytes_read bytes v rest are e = go (binary_in bytes) refl e where
  made : List ℕ × List ℕ → Item Value
  made x = Some (value.Bytes x.0, x.1)

  go : (given : Item (List ℕ)) → binary_in bytes ≡ given → (given >>= made) ≡ found v rest → IsValue 5 bytes v rest
  go None f h = absurd (cc h)
  go (Some (text, behind)) f h =
      let read = binary_read bytes text behind are f in
      let parts = some_parts (value.Bytes text) v behind rest h in
      rw (← parts.0, ← parts.1) (record { spells = ap (λ (s : List ℕ). 5 ∷ s) read.spells; holds = read.holds; behind = read.behind })

text_read : (bytes : List ℕ) (v : Value) (rest : List ℕ) → AreBytes bytes → text_in bytes ≡ found v rest → IsValue 4 bytes v rest
text_read bytes v rest are e = go (binary_in bytes) refl e where
  go : (given : Item (List ℕ)) → binary_in bytes ≡ given → (given >>= utf8_in) ≡ found v rest → IsValue 4 bytes v rest
  go None f h = absurd (cc h)
  go (Some (text, behind)) f h =
      elim (cases_Bool (is_utf8 text)) [
        | inr bad ↦ absurd (cc (rw bad at h))
        | inl good ↦
            let is : found (value.Text text) behind ≡ found v rest = rw good at h in
            let read = binary_read bytes text behind are f in
            let parts = some_parts (value.Text text) v behind rest is in
            rw (← parts.0, ← parts.1) (record { spells = ap (λ (s : List ℕ). 4 ∷ s) read.spells; holds = (IsUtf8-from_is_utf8 text good, read.holds); behind = read.behind })
      ]

tagged_read : (tag : ℕ) (bytes : List ℕ) (v : Value) (rest : List ℕ) → AreBytes bytes → tagged_in tag bytes ≡ found v rest → IsValue tag bytes v rest
tagged_read tag bytes v rest are e =
    elim (cases_Bool (tag == 0)) [
      | inl is ↦ rw (eqb-true tag 0 is) (plain_read 0 value.Null bytes v rest refl tt are (rw is at e))
      | inr a ↦ elim (cases_Bool (tag == 1)) [
        | inl is ↦ rw (eqb-true tag 1 is) (plain_read 1 (value.Bool false) bytes v rest refl tt are (rw (a, is) at e))
        | inr b ↦ elim (cases_Bool (tag == 2)) [
          | inl is ↦ rw (eqb-true tag 2 is) (plain_read 2 (value.Bool true) bytes v rest refl tt are (rw (a, b, is) at e))
          | inr c ↦ elim (cases_Bool (tag == 3)) [
            | inl is ↦ rw (eqb-true tag 3 is) (integer_read bytes v rest are (rw (a, b, c, is) at e))
            | inr d ↦ elim (cases_Bool (tag == 4)) [
              | inl is ↦ rw (eqb-true tag 4 is) (text_read bytes v rest are (rw (a, b, c, d, is) at e))
              | inr f ↦ elim (cases_Bool (tag == 5)) [
                | inl is ↦ rw (eqb-true tag 5 is) (bytes_read bytes v rest are (rw (a, b, c, d, f, is) at e))
                | inr g ↦ elim (cases_Bool (tag == 6)) [
                  | inl is ↦ rw (eqb-true tag 6 is) (date_read bytes v rest are (rw (a, b, c, d, f, g, is) at e))
                  | inr h ↦ absurd (cc (rw (a, b, c, d, f, g, h) at e))
                ]
              ]
            ]
          ]
        ]
      ]
    ]

value_read : Reads value_in content IsHeld
value_read [] v rest are e = absurd (cc e)
value_read (tag ∷ bytes) v rest are e = tagged_read tag bytes v rest (λ i. are (suc i)) e

-- ---- cells

-- a field past the last one
record IsField (last : Option ℕ) (field : ℕ) : Type 0 where
  pub small : field < 2 ^ 32
  pub past : is_past last field ≡ true

field_read : (last : Option ℕ) → Reads (field_in last) unsigned_spelling (IsField last)
field_read last bytes field rest are e = go (unsigned_in (2 ^ 32) bytes) refl e where
  kept : ℕ × List ℕ → Item ℕ
  kept x = if is_past last x.0 then Some x else None

  go : (given : Item ℕ) → unsigned_in (2 ^ 32) bytes ≡ given → (given >>= kept) ≡ found field rest → IsRead unsigned_spelling (IsField last) bytes field rest
  go None f h = absurd (cc h)
  go (Some (n, behind)) f h =
      elim (cases_Bool (is_past last n)) [
        | inr not ↦ absurd (cc (rw not at h))
        | inl past ↦
            let is : found n behind ≡ found field rest = rw past at h in
            let read = unsigned_read (2 ^ 32) bytes n behind are f in
            let parts = some_parts n field behind rest is in
            rw (← parts.0, ← parts.1) (record { spells = read.spells; holds = record { small = read.holds; past = past }; behind = read.behind })
      ]

pub record IsNext (last : Option ℕ) (cell : ℕ × Value) : Type 0 where
  pub past : is_past last cell.0 ≡ true
  pub is : IsCell cell

pub cell_read : (last : Option ℕ) → Reads (cell_in last) cell_spelling (IsNext last)
unfolding cell_in
cell_read last bytes cell rest are e = go (field_in last bytes) refl e where
  joined : ℕ → Value × List ℕ → Item (ℕ × Value)
  joined field y = Some ((field, y.0), y.1)

  then_value : ℕ × List ℕ → Item (ℕ × Value)
  then_value x = value_in x.1 >>= joined x.0

  more : (field : ℕ) (behind : List ℕ) → IsRead unsigned_spelling (IsField last) bytes field behind
      → (given : Item Value) → value_in behind ≡ given → (given >>= joined field) ≡ found cell rest → IsRead cell_spelling (IsNext last) bytes cell rest
  more field behind head None f h = absurd (cc h)
  more field behind head (Some (v, after)) f h =
      let read = value_read behind v after head.behind f in
      let parts = some_parts (field, v) cell after rest h in
      rw (← parts.0, ← parts.1) (record {
        spells = head.spells ∙ ap (λ (s : List ℕ). unsigned_spelling field ++ s) read.spells ∙ sym (append_assoc (unsigned_spelling field) (content v) after);
        holds = record { past = head.holds.past; is = (head.holds.small, read.holds) };
        behind = read.behind;
      })

  go : (given : Item ℕ) → field_in last bytes ≡ given → (given >>= then_value) ≡ found cell rest → IsRead cell_spelling (IsNext last) bytes cell rest
  go None f h = absurd (cc h)
  go (Some (field, behind)) f h = more field behind (field_read last bytes field behind are f) (value_in behind) refl h

pub record AreSpelled (count : ℕ) (last : Option ℕ) (bytes : List ℕ) (cells : List (ℕ × Value)) : Type 0 where
  pub spells : flat_map cell_spelling cells ≡ bytes
  pub number : length cells ≡ count
  pub are : AllByRecursion IsCell cells
  pub rises : RisesFrom last cells

ended : (end : ℕ) (last : Option ℕ) (bytes : List ℕ) (cells : List (ℕ × Value)) → at_end end bytes ≡ Ok cells → AreSpelled 0 last bytes cells
ended end last [] [] h = record { spells = refl; number = refl; are = tt; rises = tt }
ended end last [] (cell ∷ cells) h = absurd (cc h)
ended end last (b ∷ bytes) cells h = absurd (cc h)

-- the cells of an answer
abbrev cells_or : Cells → List (ℕ × Value)
cells_or (Ok cells) = cells
cells_or (Err at) = []

-- what so many cells spell, wherever they begin
abbrev ReadCells : ℕ → ℕ → Type 0
ReadCells end count = (last : Option ℕ) (bytes : List ℕ) (cells : List (ℕ × Value)) → AreBytes bytes → cells_in end count last bytes ≡ Ok cells → AreSpelled count last bytes cells

first_read : (end count : ℕ) (last : Option ℕ) (bytes : List ℕ) (cells : List (ℕ × Value)) (cell : ℕ × Value) (rest : List ℕ) → ReadCells end count
    → IsRead cell_spelling (IsNext last) bytes cell rest → (others : Cells) → cells_in end count (Some cell.0) rest ≡ others → with_cell cell others ≡ Ok cells
    → AreSpelled (suc count) last bytes cells
first_read end count last bytes cells cell rest reads read (Err at) f h = absurd (cc h)
first_read end count last bytes cells cell rest reads read (Ok others) f h =
    let whole : cell ∷ others ≡ cells = ap cells_or h in
    let spelled = reads (Some cell.0) rest others read.behind f in
    rw (← whole) (record {
      spells = rw spelled.spells (sym read.spells);
      number = rw spelled.number (omega arith);
      are = (read.holds.is, spelled.are);
      rises = (read.holds.past, spelled.rises);
    })

abbrev next_cells : ℕ → ℕ → (ℕ × Value) × List ℕ → Cells
next_cells end count x = with_cell x.0 (cells_in end count (Some x.0.0) x.1)

any_read : (end count : ℕ) (last : Option ℕ) (bytes : List ℕ) (cells : List (ℕ × Value)) → ReadCells end count → AreBytes bytes
    → (given : Item (ℕ × Value)) → cell_in last bytes ≡ given → found_or given (place end bytes) (next_cells end count) ≡ Ok cells → AreSpelled (suc count) last bytes cells
any_read end count last bytes cells reads are None f h = absurd (cc h)
any_read end count last bytes cells reads are (Some (cell, rest)) f h =
    first_read end count last bytes cells cell rest reads (cell_read last bytes cell rest are f) (cells_in end count (Some cell.0) rest) refl h

cells_read : (end count : ℕ) → ReadCells end count
unfolding cells_in
cells_read end zero last bytes cells are e = ended end last bytes cells e
cells_read end (suc count) last bytes cells are e = any_read end count last bytes cells (cells_read end count) are (cell_in last bytes) refl e

pub decoded_spells : (bytes : List ℕ) (cells : List (ℕ × Value)) → AreBytes bytes → decoded bytes ≡ Ok cells → Spells bytes cells
unfolding decoded
decoded_spells bytes cells are e = go (unsigned_in (2 ^ 64) bytes) refl e where
  next : ℕ × List ℕ → Cells
  next x = cells_in (length bytes) x.0 None x.1

  go : (given : Item ℕ) → unsigned_in (2 ^ 64) bytes ≡ given → found_or given 0 next ≡ Ok cells → Spells bytes cells
  go None f h = absurd (cc h)
  go (Some (count, rest)) f h =
      let read = unsigned_read (2 ^ 64) bytes count rest are f in
      let spelled = cells_read (length bytes) count None rest cells read.behind h in
      (rw (spelled.number, spelled.spells) (sym read.spells), (spelled.are, spelled.rises))

-- where reading stops, nothing is spelled
pub none_spelled : (bytes : List ℕ) (fault : CellsFault) → Stops fault (decoded bytes) → (fault ≢ Memory) → SpellsNone bytes
none_spelled bytes Memory stops not cells short h = absurd (not refl)
none_spelled bytes (BadCells at) stops not cells short h = absurd (cc (stops, reads_back cells bytes short h))
