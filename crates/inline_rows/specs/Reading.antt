-- The cells that some bytes spell, or the place of the first item that is wrong. The items are the number of cells, each cell as a whole,
-- and bytes that remain.
use Rattle.std.specs.Prelude.{ℕ, ℤ, true, false, zero, suc, ◌+◌, ◌-◌, ◌*◌, ◌%◌, ◌^◌, ◌==◌, nat_lt, List, [], ◌∷◌, length, take, drop, Option, Some, None, Result, Ok, Err, if◌then◌else◌}
use Rattle.std.specs.Str.{is_utf8}
use Rattle.thrift_compact.specs.Spelling.{from_zigzag}
use Rattle.lake_types.specs.declared.value.Value.{Value}
use Rattle.lake_types.specs.declared.value.Value.TheVariants as value
use Rattle.inline_rows.specs.Spelling.{is_past}

-- an item and the bytes behind it, where they begin with one
abbrev pub Item : Type 0 → Type 0
Item A = Option (A × List ℕ)

infixl 10 ◌>>=◌
abbrev pub ◌>>=◌ : {A B : Type 0} → Option A → (A → Option B) → Option B
None >>= f = None
(Some x) >>= f = f x

-- a number of at most so many bytes; one that ends with a group of zeros has a shorter spelling
unfoldable pub number_in : ℕ → List ℕ → Item ℕ
number_in zero bytes = None
number_in (suc most) [] = None
number_in (suc most) (b ∷ rest) =
    if nat_lt b 128 then Some (b, rest)
    else (number_in most rest >>= λ x. if x.0 == 0 then None else Some (b % 128 + 128 * x.0, x.1))

-- a number below a limit
unfoldable pub unsigned_in : ℕ → List ℕ → Item ℕ
unsigned_in limit bytes = number_in 10 bytes >>= λ x. if nat_lt x.0 limit then Some x else None

-- a signed number of a type with so many values
abbrev pub signed_in : ℕ → List ℕ → Item ℤ
signed_in limit bytes = unsigned_in limit bytes >>= λ x. Some (from_zigzag x.0, x.1)

-- a length, and so many bytes
abbrev pub split_in : ℕ → List ℕ → Item (List ℕ)
split_in count bytes = if nat_lt (length bytes) count then None else Some (take count bytes, drop count bytes)

abbrev pub binary_in : List ℕ → Item (List ℕ)
binary_in bytes = unsigned_in (2 ^ 64) bytes >>= λ x. split_in x.0 x.1

-- ---- values by their tags

abbrev pub integer_in : List ℕ → Item Value
integer_in bytes = signed_in (2 ^ 64) bytes >>= λ x. Some (value.Int x.0, x.1)

abbrev pub utf8_in : List ℕ × List ℕ → Item Value
utf8_in x = if is_utf8 x.0 then Some (value.Text x.0, x.1) else None

abbrev pub text_in : List ℕ → Item Value
text_in bytes = binary_in bytes >>= utf8_in

abbrev pub bytes_in : List ℕ → Item Value
bytes_in bytes = binary_in bytes >>= λ x. Some (value.Bytes x.0, x.1)

abbrev pub date_in : List ℕ → Item Value
date_in bytes = signed_in (2 ^ 32) bytes >>= λ x. Some (value.Date x.0, x.1)

abbrev pub tagged_in : ℕ → List ℕ → Item Value
tagged_in tag rest =
    if tag == 0 then Some (value.Null, rest)
    else (if tag == 1 then Some (value.Bool false, rest)
    else (if tag == 2 then Some (value.Bool true, rest)
    else (if tag == 3 then integer_in rest
    else (if tag == 4 then text_in rest
    else (if tag == 5 then bytes_in rest
    else (if tag == 6 then date_in rest
    else None))))))

abbrev pub value_in : List ℕ → Item Value
value_in [] = None
value_in (tag ∷ rest) = tagged_in tag rest

-- a cell whose field is past the last one
abbrev pub field_in : Option ℕ → List ℕ → Item ℕ
field_in last bytes = unsigned_in (2 ^ 32) bytes >>= λ x. if is_past last x.0 then Some x else None

unfoldable pub cell_in : Option ℕ → List ℕ → Item (ℕ × Value)
cell_in last bytes = field_in last bytes >>= λ x. value_in x.1 >>= λ y. Some ((x.0, y.0), y.1)

-- the offset of the first of these bytes, where all bytes end at the offset `end`
abbrev pub place : ℕ → List ℕ → ℕ
place end bytes = end - length bytes

-- the cells, or the place of the first wrong item
abbrev pub Cells : Type 0
Cells = Result (List (ℕ × Value)) ℕ

abbrev pub with_cell : ℕ × Value → Cells → Cells
with_cell cell (Ok cells) = Ok (cell ∷ cells)
with_cell cell (Err at) = Err at

abbrev pub at_end : ℕ → List ℕ → Cells
at_end end [] = Ok []
at_end end (b ∷ rest) = Err (place end (b ∷ rest))

-- what is found, or the place of the item that is wrong
abbrev pub found_or : {A : Type 0} → Option A → ℕ → (A → Cells) → Cells
found_or None at next = Err at
found_or (Some x) at next = next x

-- so many cells past the last field, and then the end
unfoldable pub cells_in : ℕ → ℕ → Option ℕ → List ℕ → Cells
cells_in end zero last bytes = at_end end bytes
cells_in end (suc count) last bytes =
    found_or (cell_in last bytes) (place end bytes) (λ x. with_cell x.0 (cells_in end count (Some x.0.0) x.1))

-- the number of the cells, and the cells
unfoldable pub decoded : List ℕ → Cells
decoded bytes = found_or (unsigned_in (2 ^ 64) bytes) 0 (λ x. cells_in (length bytes) x.0 None x.1)
