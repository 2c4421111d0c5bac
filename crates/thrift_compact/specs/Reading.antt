-- What is read from the front of bytes, or the first fault that is met.
use Rattle.std.specs.Prelude.{ℕ, ℤ, pos, negsuc, zero, suc, ◌+◌, ◌-◌, ◌*◌, ◌%◌, ◌^◌, ◌+ℤ◌, int_lt, List, [], ◌∷◌, length, take, drop, Option, Some, None, Result, Ok, Err, Bool, false, nat_lt, nat_le, ◌==◌, ◌||◌, ◌&&◌, if◌then◌else◌}
use Rattle.answers.specs.Answers.{◌>>=◌}
use Rattle.thrift_compact.specs.declared.fault.ThriftFault.{ThriftFault}
use Rattle.thrift_compact.specs.declared.fault.ThriftFault.TheVariants.{Short, BadType, TooDeep, TooWide}
use Rattle.thrift_compact.specs.declared.types.TheConstants.{TRUE, FALSE, BYTE, I16, I32, I64, DOUBLE, BINARY, LIST, MAP, STRUCT}
use Rattle.thrift_compact.specs.Spelling.{from_zigzag, signed_byte, high_bits, low_bits}

-- a value and the bytes behind it, or the first fault
abbrev pub Read : Type 0 → Type 0
Read A = Result (A × List ℕ) ThriftFault

-- the bytes behind what was passed over, or the first fault
abbrev pub Rest : Type 0
Rest = Result (List ℕ) ThriftFault

abbrev pub rest_of : {A : Type 0} → Read A → Rest
rest_of (Ok x) = Ok x.1
rest_of (Err fault) = Err fault

-- the offset at which these bytes begin, where all bytes end at the offset `end`
abbrev pub start_of : ℕ → List ℕ → ℕ
start_of end bytes = end - length bytes

-- ---- numbers and byte strings, in an item that begins at the offset `at`

-- a number of at most so many bytes
unfoldable pub number_in : ℕ → ℕ → List ℕ → Read ℕ
number_in at zero bytes = Err (TooWide at)
number_in at (suc most) [] = Err (Short at)
number_in at (suc most) (b ∷ rest) =
    if nat_lt b 128 then Ok (b, rest) else (number_in at most rest >>= λ x. Ok (b % 128 + 128 * x.0, x.1))

-- a number below a limit
unfoldable pub unsigned_in : ℕ → ℕ → List ℕ → Read ℕ
unsigned_in at limit bytes = number_in at 10 bytes >>= λ x. if nat_lt x.0 limit then Ok x else Err (TooWide at)

-- a signed number, of a type with so many values
unfoldable pub signed_in : ℕ → ℕ → List ℕ → Read ℤ
signed_in at limit bytes = unsigned_in at limit bytes >>= λ x. Ok (from_zigzag x.0, x.1)

-- a number that counts something, before the bytes behind it
abbrev pub not_negative : ℕ → ℤ → List ℕ → Read ℕ
not_negative at (pos n) rest = Ok (n, rest)
not_negative at (negsuc n) rest = Err (TooWide at)

-- a number that counts something, of a signed type with so many values
unfoldable pub count_in : ℕ → ℕ → List ℕ → Read ℕ
count_in at limit bytes = signed_in at limit bytes >>= λ x. not_negative at x.0 x.1

-- a byte as a signed number
unfoldable pub byte_in : ℕ → List ℕ → Read ℤ
byte_in at [] = Err (Short at)
byte_in at (b ∷ rest) = Ok (signed_byte b, rest)

-- so many bytes
unfoldable pub bytes_in : ℕ → ℕ → List ℕ → Read (List ℕ)
bytes_in at count bytes = if nat_lt (length bytes) count then Err (Short at) else Ok (take count bytes, drop count bytes)

-- a length and so many bytes
unfoldable pub binary_in : ℕ → List ℕ → Read (List ℕ)
binary_in at bytes = do
  count ← unsigned_in at (2 ^ 32) bytes
  bytes_in at count.0 count.1

-- ---- headers, which begin at the offset `at`

abbrev pub is_type : ℕ → Bool
is_type ty = nat_lt 0 ty && nat_lt ty 13

-- the size of a list or a set whose header begins with the byte b, after its element type
abbrev pub size_in : ℕ → ℕ → List ℕ → Read (ℕ × ℕ)
size_in at b rest =
    if high_bits b == 15 then (unsigned_in at (2 ^ 32) rest >>= λ x. Ok ((low_bits b, x.0), x.1)) else
    Ok ((low_bits b, high_bits b), rest)

-- a list's or a set's element type and size
unfoldable pub list_header_in : ℕ → List ℕ → Read (ℕ × ℕ)
list_header_in at [] = Err (Short at)
list_header_in at (b ∷ rest) = if is_type (low_bits b) then size_in at b rest else Err (BadType at (low_bits b))

-- do these bytes begin with a byte that has this type in the low four bits
abbrev pub begins_list_of : ℕ → List ℕ → Bool
begins_list_of ty [] = false
begins_list_of ty (b ∷ rest) = low_bits b == ty

-- the id of the field behind the field `last` whose header begins with the byte b, with its type
abbrev pub id_in : ℕ → ℤ → ℕ → List ℕ → Read (Option (ℤ × ℕ))
id_in at last b rest =
    if high_bits b == 0 then (signed_in at (2 ^ 16) rest >>= λ x. Ok (Some (x.0, low_bits b), x.1)) else
    if int_lt (last +ℤ pos (high_bits b)) (pos 32768) then Ok (Some (last +ℤ pos (high_bits b), low_bits b), rest) else
    Err (TooWide at)

-- the id and the type of the field behind the field `last`, or none at the stop
unfoldable pub field_header_in : ℕ → ℤ → List ℕ → Read (Option (ℤ × ℕ))
field_header_in at last [] = Err (Short at)
field_header_in at last (b ∷ rest) =
    if b == 0 then Ok (None, rest) else
    if is_type (low_bits b) then id_in at last b rest else
    Err (BadType at (low_bits b))

-- the types of the keys and of the values, before so many entries
unfoldable pub entry_types_in : ℕ → ℕ → List ℕ → Read (ℕ × ℕ × ℕ)
entry_types_in at size [] = Err (Short at)
entry_types_in at size (b ∷ rest) =
    if is_type (high_bits b)
    then (if is_type (low_bits b) then Ok ((high_bits b, low_bits b, size), rest) else Err (BadType at (low_bits b)))
    else Err (BadType at (high_bits b))

-- the types of a map's keys and values, and its size; an empty map has no types
unfoldable pub map_header_in : ℕ → List ℕ → Read (ℕ × ℕ × ℕ)
map_header_in at bytes = unsigned_in at (2 ^ 32) bytes >>= λ n. if n.0 == 0 then Ok ((0, 0, 0), n.1) else entry_types_in at n.0 n.1

-- ---- values that are passed over, of bytes that end at the offset `end`

-- is it the type of a list, a set, a map or a struct
abbrev pub is_nested : ℕ → Bool
is_nested ty = nat_le LIST ty && nat_le ty STRUCT

-- a boolean's type
abbrev pub is_flag : ℕ → Bool
is_flag ty = ty == TRUE || ty == FALSE

-- a value with no other inside it, at the offset `at`; a boolean field's value is its type
unfoldable pub after_plain : ℕ → ℕ → List ℕ → Rest
after_plain at ty bytes =
    if is_flag ty then Ok bytes else
    if ty == BYTE then rest_of (bytes_in at 1 bytes) else
    if ty == I16 then rest_of (signed_in at (2 ^ 16) bytes) else
    if ty == I32 then rest_of (signed_in at (2 ^ 32) bytes) else
    if ty == I64 then rest_of (signed_in at (2 ^ 64) bytes) else
    if ty == DOUBLE then rest_of (bytes_in at 8 bytes) else
    if ty == BINARY then rest_of (binary_in at bytes) else
    Err (BadType at ty)

-- so many times the same step, one after the other
unfoldable pub after_each : (List ℕ → Rest) → ℕ → List ℕ → Rest
after_each step zero bytes = Ok bytes
after_each step (suc n) bytes = step bytes >>= after_each step n

-- an element of a list, a set or a map, given how values are passed over: a boolean takes a byte there
unfoldable pub after_element : ℕ → (ℕ → List ℕ → Rest) → ℕ → List ℕ → Rest
after_element end value ty bytes = if is_flag ty then rest_of (bytes_in (start_of end bytes) 1 bytes) else value ty bytes

-- a key and a value
unfoldable pub after_entry : ℕ → (ℕ → List ℕ → Rest) → ℕ → ℕ → List ℕ → Rest
after_entry end value key ty bytes = after_element end value key bytes >>= after_element end value ty

-- at most so many fields behind the field `last`, and the stop
unfoldable pub after_fields : ℕ → (ℕ → List ℕ → Rest) → ℕ → ℤ → List ℕ → Rest
after_fields end value zero last bytes = Err (Short (start_of end bytes))
after_fields end value (suc most) last bytes = do
  header ← field_header_in (start_of end bytes) last bytes
  elim header.0 [ None ↦ Ok header.1 | Some field ↦ value field.1 header.1 >>= after_fields end value most field.0 ]

-- A struct, a map, a list or a set. Each field takes a byte at least, so there are no more fields than bytes.
unfoldable pub after_nested : ℕ → (ℕ → List ℕ → Rest) → ℕ → List ℕ → Rest
after_nested end value ty bytes =
    if ty == STRUCT then after_fields end value (length bytes) (pos 0) bytes else
    if ty == MAP then (map_header_in (start_of end bytes) bytes >>= λ map. after_each (after_entry end value map.0.0 map.0.1) map.0.2 map.1) else
    (list_header_in (start_of end bytes) bytes >>= λ list. after_each (after_element end value list.0.0) list.0.1 list.1)

-- a value with at most so many structs, lists, sets and maps inside one another
unfoldable pub after_value : ℕ → ℕ → ℕ → List ℕ → Rest
after_value end zero ty bytes = if is_nested ty then Err (TooDeep (start_of end bytes)) else after_plain (start_of end bytes) ty bytes
after_value end (suc depth) ty bytes =
    if is_nested ty then after_nested end (after_value end depth) ty bytes else after_plain (start_of end bytes) ty bytes
