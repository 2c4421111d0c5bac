-- Plain values, one after the other, both ways.
use Rattle.std.specs.Prelude.{ℕ, ℤ, zero, suc, ◌+◌, ◌*◌, ◌/◌, ◌++◌, nat_lt, nat_eq, if◌then◌else◌, List, [], ◌∷◌, length, drop, take, map, get_or, Result, Ok, Err, Bool, false}
use Rattle.std.specs.Int.{cast_signed, cast_unsigned, w32, w64}
use Rattle.std.specs.List.{range_with_len, flat_map}
use Rattle.byteorder.specs.Endian.{little_number, little_bytes}
use Rattle.pq_encodings.specs.declared.fault.EncFault.{EncFault}
use Rattle.pq_encodings.specs.declared.fault.EncFault.TheVariants as fault
use Rattle.pq_encodings.specs.declared.strings.TheConstants.{MAX_STRING}
use Rattle.pq_encodings.specs.Bits.{bit_of, number_of_bits}

-- ---- Numbers of 4 and of 8 bytes, the low byte first

-- number k
abbrev pub i32_at : List ℕ → ℕ → ℤ
i32_at bytes k = cast_signed w32 (little_number 4 (drop (4 * k) bytes))

abbrev pub i64_at : List ℕ → ℕ → ℤ
i64_at bytes k = cast_signed w64 (little_number 8 (drop (8 * k) bytes))

-- the first count numbers
abbrev pub i32s_of : List ℕ → ℕ → List ℤ
i32s_of bytes count = map (i32_at bytes) (range_with_len 0 count)

abbrev pub i64s_of : List ℕ → ℕ → List ℤ
i64s_of bytes count = map (i64_at bytes) (range_with_len 0 count)

-- they, or the place of the first that isn't whole
abbrev pub i32s_in : List ℕ → ℕ → Result (List ℤ) EncFault
i32s_in bytes count =
    if nat_lt (length bytes / 4) count then Err (fault.Short (4 * (length bytes / 4))) else Ok (i32s_of bytes count)

abbrev pub i64s_in : List ℕ → ℕ → Result (List ℤ) EncFault
i64s_in bytes count =
    if nat_lt (length bytes / 8) count then Err (fault.Short (8 * (length bytes / 8))) else Ok (i64s_of bytes count)

abbrev pub i32_bytes : List ℤ → List ℕ
i32_bytes xs = flat_map (λ z. little_bytes 4 (cast_unsigned w32 z)) xs

abbrev pub i64_bytes : List ℤ → List ℕ
i64_bytes xs = flat_map (λ z. little_bytes 8 (cast_unsigned w64 z)) xs

-- ---- Booleans, a bit each, the low bit first

abbrev pub bool_at : List ℕ → ℕ → Bool
bool_at bytes k = nat_eq (bit_of bytes k) 1

abbrev pub bools_of : List ℕ → ℕ → List Bool
bools_of bytes count = map (bool_at bytes) (range_with_len 0 count)

-- the first that is missing would stand in the byte past the end
abbrev pub bools_in : List ℕ → ℕ → Result (List Bool) EncFault
bools_in bytes count =
    if nat_lt (8 * length bytes) count then Err (fault.Short (length bytes)) else Ok (bools_of bytes count)

-- bit k of a list of booleans; past the end it is 0
abbrev pub bool_bit : List Bool → ℕ → ℕ
bool_bit xs k = if get_or xs k false then 1 else 0

-- the byte of eight booleans from a place on
abbrev pub bool_byte : List Bool → ℕ → ℕ
bool_byte xs first = number_of_bits 8 (λ j. bool_bit xs (first + j))

-- the fewest bytes that have room; bits past the last boolean are 0
abbrev pub bool_bytes : List Bool → List ℕ
bool_bytes xs = map (λ k. bool_byte xs (8 * k)) (range_with_len 0 ((length xs + 7) / 8))

-- ---- Byte strings, each behind a length of four bytes, the low byte first

-- the byte string at a place, and where it ends
abbrev pub string_at : List ℕ → ℕ → Result (List ℕ × ℕ) EncFault
string_at bytes at =
    let size = little_number 4 (drop at bytes) in
    if nat_lt (length bytes) (at + 4) then Err (fault.Short at)
    else (if nat_lt MAX_STRING size then Err (fault.LongCell at size)
    else (if nat_lt (length bytes) (at + 4 + size) then Err (fault.Short at)
    else Ok (take size (drop (at + 4) bytes), at + 4 + size)))

abbrev pub onto : List ℕ → Result (List (List ℕ)) EncFault → Result (List (List ℕ)) EncFault
onto x (Ok xs) = Ok (x ∷ xs)
onto x (Err e) = Err e

abbrev pub then_more : Result (List ℕ × ℕ) EncFault → (ℕ → Result (List (List ℕ)) EncFault) → Result (List (List ℕ)) EncFault
then_more (Ok x) go = onto x.0 (go x.1)
then_more (Err e) go = Err e

-- so many from a place on, or the first fault
unfoldable pub strings_at : ℕ → List ℕ → ℕ → Result (List (List ℕ)) EncFault
strings_at zero bytes at = Ok []
strings_at (suc count) bytes at = then_more (string_at bytes at) (strings_at count bytes)

abbrev pub then_before : Result (List ℕ × ℕ) EncFault → (ℕ → List (List ℕ)) → List (List ℕ)
then_before (Ok x) go = x.0 ∷ go x.1
then_before (Err e) go = []

-- of so many from a place on, those before the first fault
unfoldable pub strings_before : ℕ → List ℕ → ℕ → List (List ℕ)
strings_before zero bytes at = []
strings_before (suc count) bytes at = then_before (string_at bytes at) (strings_before count bytes)

-- a byte string with its length
abbrev pub string_bytes : List ℕ → List ℕ
string_bytes x = little_bytes 4 (length x) ++ x

abbrev pub strings_bytes : List (List ℕ) → List ℕ
strings_bytes xs = flat_map string_bytes xs

-- what was read before, and what is still read
abbrev pub behind : List (List ℕ) → Result (List (List ℕ)) EncFault → Result (List (List ℕ)) EncFault
behind front (Ok xs) = Ok (front ++ xs)
behind front (Err e) = Err e
