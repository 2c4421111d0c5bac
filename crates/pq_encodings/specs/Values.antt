-- The plain values of a column as contracts compare them, and what bytes they have.
use Rattle.std.specs.Prelude.{◌≡◌, ◌≤◌, ◌<◌, ◌+◌, ◌*◌, ◌/◌, ◌++◌, ℕ, ℤ, List, All, FitsSigned, Bool, length, Result, Ok, Err}
use Rattle.std.specs.Int.{w32, w64}
use Rattle.std.specs.List.{sum_by}
use Rattle.pq_encodings.specs.declared.fault.EncFault.{EncFault}
use Rattle.pq_encodings.specs.declared.plain.Physical.{Physical}
use Rattle.pq_encodings.specs.declared.plain.Physical.TheVariants as physical
use Rattle.pq_encodings.specs.declared.plain.Plain.{Plain}
use Rattle.pq_encodings.specs.declared.plain.Plain.TheVariants as plain
use Rattle.pq_encodings.specs.Bits.{bit_of}
use Rattle.pq_encodings.specs.declared.strings.TheConstants.{MAX_STRING}
use Rattle.pq_encodings.specs.Plain.{bool_bit, bool_bytes, bools_in, i32_bytes, i32s_in, i64_bytes, i64s_in, strings_at, strings_bytes}

-- plain values as lists
pub data Values : Type 0 where
  bools : List Bool → Values
  i32s : List ℤ → Values
  i64s : List ℤ → Values
  strings : List (List ℕ) → Values

abbrev pub values_of : Plain → Values
values_of (plain.Bools v) = bools v.items
values_of (plain.I32s v) = i32s v.items
values_of (plain.I64s v) = i64s v.items
values_of (plain.Strings lists) = strings lists

abbrev pub kind_of : Values → Physical
kind_of (bools xs) = physical.Boolean
kind_of (i32s xs) = physical.Int32
kind_of (i64s xs) = physical.Int64
kind_of (strings xs) = physical.ByteArray

abbrev pub count_of : Values → ℕ
count_of (bools xs) = length xs
count_of (i32s xs) = length xs
count_of (i64s xs) = length xs
count_of (strings xs) = length xs

-- the values of a list, or its fault
abbrev pub made : {X : Type 0} → (X → Values) → Result X EncFault → Result Values EncFault
made f (Ok x) = Ok (f x)
made f (Err e) = Err e

-- count values of a kind at the front of the bytes, or the first fault
abbrev pub values_in : Physical → ℕ → List ℕ → Result Values EncFault
values_in physical.Boolean count bytes = made bools (bools_in bytes count)
values_in physical.Int32 count bytes = made i32s (i32s_in bytes count)
values_in physical.Int64 count bytes = made i64s (i64s_in bytes count)
values_in physical.ByteArray count bytes = made strings (strings_at count bytes 0)

-- the bytes of the values
abbrev pub value_bytes : Values → List ℕ
value_bytes (bools xs) = bool_bytes xs
value_bytes (i32s xs) = i32_bytes xs
value_bytes (i64s xs) = i64_bytes xs
value_bytes (strings xs) = strings_bytes xs

-- how many bytes that is
abbrev pub plain_size : Values → ℕ
plain_size (bools xs) = (length xs + 7) / 8
plain_size (i32s xs) = 4 * length xs
plain_size (i64s xs) = 8 * length xs
plain_size (strings xs) = sum_by (λ x. 4 + length x) xs

-- no byte string is too long
abbrev pub AreShort : Values → Type 0
AreShort (bools xs) = Unit {0}
AreShort (i32s xs) = Unit {0}
AreShort (i64s xs) = Unit {0}
AreShort (strings xs) = All (λ x. length x ≤ MAX_STRING) xs

-- Each number is one of its type. A contract sees an i32 or an i64 as an integer of any size.
abbrev pub AreInRange : Values → Type 0
AreInRange (bools xs) = Unit {0}
AreInRange (i32s xs) = All (λ z. FitsSigned w32 z) xs
AreInRange (i64s xs) = All (λ z. FitsSigned w64 z) xs
AreInRange (strings xs) = Unit {0}

-- the booleans are the bits of the bytes, the low bit of a byte first
pub record HoldsBits (xs : List Bool) (bytes : List ℕ) : Type 0 where
  pub within : length xs ≤ 8 * length bytes
  pub bits : (k : ℕ) → k < length xs → bit_of bytes k ≡ bool_bit xs k

-- The bytes begin with these values. Bytes may follow, and bits behind the last boolean.
abbrev pub BeginsWith : Values → List ℕ → Type 0
BeginsWith (bools xs) bytes = HoldsBits xs bytes
BeginsWith (i32s xs) bytes = (rest : List ℕ) × (bytes ≡ i32_bytes xs ++ rest)
BeginsWith (i64s xs) bytes = (rest : List ℕ) × (bytes ≡ i64_bytes xs ++ rest)
BeginsWith (strings xs) bytes = (rest : List ℕ) × (bytes ≡ strings_bytes xs ++ rest)

-- the values are read of the bytes
abbrev pub IsReadAgain : Values → List ℕ → Type 0
IsReadAgain vs bytes = values_in (kind_of vs) (count_of vs) bytes ≡ Ok vs
