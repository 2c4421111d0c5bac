-- The compact protocol: which bytes spell which item. Nothing here says how items are read or written.
use Rattle.std.specs.Prelude.{◌≡◌, ◌≢◌, ℕ, ℤ, pos, negsuc, zero, suc, ◌+◌, ◌-◌, ◌*◌, ◌/◌, ◌%◌, ◌^◌, ◌<◌, ◌≤◌, ◌+ℤ◌, ◌<ℤ◌, ◌⊎◌, List, [], ◌∷◌, ◌++◌, length, Option, Some, None, nat_lt, ◌==◌, if◌then◌else◌}

-- ---- numbers

-- Seven bits a byte, the low ones first, in at most so many bytes. A byte from 128 on says that more follow.
abbrev pub IsNumber : ℕ → List ℕ → ℕ → Type 0
IsNumber zero bytes n = ⊥
IsNumber (suc most) [] n = ⊥
IsNumber (suc most) (b ∷ bs) n =
    ((b < 128) × (bs ≡ []) × (n ≡ b)) ⊎ ((128 ≤ b) × (high : ℕ) × (n ≡ b % 128 + 128 * high) × IsNumber most bs high)

-- a number below a limit, in at most ten bytes; it need not be the shortest spelling
abbrev pub IsUnsigned : ℕ → List ℕ → ℕ → Type 0
IsUnsigned limit bytes n = IsNumber 10 bytes n × (n < limit)

-- zigzag: 0, 1, 2, 3 stand for 0, -1, 1, -2
abbrev pub from_zigzag : ℕ → ℤ
from_zigzag n = if n % 2 == 0 then pos (n / 2) else negsuc (n / 2)

-- a signed number, of a type with so many values
abbrev pub IsSigned : ℕ → List ℕ → ℤ → Type 0
IsSigned limit bytes z = (n : ℕ) × (from_zigzag n ≡ z) × IsUnsigned limit bytes n

-- a byte as a signed number, in two's complement
abbrev pub signed_byte : ℕ → ℤ
signed_byte b = if nat_lt b 128 then pos b else negsuc (255 - b)

abbrev pub IsByte : List ℕ → ℤ → Type 0
IsByte [] z = ⊥
IsByte (b ∷ bs) z = (bs ≡ []) × (signed_byte b ≡ z)

-- ---- byte strings

-- one item, and then one that may depend on it
abbrev pub Then : {A B : Type 0} → (List ℕ → A → Type 0) → (A → List ℕ → B → Type 0) → List ℕ → B → Type 0
Then {A} S T bytes y = (x : A) × (a : List ℕ) × (b : List ℕ) × (bytes ≡ a ++ b) × S a x × T x b y

-- so many bytes as they stand
abbrev pub IsBytes : ℕ → List ℕ → List ℕ → Type 0
IsBytes count bytes text = (bytes ≡ text) × (length text ≡ count)

-- a length, and then so many bytes
abbrev pub IsBinary : List ℕ → List ℕ → Type 0
IsBinary = Then (IsUnsigned (2 ^ 32)) IsBytes

-- ---- headers

-- the high and the low four bits of a byte
abbrev pub high_bits : ℕ → ℕ
high_bits b = b / 16 % 16

abbrev pub low_bits : ℕ → ℕ
low_bits b = b % 16

-- the types of values
abbrev pub IsType : ℕ → Type 0
IsType ty = (0 < ty) × (ty < 13)

-- A list's or a set's element type and size. The size is in the high four bits, or these are 15 and it follows as a number.
abbrev pub IsListHeader : List ℕ → ℕ × ℕ → Type 0
IsListHeader [] header = ⊥
IsListHeader (b ∷ bs) header =
    (header.0 ≡ low_bits b) × IsType (low_bits b)
    × (((high_bits b ≡ 15) × IsUnsigned (2 ^ 32) bs header.1) ⊎ ((high_bits b ≢ 15) × (header.1 ≡ high_bits b) × (bs ≡ [])))

-- a byte with the types of a map's keys and values
abbrev pub IsEntryTypes : List ℕ → ℕ × ℕ → Type 0
IsEntryTypes [] types = ⊥
IsEntryTypes (b ∷ bs) types = (bs ≡ []) × (types.0 ≡ high_bits b) × (types.1 ≡ low_bits b) × IsType (high_bits b) × IsType (low_bits b)

-- The id and the type of the field that follows the field `last`. The step from there, 1 to 15, is in the high four bits, or
-- these are 0 and the id follows as a number. An id has 16 bits.
abbrev pub IsField : ℤ → List ℕ → ℤ × ℕ → Type 0
IsField last [] field = ⊥
IsField last (b ∷ bs) field =
    (field.1 ≡ low_bits b) × IsType (low_bits b)
    × (((high_bits b ≡ 0) × IsSigned (2 ^ 16) bs field.0)
    ⊎ ((high_bits b ≢ 0) × (bs ≡ []) × (field.0 ≡ last +ℤ pos (high_bits b)) × ((last +ℤ pos (high_bits b)) <ℤ pos 32768)))

-- a field's header, or a struct's stop, which is a zero byte
abbrev pub IsFieldHeader : ℤ → List ℕ → Option (ℤ × ℕ) → Type 0
IsFieldHeader last bytes None = bytes ≡ 0 ∷ []
IsFieldHeader last bytes (Some field) = IsField last bytes field
