-- Variable-length numbers: seven bits a byte, the low ones first; a byte of 128 or more says that another follows.
use Rattle.std.specs.Prelude.{◌≡◌, ℕ, zero, suc, ◌+◌, ◌-◌, ◌*◌, ◌/◌, ◌%◌, ◌^◌, ◌<◌, ◌≤◌, nat_eq, nat_lt, if◌then◌else◌, List, [], ◌∷◌}
use Rattle.pq_encodings.specs.declared.varint.Varint.{Varint}
use Rattle.pq_encodings.specs.declared.varint.Varint.TheVariants as varint

-- The bytes are those of a number. It need not be the shortest form.
abbrev pub IsVarint : List ℕ → ℕ → Type 0
IsVarint [] n = ⊥
IsVarint (b ∷ []) n = (b < 128) × (n ≡ b)
IsVarint (b ∷ c ∷ bytes) n = (128 ≤ b) × (high : ℕ) × (n ≡ b - 128 + 128 * high) × IsVarint (c ∷ bytes) high

-- seven bits below the rest
abbrev pub onto_seven : ℕ → Varint → Varint
onto_seven low (varint.Is n len) =
    if nat_lt (low + 128 * n) (2 ^ 64) then varint.Is (low + 128 * n) (len + 1) else varint.Wide
onto_seven low varint.Short = varint.Short
onto_seven low varint.Wide = varint.Wide

-- the number of at most so many bytes at the front
abbrev pub varint_in : ℕ → List ℕ → Varint
varint_in most [] = if nat_eq most 0 then varint.Wide else varint.Short
varint_in most (b ∷ bytes) =
    if nat_eq most 0 then varint.Wide
    else (if nat_lt b 128 then varint.Is b 1 else onto_seven (b - 128) (varint_in (most - 1) bytes))

-- a number that was found ends inside the bytes
abbrev pub IsWithin : ℕ → ℕ → Varint → Type 0
IsWithin most size (varint.Is n len) = (len ≤ most) × (len ≤ size)
IsWithin most size varint.Short = Unit {0}
IsWithin most size varint.Wide = Unit {0}

-- the shortest form, in at most so many bytes and one more
abbrev pub varint_bytes : ℕ → ℕ → List ℕ
varint_bytes zero n = n ∷ []
varint_bytes (suc most) n = if nat_lt n 128 then n ∷ [] else (n % 128 + 128) ∷ varint_bytes most (n / 128)
