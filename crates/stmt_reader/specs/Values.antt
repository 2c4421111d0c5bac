-- What the text of a token stands for.
use Rattle.std.specs.Prelude.{ℕ, ℤ, pos, neg_ℤ, ◌+◌, ◌-◌, ◌*◌, ◌^◌, ◌==◌, ◌&&◌, not, nat_le, nat_lt, min, Bool, true, false, List, [], ◌∷◌, fold, Option, Some, None, if◌then◌else◌}
use Rattle.lake_types.specs.declared.limits.TheConstants.{MAX_COUNTER, MAX_SESSIONS}

-- the number that digits write
abbrev pub natural : List ℕ → ℕ
natural = fold (λ n b. n * 10 + (b - 48)) 0

-- a number's sign and what is behind it
abbrev pub is_negative : List ℕ → Bool
is_negative [] = false
is_negative (b ∷ rest) = b == 45

abbrev pub magnitude : List ℕ → ℕ
magnitude [] = 0
magnitude (b ∷ rest) = if b == 45 then natural rest else natural (b ∷ rest)

-- -9223372036854775808 to 9223372036854775807
abbrev pub signed : Bool → ℕ → Option ℤ
signed false n = if nat_lt n (2 ^ 63) then Some (pos n) else None
signed true n = if nat_le n (2 ^ 63) then Some (neg_ℤ (pos n)) else None

abbrev pub integer_of : List ℕ → Option ℤ
integer_of text = signed (is_negative text) (magnitude text)

-- up to the last value of a counter; a minus before 0 is allowed
abbrev pub counted : Bool → ℕ → Option ℕ
counted false n = if nat_le n MAX_COUNTER then Some n else None
counted true n = if n == 0 then Some 0 else None

abbrev pub count_of : List ℕ → Option ℕ
count_of text = counted (is_negative text) (magnitude text)

abbrev pub numbered : Bool → ℕ → Option ℕ
numbered negative n = if not negative && nat_le 1 n && nat_le n MAX_SESSIONS then Some n else None

abbrev pub session_of : List ℕ → Option ℕ
session_of text = numbered (is_negative text) (magnitude text)

-- what a hexadecimal digit stands for, in either case
abbrev pub hex_digit : ℕ → ℕ
hex_digit b = min 15 (if nat_le 97 b then b - 87 else (if nat_le 65 b then b - 55 else b - 48))

-- two digits a byte
abbrev pub unhex : List ℕ → List ℕ
unhex [] = []
unhex (a ∷ []) = []
unhex (a ∷ b ∷ rest) = (hex_digit a * 16 + hex_digit b) ∷ unhex rest
