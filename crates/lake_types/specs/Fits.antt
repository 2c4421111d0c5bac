-- Which values a column of a type may hold.
use Rattle.std.specs.Prelude.{ℕ, ℤ, pos, neg_ℤ, Bool, true, false, ◌&&◌, int_le, int_lt, nat_lt, Option, Some, None}
use Rattle.lake_types.specs.declared.value.ColType.{ColType}
use Rattle.lake_types.specs.declared.value.ColType.TheVariants as ty
use Rattle.lake_types.specs.declared.value.Value.{Value}
use Rattle.lake_types.specs.declared.value.Value.TheVariants as value
use Rattle.lake_types.specs.Calendar.{is_day}

-- the integer types are the signed ones of so many bits; these are two to the bits less one
abbrev pub reach : ColType → Option ℕ
reach ty.Int8 = Some 128
reach ty.Int16 = Some 32768
reach ty.Int32 = Some 2147483648
reach ty.Int64 = Some 9223372036854775808
reach t = None

-- a signed number with this reach lies from its negative to one below it
abbrev pub reaches : Option ℕ → ℤ → Bool
reaches None n = false
reaches (Some limit) n = int_le (neg_ℤ (pos limit)) n && int_lt n (pos limit)

-- NULL fits every type
abbrev pub fits : Value → ColType → Bool
fits value.Null t = true
fits (value.Bool b) ty.Bool = true
fits (value.Int n) t = reaches (reach t) n
fits (value.Text text) ty.Varchar = true
fits (value.Bytes bytes) ty.Blob = true
fits (value.Date day) ty.Date = is_day day
fits v t = false

-- what fits some type: all but days outside the calendar
abbrev pub fits_some : Value → Bool
fits_some (value.Date day) = is_day day
fits_some v = true

abbrev pub is_shorter : Option ℕ → Option ℕ → Bool
is_shorter (Some a) (Some b) = nat_lt a b
is_shorter a b = false

-- a smaller signed integer type promotes to a larger one, and nothing else promotes
abbrev pub promotes : ColType → ColType → Bool
promotes from to = is_shorter (reach from) (reach to)
