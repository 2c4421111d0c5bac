-- The least and the greatest of some values.
use Rattle.std.specs.Prelude.{◌≡◌, ◌≢◌, ℕ, nat_le, Bool, true, false, List, [], length, map, option_map, ◌⊎◌, Option, Some, None, if◌then◌else◌}
use Rattle.std.specs.List.{All, Contains, filter}
use Rattle.lake_types.specs.Cells.{cell_at}
use Rattle.lake_types.specs.Fits.{fits_some}
use Rattle.lake_types.specs.Texts.{value_text}
use Rattle.lake_types.specs.Truth.{compared, is_true}
use Rattle.lake_types.specs.declared.limits.TheConstants.{MAX_BOUND_BYTES}
use Rattle.lake_types.specs.declared.pred.Op.{Op}
use Rattle.lake_types.specs.declared.pred.Op.TheVariants as op
use Rattle.lake_types.specs.declared.truth.Truth.TheVariants.{True}
use Rattle.lake_types.specs.declared.value.Row.{Row}
use Rattle.lake_types.specs.declared.value.Value.{Value}
use Rattle.lake_types.specs.declared.value.Value.TheVariants as value
use Rattle.col_stats.specs.declared.bounds.Side.{Side}
use Rattle.col_stats.specs.declared.bounds.Side.TheVariants as side

-- ---- the cells of a field

-- a row that lacks the field has NULL there
abbrev pub value_in : Option Value → Value
value_in None = value.Null
value_in (Some v) = v

abbrev pub cell_in : ℕ → Row → Value
cell_in field row = value_in (cell_at row.cells field)

abbrev pub cells : ℕ → List Row → List Value
cells field rows = map (cell_in field) rows

abbrev pub is_value : Value → Bool
is_value value.Null = false
is_value v = true

-- the cells that are not NULL
abbrev pub values : List Value → List Value
values cells = filter is_value cells

-- ---- bounds

-- the least value is at most each, and the greatest at least each
abbrev pub op_of : Side → Op
op_of side.Least = op.Le
op_of side.Greatest = op.Ge

abbrev pub Bounds : Side → Value → Value → Type 0
Bounds s v w = compared (op_of s) (Some v) w ≡ True

-- the least, or the greatest: one of the values, which bounds each
abbrev pub IsBound : Side → List Value → Value → Type 0
IsBound s values v = Contains values v × All (Bounds s v) values

-- the catalogue keeps no longer text of a bound
abbrev pub is_short : Value → Bool
is_short v = nat_le (length (value_text v)) MAX_BOUND_BYTES

-- a bound is absent where there is no value, or where its text is too long
abbrev pub HasBound : Side → List Value → Option Value → Type 0
HasBound s values (Some v) = IsBound s values v × (is_short v ≡ true)
HasBound s values None = (values ≡ []) ⊎ ((v : Value) × IsBound s values v × (is_short v ≡ false))

-- ---- of two bounds, and of what the catalogue keeps

-- the outer one of two bounds; where one side has none the other's
abbrev pub outer : Side → Option Value → Option Value → Option Value
outer s None b = b
outer s a None = a
outer s (Some a) (Some b) = if is_true (compared (op_of s) (Some a) b) then Some a else Some b

abbrev pub outer_cell : Side → Option Value → Value → Option Value
outer_cell s bound value.Null = bound
outer_cell s bound v = outer s bound (Some v)

abbrev pub kept : Option Value → Option Value
kept None = None
kept (Some v) = if is_short v then Some v else None

-- a value that has a text in the catalogue
abbrev pub HasText : Value → Type 0
HasText v = (v ≢ value.Null) × (fits_some v ≡ true)

-- ---- a statistics row

-- the text of a bound
abbrev pub bound_text : Option Value → Option (List ℕ)
bound_text = option_map value_text

-- the text of the bound of some values: none where there is no value, or where the text is too long
abbrev pub HasBoundText : Side → List Value → Option (List ℕ) → Type 0
HasBoundText s values text = (bound : Option Value) × HasBound s values bound × (text ≡ bound_text bound)
