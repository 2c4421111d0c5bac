-- The tests of what a row may hold.
use Rattle.std.specs.Prelude.{ℕ, Bool, true, ◌&&◌, nat_le, nat_lt, length, sum_by, List, Option, Some, None}
use Rattle.std.specs.List.{list_all}
use Rattle.lake_types.specs.Weights.{cell_weight}
use Rattle.lake_types.specs.declared.limits.TheConstants.{MAX_CELL_BYTES, MAX_ROW_WEIGHT}
use Rattle.lake_types.specs.declared.value.Value.{Value}
use Rattle.lake_types.specs.declared.value.Value.TheVariants as value

abbrev pub is_small : Value → Bool
is_small (value.Text text) = nat_le (length text) MAX_CELL_BYTES
is_small (value.Bytes bytes) = nat_le (length bytes) MAX_CELL_BYTES
is_small v = true

abbrev pub is_known : Option ℕ → ℕ → Bool
is_known None field = true
is_known (Some next) field = nat_lt field next

abbrev pub is_allowed : Option ℕ → ℕ × Value → Bool
is_allowed next cell = is_small cell.1 && is_known next cell.0

abbrev pub are_light : List (ℕ × Value) → Bool
are_light cells = nat_le (sum_by cell_weight cells) MAX_ROW_WEIGHT

abbrev pub are_allowed : Option ℕ → List (ℕ × Value) → Bool
are_allowed next cells = list_all (is_allowed next) cells && are_light cells
