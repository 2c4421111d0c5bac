-- Which cells a row of a table may hold: those that are small, together too, and whose fields are known.
use Rattle.std.specs.List.{AllByRecursion}
use Rattle.std.specs.Prelude.{ℕ, ◌<◌, ◌≤◌, length, sum_by, List, Option, Some, None}
use Rattle.lake_types.specs.Weights.{cell_weight}
use Rattle.lake_types.specs.declared.limits.TheConstants.{MAX_CELL_BYTES, MAX_ROW_WEIGHT}
use Rattle.lake_types.specs.declared.value.Value.{Value}
use Rattle.lake_types.specs.declared.value.Value.TheVariants as value
use Rattle.inline_rows.specs.Laws.{Spells}

-- a text or a byte string has at most so many bytes
abbrev pub IsSmall : Value → Type 0
IsSmall (value.Text text) = length text ≤ MAX_CELL_BYTES
IsSmall (value.Bytes bytes) = length bytes ≤ MAX_CELL_BYTES
IsSmall v = Unit {0}

-- the field is below the next one, where that is known
abbrev pub IsKnown : Option ℕ → ℕ → Type 0
IsKnown None field = Unit {0}
IsKnown (Some next) field = field < next

abbrev pub IsAllowed : Option ℕ → ℕ × Value → Type 0
IsAllowed next cell = IsSmall cell.1 × IsKnown next cell.0

-- cells that are allowed one by one, and don't weigh too much together
abbrev pub AreAllowed : Option ℕ → List (ℕ × Value) → Type 0
AreAllowed next cells = AllByRecursion (IsAllowed next) cells × (sum_by cell_weight cells ≤ MAX_ROW_WEIGHT)

-- the bytes spell such cells
abbrev pub SpellsAllowed : Option ℕ → List ℕ → Type 0
SpellsAllowed next bytes = (cells : List (ℕ × Value)) × Spells bytes cells × AreAllowed next cells
