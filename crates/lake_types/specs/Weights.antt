-- How much values and rows weigh, which bounds what a transaction may insert.
use Rattle.std.specs.Prelude.{ℕ, ◌+◌, List, length, sum_by}
use Rattle.lake_types.specs.declared.value.Value.{Value}
use Rattle.lake_types.specs.declared.value.Value.TheVariants as value

abbrev pub weight : Value → ℕ
weight value.Null = 1
weight (value.Bool b) = 1
weight (value.Int n) = 8
weight (value.Text text) = 4 + length text
weight (value.Bytes bytes) = 4 + length bytes
weight (value.Date days) = 4

abbrev pub cell_weight : ℕ × Value → ℕ
cell_weight cell = weight cell.1

-- a row weighs 16 plus its cells
abbrev pub row_weight : List (ℕ × Value) → ℕ
row_weight cells = 16 + sum_by cell_weight cells
