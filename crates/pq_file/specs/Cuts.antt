-- Where the groups of a sheet end.
use Rattle.std.specs.Prelude.{ℕ, ◌+◌, nat_le, nat_eq, ◌||◌, if◌then◌else◌, List, [], ◌∷◌, map, get_or, Bool}
use Rattle.std.specs.List.{range_with_len, sum_by}
use Rattle.pq_file.specs.declared.cuts.TheConstants.{GROUP_ROWS, GROUP_WEIGHT}
use Rattle.lake_types.specs.Weights.{weight}
use Rattle.lake_types.specs.declared.sheet.SheetColumn.{SheetColumn}
use Rattle.lake_types.specs.declared.value.Value.TheVariants as value

-- the weight of the cells of a row, of all columns
abbrev pub row_weight : List SheetColumn → ℕ → ℕ
row_weight columns row = sum_by (λ (column : SheetColumn). weight (get_or column.cells row value.Null)) columns

abbrev pub row_weights : List SheetColumn → ℕ → List ℕ
row_weights columns rows = map (row_weight columns) (range_with_len 0 rows)

-- a group of so many rows and of this weight has its last row
abbrev pub is_full : ℕ → ℕ → Bool
is_full rows weight = nat_le GROUP_ROWS rows || nat_le GROUP_WEIGHT weight

-- How many rows each group has, of rows with these weights. Before them stand `rows` rows of the weight `weight`, whose
-- group has not ended. A group ends with the row that makes it full, or with the last row; of no rows there is none.
abbrev pub cuts_behind : ℕ → ℕ → List ℕ → List ℕ
cuts_behind rows weight [] = if nat_eq rows 0 then [] else rows ∷ []
cuts_behind rows weight (next ∷ more) =
    if is_full (rows + 1) (weight + next)
    then (rows + 1) ∷ cuts_behind 0 0 more
    else cuts_behind (rows + 1) (weight + next) more

abbrev pub cuts : List ℕ → List ℕ
cuts weights = cuts_behind 0 0 weights
