-- What holds of rows and sheets.
use Rattle.std.specs.Prelude.{◌≡◌, ◌≢◌, ◌<◌, ℕ, List, All, AllPairs, length, map, None, Some}
use Rattle.std.specs.List.{sum_by}
use Rattle.field_map.specs.Laid.{laid}
use Rattle.lake_model.specs.Apply.{Cells, numbered}
use Rattle.lake_types.specs.Cells.{laid_cells}
use Rattle.lake_types.specs.Weights.{row_weight}
use Rattle.lake_types.specs.declared.limits.TheConstants.{MAX_FIELD}
use Rattle.lake_types.specs.declared.sheet.Sheet.{Sheet}
use Rattle.lake_types.specs.declared.value.Column.{Column}
use Rattle.sheet_rows.specs.Live.{StatedDeletes, deleted_in, laid_rows, with_each}
use Rattle.sheet_rows.specs.Sheets.{HasCells, cells_of, sheet_of, sheet_weight, sheet_with_ids}

-- what is laid of a sheet is its rows by cells, each laid into the columns
abbrev pub LaysCells : Type 0
LaysCells = (columns : List Column) (sheet : Sheet) → All (HasCells sheet.rows) sheet.columns → laid columns sheet ≡ numbered 0 (map (laid_cells columns) (cells_of sheet))

-- a sheet of rows reads as these rows, each laid into the columns
abbrev pub ReadsBack : Type 0
ReadsBack = (columns : List Column) (rows : List Cells) → cells_of (sheet_of columns rows) ≡ map (laid_cells columns) rows

-- a sheet of rows with their ids reads as these rows with these ids, laid into its own columns and then into others
abbrev pub ReadsIdsBack : Type 0
ReadsIdsBack = (own columns : List Column) (ids : List ℕ) (rows : List Cells) → length ids ≡ length rows
    → All (λ (c : Column). c.field ≢ MAX_FIELD) own → All (λ (c : Column). c.field ≢ MAX_FIELD) columns
    → laid_rows None columns (sheet_with_ids own ids rows) ≡ Some (with_each ids (map (laid_cells columns) (map (laid_cells own) rows)))

-- the weight by columns is the weight by rows
abbrev pub WeighsRows : Type 0
WeighsRows = (columns : List Column) (rows : List Cells) → All (λ (c : Column). c.field ≢ MAX_FIELD) columns
    → sheet_weight (sheet_of columns rows) ≡ sum_by row_weight (map (laid_cells columns) rows)

-- the places that a delete file lists rise, and lie below its data file's rows
abbrev pub PlacesRise : Type 0
PlacesRise = (stated : StatedDeletes) (sheet : Sheet) (places : List ℕ) → deleted_in stated sheet ≡ Some places
    → AllPairs (λ (a b : ℕ). a < b) places × All (λ (place : ℕ). place < stated.rows) places
