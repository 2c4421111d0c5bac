-- The live rows of a data file: laid into columns, with their ids, without the places that a delete file lists.
use Rattle.std.specs.Prelude.{◌+◌, ◌==◌, ◌&&◌, nat_le, nat_lt, ℕ, Bool, true, false, List, [], ◌∷◌, map, Option, Some, None, option_and_then, option_map, is_none, is_some, if◌then◌else◌, pos}
use Rattle.std.specs.List.{filter_map, list_all, list_any, slice_get}
use Rattle.std.specs.Str.{bytes_eq}
use Rattle.lake_types.specs.Cells.{laid_cells}
use Rattle.lake_types.specs.Fits.{reach}
use Rattle.lake_types.specs.declared.limits.TheConstants.{MAX_FIELD}
use Rattle.lake_types.specs.declared.sheet.Sheet.{Sheet}
use Rattle.lake_types.specs.declared.sheet.SheetColumn.{SheetColumn}
use Rattle.lake_types.specs.declared.value.ColType.{ColType}
use Rattle.lake_types.specs.declared.value.Column.{Column}
use Rattle.lake_types.specs.declared.value.Row.{Row}
use Rattle.lake_types.specs.declared.value.Value.{Value}
use Rattle.lake_types.specs.declared.value.Value.TheVariants as value
use Rattle.lake_model.specs.Apply.{Cells, numbered}
use Rattle.field_map.specs.Laid.{column_of, first_fault}
use Rattle.sheet_rows.specs.Sheets.{cells_of, sheet_weight}
use Rattle.sheet_rows.specs.declared.live.Stated.{Stated}

-- ---- row ids

-- a number that is neither NULL nor negative
abbrev pub number_in : Value → Option ℕ
number_in (value.Int (pos n)) = Some n
number_in v = None

abbrev pub is_integer : ColType → Bool
is_integer t = is_some (reach t)

abbrev pub with_id : ℕ → Cells → Row
with_id id cells = record { id = id; cells = cells }

-- rows with the ids that stand in a column from a place on; none where one is missing
abbrev pub with_ids : List Value → ℕ → List Cells → Option (List Row)
with_ids ids place [] = Some []
with_ids ids place (cells ∷ rows) =
    option_and_then (λ id. option_map (λ more. with_id id cells ∷ more) (with_ids ids (place + 1) rows))
    (option_and_then number_in (slice_get ids place))

-- rows with these ids, place by place
abbrev pub with_each : List ℕ → List Cells → List Row
with_each [] rows = []
with_each (id ∷ ids) [] = []
with_each (id ∷ ids) (cells ∷ rows) = with_id id cells ∷ with_each ids rows

abbrev pub by_column : Option SheetColumn → List Cells → Option (List Row)
by_column None rows = None
by_column (Some c) rows = if is_integer c.ty then with_ids c.cells 0 rows else None

-- the rows of a sheet, laid into columns: their ids count from a start, or stand in the column of row ids
abbrev pub laid_rows : Option ℕ → List Column → Sheet → Option (List Row)
laid_rows (Some first) columns sheet = Some (numbered first (map (laid_cells columns) (cells_of sheet)))
laid_rows None columns sheet = by_column (column_of sheet.columns MAX_FIELD) (map (laid_cells columns) (cells_of sheet))

-- ---- deleted places

-- those whose places, counted from one number on, are not among these
abbrev pub left_from : {X : Type 0} → ℕ → List ℕ → List X → List X
left_from place gone [] = []
left_from place gone (x ∷ xs) =
    if list_any (λ n. n == place) gone then left_from (place + 1) gone xs else x ∷ left_from (place + 1) gone xs

-- whether a number is the first of these
abbrev pub begins : List ℕ → ℕ → Bool
begins [] place = false
begins (n ∷ ns) place = n == place

-- the fields of a delete file: the data file's path, and places in it
abbrev pub path_field : ℕ
path_field = 1

abbrev pub place_field : ℕ
place_field = 2

-- the numbers that stand in a column
abbrev pub numbers_of : Option SheetColumn → List ℕ
numbers_of None = []
numbers_of (Some c) = filter_map number_in c.cells

-- the places that a delete file lists
abbrev pub places_in : Sheet → List ℕ
places_in sheet = numbers_of (column_of sheet.columns place_field)

-- ---- what the catalogue says of files, and when a file is so

abbrev pub is_as_stated : Stated → List Column → Sheet → Bool
is_as_stated stated columns sheet =
    (sheet.rows == stated.rows) && ((sheet_weight sheet == stated.weight) && is_none (first_fault sheet.columns columns))

-- the rows, where the sheet is as the catalogue says and can be laid; else the file is damaged
abbrev pub live_of : Stated → List Column → Sheet → Option (List Row)
live_of stated columns sheet = if is_as_stated stated columns sheet then laid_rows stated.first_row columns sheet else None

-- of a delete file: the path of its data file, how many rows that has, and how many places are listed
pub record StatedDeletes : Type 0 where
  pub path : List ℕ
  pub rows : ℕ
  pub count : ℕ

abbrev pub is_text : List ℕ → Value → Bool
is_text path (value.Text text) = bytes_eq text path
is_text path v = false

-- numbers that rise, each at least the first and below the last
abbrev pub rise_within : ℕ → ℕ → List ℕ → Bool
rise_within least limit [] = true
rise_within least limit (n ∷ ns) = nat_le least n && (nat_lt n limit && rise_within (n + 1) limit ns)

abbrev pub names_only : List ℕ → Option SheetColumn → Bool
names_only path None = false
names_only path (Some c) = list_all (is_text path) c.cells

abbrev pub are_numbers : Option SheetColumn → Bool
are_numbers None = false
are_numbers (Some c) = list_all (λ v. is_some (number_in v)) c.cells

-- it has a row for each place, each naming the data file; the places rise below the data file's rows
abbrev pub is_delete_sheet : StatedDeletes → Sheet → Bool
is_delete_sheet stated sheet =
    (sheet.rows == stated.count)
    && (names_only stated.path (column_of sheet.columns path_field)
    && (are_numbers (column_of sheet.columns place_field) && rise_within 0 stated.rows (places_in sheet)))

-- the numbers of a column that has no other cells, where they rise below a limit
abbrev pub places_below : ℕ → Option SheetColumn → Option (List ℕ)
places_below limit column = if are_numbers column && rise_within 0 limit (numbers_of column) then Some (numbers_of column) else None

-- the places, where the delete file is so; else it is damaged
abbrev pub deleted_in : StatedDeletes → Sheet → Option (List ℕ)
deleted_in stated sheet = if is_delete_sheet stated sheet then Some (places_in sheet) else None
