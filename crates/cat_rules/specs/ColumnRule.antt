-- Rule 6, on columns: those of a table together, and each by itself.
use Rattle.std.specs.Prelude.{◌≡◌, ◌≢◌, ◌⊎◌, ◌≤◌, ◌<◌, ℕ, false, List, [], ◌∷◌, Option, Some, None, length, Bool, true, ◌==◌, ◌&&◌, count_by}
use Rattle.cat_rows.specs.Seen.{Seen}
use Rattle.cat_rules.specs.EachKept.{AtKept, SeesTable}
use Rattle.cat_tables.specs.Table.{row_of, key_cmp}
use Rattle.cat_rows.specs.Keys.{column_key}
use Rattle.cat_rows.specs.Tables.{Tables}
use Rattle.cat_rows.specs.declared.batch.Key.{Key}
use Rattle.cat_rows.specs.declared.schemas.ColumnRow.{ColumnRow}
use Rattle.lake_types.specs.Texts.{HasText}
use Rattle.lake_types.specs.declared.value.ColType.{ColType}
use Rattle.lake_types.specs.declared.value.Value.{Value}
use Rattle.lake_types.specs.declared.value.Value.TheVariants as value
use Rattle.cat_rules.specs.Lookups.{IsFieldPast, HasRow, table_of}
use Rattle.cat_rules.specs.Kept.{kept_of}
use Rattle.cat_rules.specs.Places.{of_column, of_table}
use Rattle.cat_texts.specs.Types.{type_of}
use Rattle.cat_rules.specs.Rows.{Names, SomeOf}
use Rattle.std.specs.List.{AllByRecursion}
use Rattle.std.specs.Ordering.{is_lt}
use Rattle.cat_rows.specs.declared.schemas.TableRow.{TableRow}

-- an earlier column of the same table
abbrev pub is_earlier : ColumnRow → ColumnRow → Bool
is_earlier c q = is_lt (key_cmp (column_key q) (column_key c)) && (q.table_id == c.table_id)

-- its table is seen, and 100 earlier columns of the table
abbrev pub IsPastHundred : Seen → ColumnRow → Type 0
IsPastHundred seen c = SeesTable seen c.table_id × (100 ≤ count_by (is_earlier c) seen.column)

-- its table is seen, and an earlier column of the table that is alike
abbrev pub IsAlikeEarlier : (ColumnRow → ColumnRow → Type 0) → Seen → ColumnRow → Type 0
IsAlikeEarlier Alike seen c = SeesTable seen c.table_id × SomeOf (λ q. (is_earlier c q ≡ true) × Alike q c) seen.column

abbrev pub HaveOneOrder : ColumnRow → ColumnRow → Type 0
HaveOneOrder q c = q.column_order ≡ c.column_order

abbrev pub HaveOneColumnName : ColumnRow → ColumnRow → Type 0
HaveOneColumnName q c = q.column_name ≡ c.column_name

-- A table has at most 100 columns, with different orders and names.
abbrev pub IsCrowdedColumn : Seen → Key → Type 0
IsCrowdedColumn seen k =
    Names of_column (IsPastHundred seen) seen.column k
    ⊎ (Names of_column (IsAlikeEarlier HaveOneOrder seen) seen.column k ⊎ Names of_column (IsAlikeEarlier HaveOneColumnName seen) seen.column k)

-- none of these columns is of the table
abbrev pub HasNoColumn : List ColumnRow → TableRow → Type 0
HasNoColumn columns r = AllByRecursion (λ c. c.table_id ≢ r.table_id) columns

abbrev pub IsColumnless : Seen → Key → Type 0
IsColumnless seen = Names of_table (HasNoColumn seen.column) seen.table

-- a text or a byte string has at most so many bytes
abbrev pub IsShort : Value → Type 0
IsShort (value.Text text) = length text ≤ 1048576
IsShort (value.Bytes bytes) = length bytes ≤ 1048576
IsShort v = Unit {0}

-- a default is absent for NULL, or it is the text of a short value of the type
abbrev pub IsDefault : List ℕ → Option (List ℕ) → Type 0
IsDefault type None = Unit {0}
IsDefault type (Some text) = (t : ColType) × (type_of type ≡ Some t) × ((value : Value) × HasText t value text × IsShort value)

-- the column has a row that begins at this snapshot
abbrev pub BeginsAt : Tables → ColumnRow → ℕ → Type 0
BeginsAt t c s = HasRow (row_of column_key (c.table_id ∷ c.column_id ∷ s ∷ []) t.column) (λ q. Unit {0})

-- A column that can't be NULL has an initial default that isn't NULL, unless the table was made with it. Of a table that
-- begins before the first kept snapshot this can't be told.
abbrev pub LacksInitial : Tables → ColumnRow → Type 0
LacksInitial t c =
    (c.nulls_allowed ≡ false) × ((c.initial_default ≡ None)
    × HasRow (table_of t c.table_id) (λ r. ((kept_of t.snapshot).first ≤ r.begin_snapshot) × (BeginsAt t c r.begin_snapshot → ⊥)))

abbrev pub HasWrongDefault : ColumnRow → Type 0
HasWrongDefault c = (IsDefault c.column_type c.initial_default → ⊥) ⊎ (IsDefault c.column_type c.default_value → ⊥)

abbrev pub HasWrongId : Tables → ColumnRow → Type 0
HasWrongId t c = (c.column_id ≡ 0) ⊎ IsFieldPast t c.table_id c.column_id

abbrev pub IsColumnWrong : Tables → ColumnRow → Type 0
IsColumnWrong t c =
    (255 < length c.column_name) ⊎ ((type_of c.column_type ≡ None) ⊎ (HasWrongDefault c ⊎ (LacksInitial t c ⊎ HasWrongId t c)))

-- A column that is seen with its table has a name of at most 255 bytes, a known type and defaults of it; it has an initial
-- default if it needs one; and its field id is from 1 to below the table's next one.
abbrev pub IsColumnBad : Tables → Seen → Key → Type 0
IsColumnBad t seen = Names of_column (λ c. SeesTable seen c.table_id × IsColumnWrong t c) seen.column

-- At each kept snapshot a table that it sees has 1 to 100 columns, with different orders and names, each right by itself.
abbrev pub AreColumnsBad : Tables → Key → Type 0
AreColumnsBad t = AtKept (λ seen k. IsColumnless seen k ⊎ (IsCrowdedColumn seen k ⊎ IsColumnBad t seen k)) t
