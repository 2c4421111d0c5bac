-- Rule 10, on rows that lie in the catalogue itself.
use Rattle.std.specs.Prelude.{◌≡◌, ◌⊎◌, ◌≤◌, ◌&&◌, ℕ, Bool, true, false, not, List, [], ◌∷◌, Option, Some, None, ◌==◌, count_by}
use Rattle.cat_rows.specs.Seen.{Seen}
use Rattle.cat_rules.specs.EachKept.{AtKept, SeesTable}
use Rattle.std.specs.Option.{option_map}
use Rattle.cat_tables.specs.Table.{has_key, key_cmp}
use Rattle.cat_rows.specs.Tables.{Tables}
use Rattle.cat_rows.specs.declared.batch.Key.{Key}
use Rattle.cat_rows.specs.declared.inlined.InlinedRow.{InlinedRow}
use Rattle.cat_rows.specs.declared.schemas.ColumnRow.{ColumnRow}
use Rattle.lake_types.specs.Fits.{fits}
use Rattle.lake_types.specs.declared.value.ColType.{ColType}
use Rattle.lake_types.specs.declared.value.Value.{Value}
use Rattle.inline_rows.specs.Allowed.{SpellsAllowed}
use Rattle.inline_rows.specs.Laws.{Spells}
use Rattle.cat_rules.specs.Lookups.{HasRow, column_of, stats_of_table}
use Rattle.cat_rules.specs.Places.{of_inlined}
use Rattle.cat_texts.specs.Types.{type_of}
use Rattle.cat_rules.specs.Rows.{Names, SomeOf}
use Rattle.std.specs.Ordering.{is_lt}
use Rattle.cat_rows.specs.Keys.{inlined_row_key}

-- the next field id of the row's table, where it has statistics
abbrev pub next_field : Tables → InlinedRow → Option ℕ
next_field t r = option_map (λ s. s.next_field_id) (stats_of_table t r.table_id)

-- the bytes aren't the spelling of cells that are small, each and together, with field ids below the next one
abbrev pub HasUnreadableCells : Tables → InlinedRow → Type 0
HasUnreadableCells t r = SpellsAllowed (next_field t r) r.cells → ⊥

abbrev pub HasWrongRowId : Tables → InlinedRow → Type 0
HasWrongRowId t r = HasRow (stats_of_table t r.table_id) (λ s. s.next_row_id ≤ r.row_id)

abbrev pub refused_by : Value → Option ColType → Bool
refused_by v None = false
refused_by v (Some t) = not (fits v t)

-- the column is of a known type that the value doesn't fit
abbrev pub refuses : Value → ColumnRow → Bool
refuses v c = refused_by v (type_of c.column_type)

-- the column is that of the cell, and refuses the value
abbrev pub IsMisfitIn : InlinedRow → ℕ × Value → ColumnRow → Type 0
IsMisfitIn r cell c = (has_key column_of (r.table_id ∷ cell.0 ∷ []) c ≡ true) × (refuses cell.1 c ≡ true)

-- a column that is seen with the row can't hold its cell
abbrev pub HasMisfit : Seen → InlinedRow → Type 0
HasMisfit seen r = (cells : List (ℕ × Value)) × Spells r.cells cells × SomeOf (λ cell. SomeOf (IsMisfitIn r cell) seen.column) cells

-- A row that is seen with its table has cells that can be read, small ones, with field ids below the table's next one, and its
-- id is below the table's next row id; and each cell fits its column.
abbrev pub IsInlinedBad : Tables → Seen → Key → Type 0
IsInlinedBad t seen =
    Names of_inlined (λ r. SeesTable seen r.table_id × (HasUnreadableCells t r ⊎ (HasWrongRowId t r ⊎ HasMisfit seen r))) seen.inlined_row

-- an earlier row of the same table with the same begin
abbrev pub shares_begin : InlinedRow → InlinedRow → Bool
shares_begin r q = is_lt (key_cmp (inlined_row_key q) (inlined_row_key r)) && ((q.table_id == r.table_id) && (q.begin_snapshot == r.begin_snapshot))

-- its table is seen, and 1,000 earlier rows of the table with its begin
abbrev pub IsPastThousand : Seen → Key → Type 0
IsPastThousand seen = Names of_inlined (λ r. SeesTable seen r.table_id × (1000 ≤ count_by (shares_begin r) seen.inlined_row)) seen.inlined_row

-- At each kept snapshot the rows that it sees with their table are right by themselves, and at most 1,000 of a table share a
-- begin.
abbrev pub AreInlinedBad : Tables → Key → Type 0
AreInlinedBad t = AtKept (λ seen k. IsInlinedBad t seen k ⊎ IsPastThousand seen k) t
