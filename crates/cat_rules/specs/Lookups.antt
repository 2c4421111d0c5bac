-- Rows that another row refers to.
use Rattle.std.specs.Prelude.{ℕ, List, [], ◌∷◌, Option, Some, None, filter, ◌≤◌}
use Rattle.cat_tables.specs.Table.{has_key, row_of}
use Rattle.cat_rows.specs.Keys.{data_file_key, table_stats_key, table_key}
use Rattle.cat_rows.specs.Tables.{Tables}
use Rattle.cat_rows.specs.declared.files.DataFileRow.{DataFileRow}
use Rattle.cat_rows.specs.declared.files.TableStatsRow.{TableStatsRow}
use Rattle.cat_rows.specs.declared.schemas.ColumnRow.{ColumnRow}
use Rattle.cat_rows.specs.declared.schemas.TableRow.{TableRow}

-- there is such a row, and this is so of it
abbrev pub HasRow : {R : Type 0} → Option R → (R → Type 0) → Type 0
HasRow None P = ⊥
HasRow (Some r) P = P r

abbrev pub last : {R : Type 0} → List R → Option R
last [] = None
last (r ∷ []) = Some r
last (r ∷ q ∷ rs) = last (q ∷ rs)

abbrev pub table_of : Tables → ℕ → Option TableRow
table_of t id = row_of table_key (id ∷ []) t.table

abbrev pub file_of : Tables → ℕ → Option DataFileRow
file_of t id = row_of data_file_key (id ∷ []) t.data_file

abbrev pub stats_of_table : Tables → ℕ → Option TableStatsRow
stats_of_table t id = row_of table_stats_key (id ∷ []) t.table_stats

-- a column is known by its table and its field id
abbrev pub column_of : ColumnRow → List ℕ
column_of c = c.table_id ∷ c.column_id ∷ []

-- The column's row with the greatest begin: rows of a column rise by their begin, so it is the last one.
abbrev pub newest_row : ℕ → ℕ → List ColumnRow → Option ColumnRow
newest_row table column rows = last (filter (has_key column_of (table ∷ column ∷ [])) rows)

-- the table's next field id, where it has statistics, isn't past this one
abbrev pub IsFieldPast : Tables → ℕ → ℕ → Type 0
IsFieldPast t table field = HasRow (stats_of_table t table) (λ s. s.next_field_id ≤ field)
