-- Rule 9, on the statistics of columns.
use Rattle.std.specs.Prelude.{◌⊎◌, ◌<◌, ℕ}
use Rattle.cat_rows.specs.Tables.{Tables}
use Rattle.cat_rows.specs.declared.batch.Key.{Key}
use Rattle.cat_rows.specs.declared.files.FileColumnStatsRow.{FileColumnStatsRow}
use Rattle.cat_rules.specs.Lookups.{HasRow, file_of, newest_row, IsFieldPast}
use Rattle.cat_rules.specs.Places.{of_column_stats}
use Rattle.cat_rules.specs.Readable.{IsUnreadable}
use Rattle.cat_rules.specs.Rows.{Names}

-- the column has a row, and a bound isn't that of a value of the newest one's type
abbrev pub HasUnreadableBound : Tables → ℕ → FileColumnStatsRow → Type 0
HasUnreadableBound t table r =
    HasRow (newest_row table r.column_id t.column) (λ c. IsUnreadable c.column_type r.min_value ⊎ IsUnreadable c.column_type r.max_value)

abbrev pub AreStatsWrong : Tables → FileColumnStatsRow → Type 0
AreStatsWrong t r =
    HasRow (file_of t r.data_file_id) (λ f. IsFieldPast t f.table_id r.column_id ⊎ ((f.record_count < r.null_count) ⊎ HasUnreadableBound t f.table_id r))

-- Statistics of a file that is there: the column's id is below the next field id of the file's table, bounds are texts of
-- values of the column's type, and NULLs are at most the rows.
abbrev pub IsColumnStatsBad : Tables → Key → Type 0
IsColumnStatsBad t = Names of_column_stats (AreStatsWrong t) t.file_column_stats
