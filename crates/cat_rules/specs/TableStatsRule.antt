-- Rule 11, on the statistics of tables.
use Rattle.std.specs.Prelude.{◌⊎◌, ◌^◌, ◌&&◌, ◌||◌, ℕ, Bool, not, nat_lt}
use Rattle.cat_rows.specs.Batches.{holds}
use Rattle.cat_rows.specs.Tables.{Tables}
use Rattle.cat_rows.specs.declared.batch.Key.{Key}
use Rattle.cat_rows.specs.declared.batch.Key.TheVariants as key
use Rattle.cat_rows.specs.declared.schemas.TableRow.{TableRow}
use Rattle.cat_rows.specs.declared.files.TableStatsRow.{TableStatsRow}
use Rattle.cat_rules.specs.Places.{of_table_stats}
use Rattle.cat_rules.specs.Rows.{NamesIf}

-- the last value of a counter of ids, and of one of field ids
abbrev pub last_id : ℕ
last_id = 2 ^ 62

abbrev pub last_field : ℕ
last_field = 2147483647

abbrev pub stats_of : TableRow → Key
stats_of r = key.TableStats r.table_id

abbrev pub has_large_counter : TableStatsRow → Bool
has_large_counter r =
    nat_lt last_id r.record_count || (nat_lt last_id r.next_row_id || (nat_lt last_field r.next_field_id || nat_lt last_id r.file_size_bytes))

-- its table is there, and a counter is past its last value
abbrev pub are_stats_large : Tables → TableStatsRow → Bool
are_stats_large t r = holds t (key.Table r.table_id) && has_large_counter r

-- Each table has its row of statistics, with counters up to their last values. Statistics without a table may be any.
abbrev pub IsStatsBad : Tables → Key → Type 0
IsStatsBad t k = NamesIf stats_of (λ r. not (holds t (stats_of r))) t.table k ⊎ NamesIf of_table_stats (are_stats_large t) t.table_stats k
