-- Rule 12, on the counters of the newest snapshot.
use Rattle.std.specs.Prelude.{◌≡◌, ◌⊎◌, ◌||◌, ℕ, Bool, true, Some, nat_le, nat_lt}
use Rattle.cat_rows.specs.Tables.{Tables}
use Rattle.cat_rows.specs.declared.batch.Key.{Key}
use Rattle.cat_rows.specs.declared.history.SnapshotRow.{SnapshotRow}
use Rattle.cat_rules.specs.Places.{of_snapshot, of_schema, of_table, of_column, of_data_file, of_delete_file, of_column_stats, of_table_stats, of_inlined}
use Rattle.cat_rules.specs.Rows.{NamesIf}
use Rattle.cat_rules.specs.Kept.{newest}
use Rattle.cat_rules.specs.TableStatsRule.{last_id}

abbrev pub has_large_id : SnapshotRow → Bool
has_large_id n = nat_lt last_id n.next_catalog_id || nat_lt last_id n.next_file_id

-- the counter isn't past this id
abbrev pub is_not_past : ℕ → ℕ → Bool
is_not_past counter id = nat_le counter id

-- a counter is too large by itself
abbrev pub IsTooLarge : SnapshotRow → Key → Type 0
IsTooLarge n k = (has_large_id n ≡ true) × (of_snapshot n ≡ k)

-- Both counters of the newest snapshot are past each id of their sort, in any row, and at most the last value.
abbrev pub IsPastCounters : Tables → SnapshotRow → Key → Type 0
IsPastCounters t n k =
    IsTooLarge n k
    ⊎ (NamesIf of_schema (λ r. is_not_past n.next_catalog_id r.schema_id) t.schema k
    ⊎ (NamesIf of_table (λ r. is_not_past n.next_catalog_id r.table_id || is_not_past n.next_catalog_id r.schema_id) t.table k
    ⊎ (NamesIf of_column (λ r. is_not_past n.next_catalog_id r.table_id) t.column k
    ⊎ (NamesIf of_data_file (λ r. is_not_past n.next_file_id r.data_file_id || is_not_past n.next_catalog_id r.table_id) t.data_file k
    ⊎ (NamesIf of_delete_file (λ r. is_not_past n.next_file_id r.delete_file_id || (is_not_past n.next_file_id r.data_file_id || is_not_past n.next_catalog_id r.table_id)) t.delete_file k
    ⊎ (NamesIf of_column_stats (λ r. is_not_past n.next_file_id r.data_file_id) t.file_column_stats k
    ⊎ (NamesIf of_table_stats (λ r. is_not_past n.next_catalog_id r.table_id) t.table_stats k
    ⊎ NamesIf of_inlined (λ r. is_not_past n.next_catalog_id r.table_id) t.inlined_row k)))))))

abbrev pub IsIdBad : Tables → Key → Type 0
IsIdBad t k = (n : SnapshotRow) × (newest t.snapshot ≡ Some n) × IsPastCounters t n k
