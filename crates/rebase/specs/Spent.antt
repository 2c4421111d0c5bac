-- The first counter that a commit would take past its last value.
use Rattle.std.specs.Prelude.{◌+◌, ℕ, List, [], ◌∷◌, length, nat_lt, Option, Some, None, if◌then◌else◌}
use Rattle.std.specs.Option.{option_or}
use Rattle.lake_types.specs.declared.limits.TheConstants.{MAX_COUNTER}
use Rattle.lake_model.specs.Apply.{Creation, table_id}
use Rattle.lake_model.specs.declared.answer.Counter.{Counter}
use Rattle.lake_model.specs.declared.answer.Counter.TheVariants as counter
use Rattle.cat_rows.specs.Tables.{Tables}
use Rattle.cat_rows.specs.declared.history.SnapshotRow.{SnapshotRow}
use Rattle.rebase.specs.Parts.{FreshFile, first_row, old_stats}

abbrev pub spent_if : Counter → ℕ → Option Counter
spent_if c n = if nat_lt MAX_COUNTER n then Some c else None

-- the first table, in the order of staging, whose next row id would pass
abbrev pub spent_rows : Tables → ℕ → List Creation → List FreshFile → Option Counter
spent_rows t next new [] = None
spent_rows t next new (x ∷ xs) = option_or (spent_if (counter.Row (table_id next new x.table)) (first_row (old_stats t x.table) + x.file.rows)) (spent_rows t next new xs)

-- catalogue ids, then rows table by table, then files, then the snapshot
abbrev pub first_spent : Tables → SnapshotRow → List Creation → List FreshFile → Option Counter
first_spent t head new files =
    option_or (spent_if counter.Catalog (head.next_catalog_id + length new))
    (option_or (spent_rows t head.next_catalog_id new files)
    (option_or (spent_if counter.File (head.next_file_id + length files)) (spent_if counter.Snapshot (head.snapshot_id + 1))))
