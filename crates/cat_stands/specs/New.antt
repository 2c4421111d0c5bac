-- The content of a new lake.
use Rattle.std.specs.Prelude.{ℤ, [], ◌∷◌, codes, None}
use Rattle.cat_rows.specs.Tables.{Tables, no_rows}

-- the rows of snapshot 0, which was made at this time
abbrev pub new_tables : ℤ → Tables
new_tables time = record no_rows {
  metadata = record { key = codes "layout"; value = codes "1" } ∷ [];
  snapshot = record { snapshot_id = 0; snapshot_time = time; next_catalog_id = 1; next_file_id = 0 } ∷ [];
  snapshot_changes = record { snapshot_id = 0; changes_made = codes "created_schema:\"main\"" } ∷ [];
  schema = record { schema_id = 0; begin_snapshot = 0; end_snapshot = None; schema_name = codes "main" } ∷ [];
}
