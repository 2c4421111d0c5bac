-- The statistics of tables that are taken away and added.
use Rattle.std.specs.Prelude.{◌<◌, ◌+◌, ◌^◌, ℕ, min, List, map, IfSome}
use Rattle.lake_types.specs.declared.limits.TheConstants.{MAX_COUNTER}
use Rattle.lake_model.specs.Apply.{Draft, table_id}
use Rattle.lake_model.specs.declared.change.Ref.{Ref}
use Rattle.cat_rows.specs.Tables.{Tables}
use Rattle.cat_rows.specs.declared.batch.CatRow.{CatRow}
use Rattle.cat_rows.specs.declared.batch.CatRow.TheVariants as row
use Rattle.cat_rows.specs.declared.batch.Key.{Key}
use Rattle.cat_rows.specs.declared.batch.Key.TheVariants as key
use Rattle.cat_rows.specs.declared.files.TableStatsRow.{TableStatsRow}
use Rattle.cat_view.specs.Staged.{NamedStagedFile, NamedStagedTable, staged_for}
use Rattle.rebase.specs.Made.{creations_of}
use Rattle.rebase.specs.Parts as parts
use Rattle.rebase.specs.Parts.{FreshFile, bytes_in, rows_in}
use Rattle.rebase.specs.declared.made.Place.{Place}

-- both counts of rows have 64 bits with those of the file
pub record HasRoom (r : TableStatsRow) (f : NamedStagedFile) : Type 0 where
  pub records : r.record_count + f.rows < 2 ^ 64
  pub next_row : r.next_row_id + f.rows < 2 ^ 64

abbrev pub FitsIn : Tables → FreshFile → Type 0
FitsIn t x = IfSome (parts.old_stats t x.table) (λ (r : TableStatsRow). HasRoom r x.file)

abbrev pub stats_keys : List TableStatsRow → List Key
stats_keys rows = map (λ (r : TableStatsRow). key.TableStats r.table_id) rows

abbrev pub stats_adds : List TableStatsRow → List CatRow
stats_adds rows = map (λ r. row.TableStats r) rows

-- a created table with this next field id
abbrev pub made_row : Place → List NamedStagedTable → Ref → ℕ → TableStatsRow
made_row p staged at next_field = record {
  table_id = table_id p.next (creations_of p.made.now) at;
  record_count = rows_in (staged_for staged at).fresh;
  next_row_id = rows_in (staged_for staged at).fresh;
  next_field_id = next_field;
  file_size_bytes = min MAX_COUNTER (bytes_in (staged_for staged at).fresh);
}

abbrev pub made_adds : Place → List NamedStagedTable → List Draft → List CatRow
made_adds p staged ds = map (λ (d : Draft). row.TableStats (parts.made_stats p.next (creations_of p.made.now) staged d)) ds
