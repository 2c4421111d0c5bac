-- The batch of a commit, by parts: what a list and the files that were staged for it make of a catalogue's rows.
use Rattle.std.specs.Prelude.{◌+◌, ◌&&◌, ℕ, ℤ, Bool, min, List, [], ◌∷◌, ◌++◌, filter, length, map, Option, Some, None, is_none, option_map}
use Rattle.std.specs.List.{filter_map, flat_map}
use Rattle.lake_types.specs.declared.limits.TheConstants.{MAX_COUNTER}
use Rattle.lake_types.specs.declared.value.Column.{Column}
use Rattle.lake_model.specs.Apply.{Creation, Draft, SchemaDraft, schema_id, table_id}
use Rattle.lake_model.specs.Creations.{creations, made_schemas}
use Rattle.lake_model.specs.Growth.{made_tables}
use Rattle.lake_model.specs.Kinds.{drops_schema, drops_table}
use Rattle.lake_model.specs.declared.change.Change.{Change}
use Rattle.lake_model.specs.declared.change.Ref.{Ref}
use Rattle.lake_model.specs.declared.change.Ref.TheVariants as ref
use Rattle.cat_tables.specs.Validity.{Validity}
use Rattle.cat_texts.specs.Written.{column_row, stats_row}
use Rattle.cat_rows.specs.Parts.{Parts}
use Rattle.cat_rows.specs.Tables.{Tables}
use Rattle.cat_rows.specs.Validities as validities
use Rattle.cat_rows.specs.declared.files.DataFileRow.{DataFileRow}
use Rattle.cat_rows.specs.declared.files.DeleteFileRow.{DeleteFileRow}
use Rattle.cat_rows.specs.declared.files.FileColumnStatsRow.{FileColumnStatsRow}
use Rattle.cat_rows.specs.declared.files.TableStatsRow.{TableStatsRow}
use Rattle.cat_rows.specs.declared.history.SnapshotRow.{SnapshotRow}
use Rattle.cat_rows.specs.declared.inlined.InlinedRow.{InlinedRow}
use Rattle.cat_rows.specs.declared.schemas.ColumnRow.{ColumnRow}
use Rattle.cat_rows.specs.declared.schemas.SchemaRow.{SchemaRow}
use Rattle.cat_rows.specs.declared.schemas.TableRow.{TableRow}
use Rattle.cat_view.specs.Sight as sight
use Rattle.cat_view.specs.Staged.{NamedStagedFile, NamedStagedTable, staged_for}

-- ---- what is created: it begins at a snapshot, with catalogue ids from the next one on

abbrev pub schema_row : ℕ → ℕ → List Creation → SchemaDraft → SchemaRow
schema_row begin next new d = record { schema_id = schema_id next new d.at; begin_snapshot = begin; end_snapshot = None; schema_name = d.name }

abbrev pub table_row : ℕ → ℕ → List Creation → Draft → TableRow
table_row begin next new d = record {
  table_id = table_id next new d.at;
  begin_snapshot = begin;
  end_snapshot = None;
  schema_id = schema_id next new d.schema;
  table_name = d.name;
}

-- columns in their order, the first of which has this place
abbrev pub column_rows_from : ℕ → ℕ → ℕ → List Column → List ColumnRow
column_rows_from table begin order [] = []
column_rows_from table begin order (c ∷ columns) = column_row table begin order c ∷ column_rows_from table begin (order + 1) columns

abbrev pub columns_of : ℕ → ℕ → List Creation → Draft → List ColumnRow
columns_of begin next new d = column_rows_from (table_id next new d.at) begin 0 d.columns

-- ---- new data files

-- a file of a table's fresh rows
pub record FreshFile : Type 0 where
  pub table : Ref
  pub file : NamedStagedFile

abbrev pub fresh_file : NamedStagedTable → Option FreshFile
fresh_file s = option_map (λ (f : NamedStagedFile). record { table = s.table; file = f }) s.fresh

abbrev pub fresh_files : List NamedStagedTable → List FreshFile
fresh_files staged = filter_map fresh_file staged

-- the statistics of an old table; a created one has none yet
abbrev pub old_stats : Tables → Ref → Option TableStatsRow
old_stats t (ref.Old id) = sight.stats_row t id
old_stats t (ref.New place) = None

-- the id of the first of a table's fresh rows
abbrev pub first_row : Option TableStatsRow → ℕ
first_row None = 0
first_row (Some r) = r.next_row_id

abbrev pub file_row : Tables → ℕ → ℕ → List Creation → ℕ → FreshFile → DataFileRow
file_row t begin next new id x = record {
  data_file_id = id;
  begin_snapshot = begin;
  end_snapshot = None;
  table_id = table_id next new x.table;
  path = x.file.name;
  record_count = x.file.rows;
  file_size_bytes = x.file.size;
  row_id_start = Some (first_row (old_stats t x.table));
  weight = x.file.weight;
}

-- with ids that count up
abbrev pub file_rows_from : Tables → ℕ → ℕ → List Creation → ℕ → List FreshFile → List DataFileRow
file_rows_from t begin next new id [] = []
file_rows_from t begin next new id (x ∷ xs) = file_row t begin next new id x ∷ file_rows_from t begin next new (id + 1) xs

abbrev pub stats_rows_from : ℕ → List FreshFile → List FileColumnStatsRow
stats_rows_from id [] = []
stats_rows_from id (x ∷ xs) = map (stats_row id) x.file.stats ++ stats_rows_from (id + 1) xs

-- ---- statistics of tables

-- with the rows and the bytes of one more file
abbrev pub restated : NamedStagedFile → TableStatsRow → TableStatsRow
restated f r = record r {
  record_count = r.record_count + f.rows;
  next_row_id = r.next_row_id + f.rows;
  file_size_bytes = min MAX_COUNTER (r.file_size_bytes + f.size);
}

abbrev pub old_stats_of : Tables → List FreshFile → List TableStatsRow
old_stats_of t xs = filter_map (λ (x : FreshFile). old_stats t x.table) xs

abbrev pub restated_of : Tables → List FreshFile → List TableStatsRow
restated_of t xs = filter_map (λ (x : FreshFile). option_map (restated x.file) (old_stats t x.table)) xs

-- those of a created table with its file, if it has one
abbrev pub rows_in : Option NamedStagedFile → ℕ
rows_in None = 0
rows_in (Some f) = f.rows

abbrev pub bytes_in : Option NamedStagedFile → ℕ
bytes_in None = 0
bytes_in (Some f) = f.size

abbrev pub made_stats : ℕ → List Creation → List NamedStagedTable → Draft → TableStatsRow
made_stats next new staged d =
    let file = (staged_for staged d.at).fresh in
    record {
      table_id = table_id next new d.at;
      record_count = rows_in file;
      next_row_id = rows_in file;
      next_field_id = d.next_field;
      file_size_bytes = min MAX_COUNTER (bytes_in file);
    }

-- ---- what ends

-- the rows without an end of things that go
abbrev pub going : {R : Type 0} → Validity R → (R → Bool) → List R → List R
going v goes rows = filter (λ r. is_none (v.end r) && goes r) rows

-- ---- the parts

abbrev pub parts_of : Tables → SnapshotRow → ℤ → List ℕ → List Change → List NamedStagedTable → Parts
parts_of t newest time text own staged =
    let begin = newest.snapshot_id + 1 in
    let next = newest.next_catalog_id in
    let new = creations 0 0 own in
    let files = fresh_files staged in
    record {
      snapshot = record { snapshot_id = begin; snapshot_time = time; next_catalog_id = next + length new; next_file_id = newest.next_file_id + length files };
      changes = record { snapshot_id = begin; changes_made = text };
      schema = map (schema_row begin next new) (made_schemas 0 own);
      table = map (table_row begin next new) (made_tables 0 own);
      column = flat_map (columns_of begin next new) (made_tables 0 own);
      data_file = file_rows_from t begin next new newest.next_file_id files;
      delete_file = [];
      file_column_stats = stats_rows_from newest.next_file_id files;
      table_stats = restated_of t files ++ map (made_stats next new staged) (made_tables 0 own);
      inlined_row = [];
      old_stats = old_stats_of t files;
      ended_schema = going validities.schema_validity (λ (r : SchemaRow). drops_schema own (ref.Old r.schema_id)) t.schema;
      ended_table = going validities.table_validity (λ (r : TableRow). drops_table own (ref.Old r.table_id)) t.table;
      ended_column = going validities.column_validity (λ (r : ColumnRow). drops_table own (ref.Old r.table_id)) t.column;
      ended_data_file = going validities.data_file_validity (λ (r : DataFileRow). drops_table own (ref.Old r.table_id)) t.data_file;
      ended_delete_file = going validities.delete_file_validity (λ (r : DeleteFileRow). drops_table own (ref.Old r.table_id)) t.delete_file;
      ended_inlined_row = going validities.inlined_row_validity (λ (r : InlinedRow). drops_table own (ref.Old r.table_id)) t.inlined_row;
    }
