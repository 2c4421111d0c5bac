-- The smallest commit that makes a table: one column, and a data file of two rows, on a catalogue with one schema.
use Rattle.std.specs.Prelude.{◌≡◌, ◌≤◌, ℕ, ℤ, true, false, List, [], ◌∷◌, Some, None, codes, length}
use Rattle.cat_rows.specs.Parts.{ArePartsOf, Endings, Parts}
use Rattle.cat_rows.specs.Tables.{Tables, no_rows}
use Rattle.cat_rows.specs.declared.history.SnapshotRow.{SnapshotRow}
use Rattle.cat_rules.specs.HistoryRule.{IsRead}
use Rattle.cat_texts.specs.Types.{type_of}
use Rattle.lake_types.specs.declared.value.ColType.{ColType}
use Rattle.commit_rules.specs.Lawful.{IsHead, IsLawful}

abbrev pub old_head : ℤ → SnapshotRow
old_head time = record { snapshot_id = 0; snapshot_time = time; next_catalog_id = 1; next_file_id = 0 }

abbrev pub one_schema : ℤ → Tables
one_schema time = record no_rows {
  metadata = record { key = codes "layout"; value = codes "1" } ∷ [];
  snapshot = old_head time ∷ [];
  snapshot_changes = record { snapshot_id = 0; changes_made = codes "created_schema:\"main\"" } ∷ [];
  schema = record { schema_id = 0; begin_snapshot = 0; end_snapshot = None; schema_name = codes "main" } ∷ [];
}

-- what may be chosen: when, the changes text, the column's name and type, and the file's path
pub record Choices : Type 0 where
  pub time : ℤ
  pub text : List ℕ
  pub name : List ℕ
  pub type : List ℕ
  pub path : List ℕ

abbrev pub one_table : Choices → Parts
one_table c = record {
  snapshot = record { snapshot_id = 1; snapshot_time = c.time; next_catalog_id = 2; next_file_id = 1 };
  changes = record { snapshot_id = 1; changes_made = c.text };
  schema = [];
  table = record { table_id = 1; begin_snapshot = 1; end_snapshot = None; schema_id = 0; table_name = codes "t" } ∷ [];
  column =
      record {
        table_id = 1;
        column_id = 1;
        begin_snapshot = 1;
        end_snapshot = None;
        column_order = 0;
        column_name = c.name;
        column_type = c.type;
        initial_default = None;
        default_value = None;
        nulls_allowed = true;
      }
      ∷ [];
  data_file =
      record {
        data_file_id = 0;
        begin_snapshot = 1;
        end_snapshot = None;
        table_id = 1;
        path = c.path;
        record_count = 2;
        file_size_bytes = 400;
        row_id_start = Some 0;
        weight = 34;
      }
      ∷ [];
  delete_file = [];
  file_column_stats = record { data_file_id = 0; column_id = 1; null_count = 2; min_value = None; max_value = None } ∷ [];
  table_stats = record { table_id = 1; record_count = 2; next_row_id = 2; next_field_id = 2; file_size_bytes = 400 } ∷ [];
  inlined_row = [];
  old_stats = [];
  ended_schema = [];
  ended_table = [];
  ended_column = [];
  ended_data_file = [];
  ended_delete_file = [];
  ended_inlined_row = [];
}

abbrev pub nothing_ends : Endings
nothing_ends = record {
  schema = λ r. false;
  table = λ r. false;
  column = λ r. false;
  data_file = λ r. false;
  delete_file = λ r. false;
  inlined_row = λ r. false;
}

-- what a law about commits asks, but that no rule was broken
pub record Fits (t : Tables) (head : SnapshotRow) (p : Parts) (endings : Endings) : Type 0 where
  pub is_head : IsHead t head
  pub parts : ArePartsOf t head.snapshot_id p endings
  pub lawful : IsLawful t head p endings

-- where the text is read, the type is known, and the name and the path are short, this commit is lawful
abbrev pub OneTableFits : Type 0
OneTableFits =
    (time : ℤ) (c : Choices) (kind : ColType) → IsRead [] c.text → type_of c.type ≡ Some kind → length c.name ≤ 255 → length c.path ≤ 200
    → Fits (one_schema time) (old_head time) (one_table c) nothing_ends
