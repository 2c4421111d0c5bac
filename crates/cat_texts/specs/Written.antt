-- The rows that are written for a column and for statistics.
use Rattle.std.specs.Prelude.{ℕ, List, Option, Some, None, IfSome}
use Rattle.cat_rows.specs.declared.files.FileColumnStatsRow.{FileColumnStatsRow}
use Rattle.cat_rows.specs.declared.schemas.ColumnRow.{ColumnRow}
use Rattle.col_stats.specs.Bounds.{bound_text}
use Rattle.col_stats.specs.Stats.{Fits}
use Rattle.col_stats.specs.declared.stats.ColStats.{ColStats}
use Rattle.lake_types.specs.Texts.{value_text}
use Rattle.lake_types.specs.declared.value.ColType.{ColType}
use Rattle.lake_types.specs.declared.value.Column.{Column}
use Rattle.lake_types.specs.declared.value.Value.{Value}
use Rattle.lake_types.specs.declared.value.Value.TheVariants as value
use Rattle.cat_texts.specs.Spelled.{IsStatsOf}
use Rattle.cat_texts.specs.Types.{type_text}

-- the text of a default
abbrev pub default_text : Value → Option (List ℕ)
default_text value.Null = None
default_text v = Some (value_text v)

-- the row of a column that a table has from a snapshot on
abbrev pub column_row : ℕ → ℕ → ℕ → Column → ColumnRow
column_row table begin order c = record {
  table_id = table;
  column_id = c.field;
  begin_snapshot = begin;
  end_snapshot = None;
  column_order = order;
  column_name = c.name;
  column_type = type_text c.ty;
  initial_default = default_text c.initial;
  default_value = default_text c.default_value;
  nulls_allowed = c.nulls;
}

-- the row of a column's statistics in a file
abbrev pub stats_row : ℕ → ColStats → FileColumnStatsRow
stats_row file s = record {
  data_file_id = file;
  column_id = s.field;
  null_count = s.nulls;
  min_value = bound_text s.min;
  max_value = bound_text s.max;
}

-- both defaults fit the column's type
pub record FitDefaults (c : Column) : Type 0 where
  pub initial : Fits c.ty c.initial
  pub default_value : Fits c.ty c.default_value

-- each bound that is there fits the type
pub record FitBounds (type : ColType) (s : ColStats) : Type 0 where
  pub min : IfSome s.min (Fits type)
  pub max : IfSome s.max (Fits type)

-- the row tells the statistics of a column of each type that the bounds fit
abbrev pub TellsBack : FileColumnStatsRow → ColStats → Type 0
TellsBack row s = (type : ColType) → FitBounds type s → IsStatsOf type s.rows row s
