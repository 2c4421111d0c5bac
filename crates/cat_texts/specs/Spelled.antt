-- What the texts in the catalogue's rows say.
use Rattle.std.specs.Prelude.{◌≡◌, ◌<◌, ◌^◌, ℕ, List, Option, Some, None}
use Rattle.cat_rows.specs.declared.files.FileColumnStatsRow.{FileColumnStatsRow}
use Rattle.cat_rows.specs.declared.schemas.ColumnRow.{ColumnRow}
use Rattle.col_stats.specs.declared.stats.ColStats.{ColStats}
use Rattle.lake_types.specs.Texts.{HasText}
use Rattle.lake_types.specs.declared.value.ColType.{ColType}
use Rattle.lake_types.specs.declared.value.Column.{Column}
use Rattle.lake_types.specs.declared.value.Value.{Value}
use Rattle.lake_types.specs.declared.value.Value.TheVariants as value
use Rattle.cat_texts.specs.Types.{type_text}

-- NULL is kept as no text
abbrev pub IsValueOf : ColType → Option (List ℕ) → Value → Type 0
IsValueOf t None v = v ≡ value.Null
IsValueOf t (Some text) v = HasText t v text

-- a column row spells a column
pub record IsColumnOf (row : ColumnRow) (column : Column) : Type 0 where
  pub field : column.field ≡ row.column_id
  pub name : column.name ≡ row.column_name
  pub ty : type_text column.ty ≡ row.column_type
  pub initial : IsValueOf column.ty row.initial_default column.initial
  pub default_value : IsValueOf column.ty row.default_value column.default_value
  pub nulls : column.nulls ≡ row.nulls_allowed

-- it spells no column whose field id has 32 bits
abbrev pub SpellsNone : ColumnRow → Type 0
SpellsNone row = (column : Column) → IsColumnOf row column → column.field < 2 ^ 32 → ⊥

-- no bound is kept as no text
abbrev pub IsBoundOf : ColType → Option (List ℕ) → Option Value → Type 0
IsBoundOf t None bound = bound ≡ None
IsBoundOf t (Some text) None = ⊥
IsBoundOf t (Some text) (Some v) = HasText t v text

-- a statistics row tells the statistics of a column of this type over so many rows
pub record IsStatsOf (type : ColType) (count : ℕ) (row : FileColumnStatsRow) (stats : ColStats) : Type 0 where
  pub field : stats.field ≡ row.column_id
  pub rows : stats.rows ≡ count
  pub nulls : stats.nulls ≡ row.null_count
  pub min : IsBoundOf type row.min_value stats.min
  pub max : IsBoundOf type row.max_value stats.max

-- it tells no statistics of such a column whose field id has 32 bits
abbrev pub TellsNone : ColType → ℕ → FileColumnStatsRow → Type 0
TellsNone type count row = (stats : ColStats) → IsStatsOf type count row stats → stats.field < 2 ^ 32 → ⊥
