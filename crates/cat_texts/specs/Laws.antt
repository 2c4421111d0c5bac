-- What holds of the catalogue's texts.
use Rattle.std.specs.Prelude.{◌≡◌, ℕ, List, Some, All, IfSome}
use Rattle.cat_rows.specs.declared.files.FileColumnStatsRow.{FileColumnStatsRow}
use Rattle.cat_rows.specs.declared.schemas.ColumnRow.{ColumnRow}
use Rattle.col_stats.specs.Bounds.{values}
use Rattle.col_stats.specs.Stats.{AreStats}
use Rattle.col_stats.specs.declared.stats.ColStats.{ColStats}
use Rattle.lake_types.specs.Texts.{HasText, value_text}
use Rattle.lake_types.specs.declared.value.ColType.{ColType}
use Rattle.lake_types.specs.declared.value.Column.{Column}
use Rattle.lake_types.specs.declared.value.Value.{Value}
use Rattle.cat_texts.specs.Spelled.{IsColumnOf, IsStatsOf}
use Rattle.cat_texts.specs.Types.{type_of, type_text}
use Rattle.cat_texts.specs.Written.{stats_row}

-- ---- types

-- the text of a type is read as that type
abbrev pub ReadsType : Type 0
ReadsType = (t : ColType) → type_of (type_text t) ≡ Some t

-- a text that is read as a type is its text
abbrev pub HasTypeText : Type 0
HasTypeText = (t : ColType) (text : List ℕ) → type_of text ≡ Some t → type_text t ≡ text

-- two types have two texts
abbrev pub HaveOwnTexts : Type 0
HaveOwnTexts = (a b : ColType) → type_text a ≡ type_text b → a ≡ b

-- ---- rows

-- a row spells one column at most
abbrev pub SpellsOneColumn : Type 0
SpellsOneColumn = (row : ColumnRow) (a b : Column) → IsColumnOf row a → IsColumnOf row b → a ≡ b

-- a row tells one column's statistics at most
abbrev pub TellsOneStats : Type 0
TellsOneStats = (ty : ColType) (rows : ℕ) (row : FileColumnStatsRow) (a b : ColStats) → IsStatsOf ty rows row a → IsStatsOf ty rows row b → a ≡ b

-- a value of the type that has a text
abbrev pub CanBeText : ColType → Value → Type 0
CanBeText ty v = HasText ty v (value_text v)

-- each bound that is there has a text in the type
pub record HaveTexts (type : ColType) (stats : ColStats) : Type 0 where
  pub min : IfSome stats.min (CanBeText type)
  pub max : IfSome stats.max (CanBeText type)

-- the row that is written for statistics tells them
abbrev pub ReadsStatsBack : Type 0
ReadsStatsBack = (ty : ColType) (file : ℕ) (stats : ColStats) → HaveTexts ty stats → IsStatsOf ty stats.rows (stats_row file stats) stats

-- the bounds of cells have texts where the cells have
abbrev pub BoundsHaveTexts : Type 0
BoundsHaveTexts = (ty : ColType) (cells : List Value) (stats : ColStats) → All (CanBeText ty) (values cells) → AreStats cells stats → HaveTexts ty stats
