-- The twelve rules of a sane catalogue in their order, and what is told where one is broken.
use Rattle.std.specs.Prelude.{◌⊎◌, ℕ, Option, Some, None}
use Rattle.cat_rows.specs.Tables.{Tables}
use Rattle.cat_rows.specs.declared.batch.Key.{Key}
use Rattle.cat_rules.specs.ColumnStatsRule.{IsColumnStatsBad}
use Rattle.cat_rules.specs.CounterRule.{IsIdBad}
use Rattle.cat_rules.specs.TableStatsRule.{IsStatsBad}
use Rattle.cat_rules.specs.First.{FirstBad, Holds}
use Rattle.cat_rules.specs.LayoutRule.{IsLayoutBad}
use Rattle.cat_rules.specs.HistoryRule.{IsHistoryBad}
use Rattle.cat_rules.specs.IntervalRule.{IsIntervalBad}
use Rattle.cat_rules.specs.Named.{Tells}
use Rattle.cat_rules.specs.declared.bad_row.BadRow.{BadRow}
use Rattle.cat_rules.specs.ColumnRule.{AreColumnsBad}
use Rattle.cat_rules.specs.InlinedRule.{AreInlinedBad}
use Rattle.cat_rules.specs.SchemaRule.{IsSchemaNameBad}
use Rattle.cat_rules.specs.DeleteFileRule.{IsDeleteFileBad}
use Rattle.cat_rules.specs.TableRule.{IsTableBad}
use Rattle.cat_rules.specs.DataFileRule.{IsDataFileBad}

-- the rule of this number is broken, and its first bad row is told
abbrev pub Breaks : BadRow → ℕ → (Key → Type 0) → Type 0
Breaks b rule Bad = (k : Key) × FirstBad Bad (Some k) × Tells b rule k

-- The rule of this number is broken, and its first bad row is told; or it holds, and this is what the later ones tell.
abbrev pub Then : ℕ → (Key → Type 0) → (Option BadRow → Type 0) → Option BadRow → Type 0
Then rule Bad Later None = Holds Bad × Later None
Then rule Bad Later (Some b) = Breaks b rule Bad ⊎ (Holds Bad × Later (Some b))

abbrev pub NoRuleLeft : Option BadRow → Type 0
NoRuleLeft None = Unit {0}
NoRuleLeft (Some b) = ⊥

abbrev pub FromIds : Tables → Option BadRow → Type 0
FromIds t = Then 12 (IsIdBad t) NoRuleLeft

abbrev pub FromStats : Tables → Option BadRow → Type 0
FromStats t = Then 11 (IsStatsBad t) (FromIds t)

abbrev pub FromInlined : Tables → Option BadRow → Type 0
FromInlined t = Then 10 (AreInlinedBad t) (FromStats t)

abbrev pub FromColumnStats : Tables → Option BadRow → Type 0
FromColumnStats t = Then 9 (IsColumnStatsBad t) (FromInlined t)

abbrev pub FromDeleteFiles : Tables → Option BadRow → Type 0
FromDeleteFiles t = Then 8 (IsDeleteFileBad t) (FromColumnStats t)

abbrev pub FromDataFiles : Tables → Option BadRow → Type 0
FromDataFiles t = Then 7 (IsDataFileBad t) (FromDeleteFiles t)

abbrev pub FromColumns : Tables → Option BadRow → Type 0
FromColumns t = Then 6 (AreColumnsBad t) (FromDataFiles t)

abbrev pub FromTables : Tables → Option BadRow → Type 0
FromTables t = Then 5 (IsTableBad t) (FromColumns t)

abbrev pub FromSchemas : Tables → Option BadRow → Type 0
FromSchemas t = Then 4 (IsSchemaNameBad t) (FromTables t)

abbrev pub FromIntervals : Tables → Option BadRow → Type 0
FromIntervals t = Then 3 (IsIntervalBad t) (FromSchemas t)

abbrev pub FromHistory : Tables → Option BadRow → Type 0
FromHistory t = Then 2 (IsHistoryBad t) (FromIntervals t)

-- The first rule that is broken, with its first bad row; none where all hold.
abbrev pub IsFirstBadRow : Tables → Option BadRow → Type 0
IsFirstBadRow t = Then 1 (IsLayoutBad t) (FromHistory t)
