-- The statistics of a data file, of those of its columns that a version sees.
use Rattle.std.specs.Prelude.{◌≡◌, ◌⊎◌, ◌==◌, ℕ, Bool, List, [], ◌∷◌, filter, is_some, Option, Some, None, if◌then◌else◌}
use Rattle.std.specs.List.{AllZip}
use Rattle.lake_types.specs.declared.value.ColType.{ColType}
use Rattle.lake_types.specs.declared.value.Column.{Column}
use Rattle.col_stats.specs.declared.stats.ColStats.{ColStats}
use Rattle.cat_rows.specs.declared.files.FileColumnStatsRow.{FileColumnStatsRow}
use Rattle.cat_texts.specs.Spelled.{IsStatsOf, TellsNone}

-- the column of a field id
abbrev pub column_with : List Column → ℕ → Option Column
column_with [] field = None
column_with (c ∷ columns) field = if c.field == field then Some c else column_with columns field

-- the version sees the column of a statistics row
abbrev pub is_seen : List Column → FileColumnStatsRow → Bool
is_seen columns r = is_some (column_with columns r.column_id)

-- statistics without bounds, which allow every value
pub record IsBare (count : ℕ) (r : FileColumnStatsRow) (s : ColStats) : Type 0 where
  pub field : s.field ≡ r.column_id
  pub rows : s.rows ≡ count
  pub nulls : s.nulls ≡ r.null_count
  pub min : s.min ≡ None
  pub max : s.max ≡ None

-- what a row tells in a type; no bounds where it tells nothing
abbrev pub IsTold : ColType → ℕ → FileColumnStatsRow → ColStats → Type 0
IsTold type count r s = IsStatsOf type count r s ⊎ (TellsNone type count r × IsBare count r s)

-- a statistics row of a file with so many rows is read by its column's type
pub record IsRead (columns : List Column) (count : ℕ) (r : FileColumnStatsRow) (s : ColStats) : Type 0 where
  pub column : Column
  pub seen : column_with columns r.column_id ≡ Some column
  pub told : IsTold column.ty count r s

-- those of some rows that tell of columns that are seen, in their order
abbrev pub AreRead : List Column → ℕ → List FileColumnStatsRow → List ColStats → Type 0
AreRead columns count rows stats = AllZip (IsRead columns count) (filter (is_seen columns) rows) stats
