-- The statistics of a column's cells.
use Rattle.std.specs.Prelude.{◌≡◌, ℕ, ◌+◌, nat_lt, Bool, true, false, ◌||◌, List, ◌++◌, length, Option, Some, None, IfSome, if◌then◌else◌}
use Rattle.std.specs.List.{All, count_by}
use Rattle.lake_types.specs.Cells.{cell_at}
use Rattle.lake_types.specs.Fits.{fits}
use Rattle.lake_types.specs.declared.value.ColType.{ColType}
use Rattle.lake_types.specs.declared.value.Column.{Column}
use Rattle.lake_types.specs.declared.value.Row.{Row}
use Rattle.lake_types.specs.declared.value.Value.{Value}
use Rattle.lake_types.specs.declared.value.Value.TheVariants as value
use Rattle.col_stats.specs.Bounds.{HasBound, HasBoundText, HasText, bound_text, outer, values}
use Rattle.col_stats.specs.declared.bounds.Side.{Side}
use Rattle.col_stats.specs.declared.bounds.Side.TheVariants as side
use Rattle.col_stats.specs.declared.stats.ColStats.{ColStats}

abbrev pub Fits : ColType → Value → Type 0
Fits ty v = fits v ty ≡ true

-- there is a cell, and it fits the type
abbrev pub IsThere : ColType → Option Value → Type 0
IsThere ty None = ⊥
IsThere ty (Some v) = Fits ty v

abbrev pub HasCell : Column → Row → Type 0
HasCell column row = IsThere column.ty (cell_at row.cells column.field)

abbrev pub is_null : Value → Bool
is_null value.Null = true
is_null v = false

-- how many cells there are, how many of them are NULL, and the bounds of the others
pub record AreStats (cells : List Value) (stats : ColStats) : Type 0 where
  pub rows : stats.rows ≡ length cells
  pub nulls : stats.nulls ≡ count_by is_null cells
  pub min : HasBound side.Least (values cells) stats.min
  pub max : HasBound side.Greatest (values cells) stats.max

-- What a statistics row has beside the cells of its column: how many of them are NULL, and the texts of the bounds of
-- the others.
pub record IsCount (cells : List Value) (null_count : ℕ) (min_value max_value : Option (List ℕ)) : Type 0 where
  pub nulls : null_count ≡ count_by is_null cells
  pub min : HasBoundText side.Least (values cells) min_value
  pub max : HasBoundText side.Greatest (values cells) max_value

-- each bound that is there has a text
pub record HasTexts (stats : ColStats) : Type 0 where
  pub min : IfSome stats.min HasText
  pub max : IfSome stats.max HasText

-- the texts of statistics are those of a statistics row beside the cells
abbrev pub CountsCells : Type 0
CountsCells = (cells : List Value) (stats : ColStats) → AreStats cells stats → IsCount cells stats.nulls (bound_text stats.min) (bound_text stats.max)

-- ---- of two lists

-- a side that has values withholds a bound that is absent: it says nothing of them
abbrev pub withholds : ColStats → Option Value → Bool
withholds stats None = nat_lt stats.nulls stats.rows
withholds stats (Some v) = false

-- the outer bound; absent where a side withholds its own
abbrev pub merged : Side → Bool → Option Value → Option Value → Option Value
merged s withheld a b = if withheld then None else outer s a b

-- whether one of the two sides withholds its least value, and its greatest
abbrev pub withheld_min : ColStats → ColStats → Bool
withheld_min a b = withholds a a.min || withholds b b.min

abbrev pub withheld_max : ColStats → ColStats → Bool
withheld_max a b = withholds a a.max || withholds b b.max

pub record AreMerged (a b c : ColStats) : Type 0 where
  pub field : c.field ≡ a.field
  pub rows : c.rows ≡ a.rows + b.rows
  pub nulls : c.nulls ≡ a.nulls + b.nulls
  pub min : c.min ≡ merged side.Least (withheld_min a b) a.min b.min
  pub max : c.max ≡ merged side.Greatest (withheld_max a b) a.max b.max

-- the statistics of both lists together, but for a bound that a side withholds
pub record AreStatsOfBoth (cells others : List Value) (a b c : ColStats) : Type 0 where
  pub rows : c.rows ≡ length (cells ++ others)
  pub nulls : c.nulls ≡ count_by is_null (cells ++ others)
  pub min : withheld_min a b ≡ false → HasBound side.Least (values (cells ++ others)) c.min
  pub max : withheld_max a b ≡ false → HasBound side.Greatest (values (cells ++ others)) c.max

-- merged statistics of two lists of cells of one type are those of both together
abbrev pub MergesLists : Type 0
MergesLists = (ty : ColType) (cells others : List Value) (a b c : ColStats) → All (Fits ty) cells → All (Fits ty) others
    → AreStats cells a → AreStats others b → AreMerged a b c → AreStatsOfBoth cells others a b c
