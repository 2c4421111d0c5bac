-- Cells that a column can't hold, told from the intervals alone.
use Rattle.std.specs.Prelude.{◌≡◌, ◌⊎◌, ◌&&◌, ℕ, Bool, true, false, not, List, Option, Some, None}
use Rattle.std.specs.List.{list_any}
use Rattle.cat_rows.specs.Tables.{Tables}
use Rattle.cat_rows.specs.declared.inlined.InlinedRow.{InlinedRow}
use Rattle.lake_types.specs.Fits.{fits}
use Rattle.lake_types.specs.declared.value.Value.{Value}
use Rattle.inline_rows.specs.Laws.{Spells}
use Rattle.cat_rules.specs.Lookups.{table_of}
use Rattle.inlined_rules.specs.Stays.{stay_of}
use Rattle.inlined_rules.specs.Terms.{are_met}
use Rattle.cat_tables.specs.declared.interval.Interval.{Interval}
use Rattle.inlined_rules.specs.declared.term_index.TypedTerms.{TypedTerms}
use Rattle.cat_rules.specs.InlinedRule.{HasUnreadableCells, HasWrongRowId}

-- the terms are of a type that the value doesn't fit, and one of the column's is seen with the stay
abbrev pub is_misfit_of : ℕ → Interval → ℕ × Value → TypedTerms → Bool
is_misfit_of table stay cell typed = not (fits cell.1 typed.column_type) && are_met table cell.0 stay typed.terms

abbrev pub is_misfit : List TypedTerms → ℕ → Option Interval → ℕ × Value → Bool
is_misfit index table None cell = false
is_misfit index table (Some stay) cell = list_any (is_misfit_of table stay cell) index

abbrev pub stay_in : Tables → InlinedRow → Option Interval
stay_in t r = stay_of r (table_of t r.table_id)

abbrev pub HasMisfitBy : Tables → List TypedTerms → InlinedRow → Type 0
HasMisfitBy t index r =
    (cells : List (ℕ × Value)) × Spells r.cells cells × (list_any (is_misfit index r.table_id (stay_in t r)) cells ≡ true)

abbrev pub IsInlinedWrong : Tables → List TypedTerms → InlinedRow → Type 0
IsInlinedWrong t index r = HasUnreadableCells t r ⊎ (HasWrongRowId t r ⊎ HasMisfitBy t index r)
