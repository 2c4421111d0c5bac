-- A list of one row, or of one cell, has what a count asks of each.
use Rattle.std.proofs.Common.{◌≡◌, true, List, [], ◌∷◌}
use Rattle.std.specs.List.{All}
use Rattle.std.proofs.lemmas.List.Elements.{All-nil, All-cons}
use Rattle.lake_types.specs.Fits.{fits}
use Rattle.lake_types.specs.declared.value.ColType.{ColType}
use Rattle.lake_types.specs.declared.value.Column.{Column}
use Rattle.lake_types.specs.declared.value.Row.{Row}
use Rattle.lake_types.specs.declared.value.Value.{Value}
use Rattle.col_stats.specs.Stats.{Fits, HasCell}

pub one_row : (column : Column) (row : Row) → HasCell column row → All (HasCell column) (row ∷ [])
one_row column row h = All-cons (HasCell column) row [] h (All-nil (HasCell column))

pub one_cell : (ty : ColType) (v : Value) → fits v ty ≡ true → All (Fits ty) (v ∷ [])
one_cell ty v h = All-cons (Fits ty) v [] h (All-nil (Fits ty))
