-- What holds of bound tests.
use Rattle.std.specs.Prelude.{◌≡◌, ℕ, List, Option, Some, true}
use Rattle.lake_types.specs.Cells.{cell_at, cell_named}
use Rattle.lake_types.specs.Truth.{chooses, is_null}
use Rattle.lake_types.specs.declared.pred.Op.{Op}
use Rattle.lake_types.specs.declared.pred.Pred.{Pred}
use Rattle.lake_types.specs.declared.truth.Truth.TheVariants.{Unknown}
use Rattle.lake_types.specs.declared.value.Column.{Column}
use Rattle.lake_types.specs.declared.value.Value.{Value}
use Rattle.lake_types.specs.declared.value.Value.TheVariants as value
use Rattle.pred.specs.Binding.{IsBinding}
use Rattle.pred.specs.Bound.{bound_chooses, bound_truth}
use Rattle.pred.specs.declared.bound.Bound.{Bound}
use Rattle.pred.specs.declared.bound.Bound.TheVariants as bound

-- a cell that is NULL, or that the row lacks, compares as Unknown
abbrev pub NullCellsAreUnknown : Type 0
NullCellsAreUnknown =
    (cell : ℕ → Option Value) (field : ℕ) (o : Op) (literal : Value)
    → is_null (cell field) ≡ true
    → bound_truth cell (bound.Compare field o literal) ≡ Unknown

-- each cell compares with NULL as Unknown
abbrev pub NullLiteralsAreUnknown : Type 0
NullLiteralsAreUnknown =
    (cell : ℕ → Option Value) (field : ℕ) (o : Op)
    → bound_truth cell (bound.Compare field o value.Null) ≡ Unknown

-- NOT of what is Unknown is Unknown
abbrev pub KeepsUnknownUnderNot : Type 0
KeepsUnknownUnderNot =
    (cell : ℕ → Option Value) (part : Bound)
    → bound_truth cell part ≡ Unknown
    → bound_truth cell (bound.Not part) ≡ Unknown

-- a bound test chooses the rows that the named one chooses
abbrev pub ChoosesAlike : Type 0
ChoosesAlike =
    (columns : List Column) (pred : Pred) (one : Bound) (cells : List (ℕ × Value))
    → IsBinding columns pred one
    → bound_chooses (Some one) (cell_at cells) ≡ chooses (Some pred) (cell_named columns cells)
