-- Tests that name columns, and the bound tests that stand for them.
use Rattle.std.specs.Prelude.{◌≡◌, ℕ, List, map, Option, Some, None, option_map}
use Rattle.lake_types.specs.Cells.{cell_at, cell_named, column_named}
use Rattle.lake_types.specs.Truth.{compared, truth}
use Rattle.lake_types.specs.declared.pred.Op.{Op}
use Rattle.lake_types.specs.declared.pred.Pred.{Pred}
use Rattle.lake_types.specs.declared.value.Column.{Column}
use Rattle.lake_types.specs.declared.value.Value.{Value}
use Rattle.lake_model.specs.Rows.{TestFault, LacksColumn, HasWrongType}
use Rattle.lake_model.specs.Rows.{compare_fault, fault_of_test, first_of}
use Rattle.pred.specs.Bound.{bound_truth}
use Rattle.pred.specs.declared.bound.Bound.{Bound}
use Rattle.pred.specs.declared.fault.BindNo.{BindNo}
use Rattle.pred.specs.declared.fault.BindNo.TheVariants as no

-- a bound test has on every row the truth of the test that names these columns
abbrev pub IsBinding : List Column → Pred → Bound → Type 0
IsBinding columns pred bound =
    (cells : List (ℕ × Value)) → bound_truth (cell_at cells) bound ≡ truth (cell_named columns cells) pred

-- the same of each part in order
abbrev pub AreBindings : List Column → List Pred → List Bound → Type 0
AreBindings columns parts bounds =
    (cells : List (ℕ × Value))
    → map (bound_truth (cell_at cells)) bounds ≡ map (truth (cell_named columns cells)) parts

-- a bound test has on every row the truth of a comparison with the column of this name
abbrev pub IsComparison : List Column → List ℕ → Op → Value → Bound → Type 0
IsComparison columns name o literal bound =
    (cells : List (ℕ × Value))
    → bound_truth (cell_at cells) bound ≡ compared o (cell_named columns cells name) literal

-- the fault that a refusal tells; want of memory tells none
abbrev pub told : BindNo → Option TestFault
told (no.NoColumn name) = Some (LacksColumn name)
told (no.WrongType name) = Some (HasWrongType name)
told no.Memory = None

-- the first fault of some parts, from the left
abbrev pub fault_of_parts : List Column → List Pred → Option TestFault
fault_of_parts columns parts = first_of (map (λ part. fault_of_test columns (Some part)) parts)

-- the fault of a comparison with the column of this name
abbrev pub fault_of_comparison : List Column → List ℕ → Value → Option TestFault
fault_of_comparison columns name literal = compare_fault name literal (column_named columns name)

-- the first column with this name has this field
abbrev pub IsFieldOf : List Column → List ℕ → ℕ → Type 0
IsFieldOf columns name field = option_map (λ (c : Column). c.field) (column_named columns name) ≡ Some field
