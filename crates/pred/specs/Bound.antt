-- The truth of a bound test over a row, in three values.
use Rattle.std.specs.Prelude.{ℕ, Bool, true, not, Option, Some, None}
use Rattle.lake_types.specs.Truth.{all_of, any_of, compared, is_null, is_true, not_of, truth_of}
use Rattle.lake_types.specs.declared.truth.Truth.{Truth}
use Rattle.lake_types.specs.declared.value.Value.{Value}
use Rattle.pred.specs.declared.bound.Bound.{Bound}
use Rattle.pred.specs.declared.bound.Bound.TheOpen.{Bound-F}
use Rattle.pred.specs.declared.bound.Bound.TheFolds.{fold-Bound}

-- one level of a bound test, with the truth of each part in its place
abbrev pub bound_truth_at : (ℕ → Option Value) → Bound-F Truth → Truth
bound_truth_at cell (Bound-F.Compare field o literal) = compared o (cell field) literal
bound_truth_at cell (Bound-F.IsNull field) = truth_of (is_null (cell field))
bound_truth_at cell (Bound-F.NotNull field) = truth_of (not (is_null (cell field)))
bound_truth_at cell (Bound-F.Not t) = not_of t
bound_truth_at cell (Bound-F.And ts) = all_of ts
bound_truth_at cell (Bound-F.Or ts) = any_of ts

-- the truth of a bound test, where this gives the cell of each field
abbrev pub bound_truth : (ℕ → Option Value) → Bound → Truth
bound_truth cell = fold-Bound Truth (bound_truth_at cell)

-- a row is chosen where its test is true, or where there is no test
abbrev pub bound_chooses : Option Bound → (ℕ → Option Value) → Bool
bound_chooses None cell = true
bound_chooses (Some bound) cell = is_true (bound_truth cell bound)
