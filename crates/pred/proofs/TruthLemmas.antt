-- The truth of a test by the truth of its parts: of one that names columns, and of a bound one.
use Rattle.std.proofs.Common.{◌≡◌, ℕ, List, Option, Some, None, true, map, ap, refl, sym, ◌∙◌, true≢false}
use Rattle.lake_types.specs.Truth.{all_of, any_of, compared, is_null, not_of, truth, truth_at}
use Rattle.lake_types.specs.declared.pred.Op.{Op}
use Rattle.lake_types.specs.declared.pred.Pred.{Pred}
use Rattle.lake_types.specs.declared.pred.Pred.TheVariants as pred
use Rattle.lake_types.specs.declared.pred.Pred.TheVariants.{rolls-Not, rolls-And, rolls-Or}
use Rattle.lake_types.specs.declared.pred.Pred.TheOpen.{Pred-F}
use Rattle.lake_types.specs.declared.pred.Pred.TheFolds.{fold-roll-Pred}
use Rattle.lake_types.specs.declared.truth.Truth.{Truth}
use Rattle.lake_types.specs.declared.truth.Truth.TheVariants.{Unknown}
use Rattle.lake_types.specs.declared.value.Value.{Value}
use Rattle.lake_types.specs.declared.value.Value.TheVariants as value
use Rattle.pred.specs.Bound.{bound_truth, bound_truth_at}
use Rattle.pred.specs.declared.bound.Bound.{Bound}
use Rattle.pred.specs.declared.bound.Bound.TheVariants as bound
use Rattle.pred.specs.declared.bound.Bound.TheOpen.{Bound-F}
use Rattle.pred.specs.declared.bound.Bound.TheFolds.{fold-roll-Bound}

pub truth-Not : (cell : List ℕ → Option Value) (part : Pred) → truth cell (pred.Not part) ≡ not_of (truth cell part)
truth-Not cell part = ap (truth cell) (sym (rolls-Not part)) ∙ fold-roll-Pred Truth (truth_at cell) (Pred-F.Not part)

pub truth-And : (cell : List ℕ → Option Value) (parts : List Pred) → truth cell (pred.And parts) ≡ all_of (map (truth cell) parts)
truth-And cell parts = ap (truth cell) (sym (rolls-And parts)) ∙ fold-roll-Pred Truth (truth_at cell) (Pred-F.And parts)

pub truth-Or : (cell : List ℕ → Option Value) (parts : List Pred) → truth cell (pred.Or parts) ≡ any_of (map (truth cell) parts)
truth-Or cell parts = ap (truth cell) (sym (rolls-Or parts)) ∙ fold-roll-Pred Truth (truth_at cell) (Pred-F.Or parts)

pub bound_truth-Not : (cell : ℕ → Option Value) (part : Bound) → bound_truth cell (bound.Not part) ≡ not_of (bound_truth cell part)
bound_truth-Not cell part = ap (bound_truth cell) (sym (bound.rolls-Not part)) ∙ fold-roll-Bound Truth (bound_truth_at cell) (Bound-F.Not part)

pub bound_truth-And : (cell : ℕ → Option Value) (parts : List Bound) → bound_truth cell (bound.And parts) ≡ all_of (map (bound_truth cell) parts)
bound_truth-And cell parts = ap (bound_truth cell) (sym (bound.rolls-And parts)) ∙ fold-roll-Bound Truth (bound_truth_at cell) (Bound-F.And parts)

pub bound_truth-Or : (cell : ℕ → Option Value) (parts : List Bound) → bound_truth cell (bound.Or parts) ≡ any_of (map (bound_truth cell) parts)
bound_truth-Or cell parts = ap (bound_truth cell) (sym (bound.rolls-Or parts)) ∙ fold-roll-Bound Truth (bound_truth_at cell) (Bound-F.Or parts)

pub bound_truth-Compare : (cell : ℕ → Option Value) (field : ℕ) (o : Op) (literal : Value) → bound_truth cell (bound.Compare field o literal) ≡ compared o (cell field) literal
bound_truth-Compare cell field o literal =
    ap (bound_truth cell) (sym (bound.rolls-Compare field o literal)) ∙ fold-roll-Bound Truth (bound_truth_at cell) (Bound-F.Compare field o literal)

pub compared-null : (o : Op) (cell : Option Value) (literal : Value) → is_null cell ≡ true → compared o cell literal ≡ Unknown
compared-null o None literal null = refl
compared-null o (Some value.Null) literal null = refl
compared-null o (Some (value.Bool b)) literal null = absurd (true≢false (sym null))
compared-null o (Some (value.Int n)) literal null = absurd (true≢false (sym null))
compared-null o (Some (value.Text text)) literal null = absurd (true≢false (sym null))
compared-null o (Some (value.Bytes bytes)) literal null = absurd (true≢false (sym null))
compared-null o (Some (value.Date day)) literal null = absurd (true≢false (sym null))

pub compared-with-null : (o : Op) (cell : Option Value) → compared o cell value.Null ≡ Unknown
compared-with-null o None = refl
compared-with-null o (Some value.Null) = refl
compared-with-null o (Some (value.Bool b)) = refl
compared-with-null o (Some (value.Int n)) = refl
compared-with-null o (Some (value.Text text)) = refl
compared-with-null o (Some (value.Bytes bytes)) = refl
compared-with-null o (Some (value.Date day)) = refl
