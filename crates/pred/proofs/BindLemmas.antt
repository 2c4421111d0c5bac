-- Parts of a test that are bound one after the other.
use Rattle.std.proofs.Common.{◌≡◌, ◌<◌, ◌+◌, ℕ, List, [], ◌∷◌, ◌++◌, get_or, length, map, take, ap, sym, ◌∙◌}
use Rattle.std.proofs.lemmas.List.{map-append, map_more}
use Rattle.lake_types.specs.Cells.{cell_at, cell_named}
use Rattle.lake_types.specs.Truth.{all_of, any_of, not_of, truth}
use Rattle.lake_types.specs.declared.pred.Pred.{Pred}
use Rattle.lake_types.specs.declared.pred.Pred.TheVariants as pred
use Rattle.lake_types.specs.declared.truth.Truth.{Truth}
use Rattle.lake_types.specs.declared.value.Column.{Column}
use Rattle.pred.specs.Binding.{AreBindings, IsBinding}
use Rattle.pred.specs.Bound.{bound_truth}
use Rattle.pred.specs.declared.bound.Bound.{Bound}
use Rattle.pred.specs.declared.bound.Bound.TheVariants as bound
use Rattle.pred.proofs.TruthLemmas.{truth-And, truth-Not, truth-Or, bound_truth-And, bound_truth-Not, bound_truth-Or}

-- one more part is bound
pub binds_more : (columns : List Column) (parts : List Pred) (at : ℕ) (part : Pred) (bounds : List Bound) (bound : Bound)
    → at < length parts → part ≡ get_or parts at part
    → AreBindings columns (take at parts) bounds → IsBinding columns part bound
    → AreBindings columns (take (at + 1) parts) (bounds ++ bound ∷ [])
binds_more columns parts at part bounds bound lt is so_far one cells =
    map-append (bound_truth (cell_at cells)) bounds (bound ∷ [])
    ∙ ap (λ (ts : List Truth). ts ++ bound_truth (cell_at cells) bound ∷ []) (so_far cells)
    ∙ ap (λ (t : Truth). map named (take at parts) ++ t ∷ []) (one cells ∙ ap named is)
    ∙ sym (map_more named parts at part lt)
  where
    named : Pred → Truth
    named p = truth (cell_named columns cells) p

pub binds_not : (columns : List Column) (part : Pred) (one : Bound) → IsBinding columns part one → IsBinding columns (pred.Not part) (bound.Not one)
binds_not columns part one is cells =
    bound_truth-Not (cell_at cells) one ∙ ap not_of (is cells) ∙ sym (truth-Not (cell_named columns cells) part)

pub binds_and : (columns : List Column) (parts : List Pred) (bounds : List Bound) → AreBindings columns parts bounds → IsBinding columns (pred.And parts) (bound.And bounds)
binds_and columns parts bounds are cells =
    bound_truth-And (cell_at cells) bounds ∙ ap all_of (are cells) ∙ sym (truth-And (cell_named columns cells) parts)

pub binds_or : (columns : List Column) (parts : List Pred) (bounds : List Bound) → AreBindings columns parts bounds → IsBinding columns (pred.Or parts) (bound.Or bounds)
binds_or columns parts bounds are cells =
    bound_truth-Or (cell_at cells) bounds ∙ ap any_of (are cells) ∙ sym (truth-Or (cell_named columns cells) parts)
