use Rattle.std.proofs.Common.{◌≡◌, ◌++◌, length}
use Rattle.std.specs.List.{AllByRecursion}
use Rattle.lake_model.specs.Growth.{made_tables}
use Rattle.rebase.specs.Made as spec
use Rattle.rebase.proofs.made.add_columns.Given as goal

abbrev pub invariant-loop-rest : goal.invariant-loop-rest
invariant-loop-rest l = record {
  to_come : l.adds.items ++ spec.columns_adds l.place (made_tables l.tables l.rest) ≡ l.fn.adds.items ++ spec.columns_adds l.place (made_tables 0 l.own);
  fit : AllByRecursion spec.HasFittingDefaults l.rest;
}

abbrev pub decreases-loop-rest : goal.decreases-loop-rest
decreases-loop-rest l = length l.rest
