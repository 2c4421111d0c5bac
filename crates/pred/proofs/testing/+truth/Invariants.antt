use Rattle.std.proofs.Common.{◌≡◌, map, take}
use Rattle.lake_types.specs.Truth.{all_of, any_of}
use Rattle.pred.specs.Bound.{bound_truth}
use Rattle.pred.proofs.testing.+truth.Given as goal

-- the parts so far
abbrev pub invariant-truth_of_all-loop-part : goal.invariant-truth_of_all-loop-part
invariant-truth_of_all-loop-part g l = l.all ≡ all_of (map (bound_truth (g.C.Cells.cell l.cells)) (take l.part-index l.parts))

abbrev pub invariant-truth_of_any-loop-part : goal.invariant-truth_of_any-loop-part
invariant-truth_of_any-loop-part g l = l.any ≡ any_of (map (bound_truth (g.C.Cells.cell l.cells)) (take l.part-index l.parts))
