use Rattle.std.proofs.Common.{length}
use Rattle.std.specs.Prelude.{◌↔◌, IsTrue}
use Rattle.std.specs.List.{AllByRecursion}
use Rattle.rebase.specs.Made.{HasFittingDefaults}
use Rattle.cat_core.specs.Commits.{CreatesBytes}
use Rattle.cat_core.proofs.makeable.do_defaults_fit.Given as goal

abbrev pub invariant-loop-rest : goal.invariant-loop-rest
invariant-loop-rest l = record {
  fits : (IsTrue l.fit × AllByRecursion HasFittingDefaults l.rest) ↔ AllByRecursion HasFittingDefaults l.own;
  bytes : AllByRecursion CreatesBytes l.rest → AllByRecursion CreatesBytes l.own;
}

abbrev pub decreases-loop-rest : goal.decreases-loop-rest
decreases-loop-rest l = length l.rest
