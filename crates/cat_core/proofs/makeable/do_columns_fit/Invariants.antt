use Rattle.std.proofs.Common.{length}
use Rattle.std.specs.Prelude.{◌↔◌, IsTrue}
use Rattle.std.specs.List.{AllByRecursion}
use Rattle.cat_texts.specs.Written.{FitDefaults}
use Rattle.cat_view.specs.Typed.{HasBytes}
use Rattle.cat_core.proofs.makeable.do_columns_fit.Given as goal

abbrev pub invariant-loop-rest : goal.invariant-loop-rest
invariant-loop-rest l = record {
  fits : (IsTrue l.fit × AllByRecursion FitDefaults l.rest) ↔ AllByRecursion FitDefaults l.columns;
  bytes : AllByRecursion HasBytes l.rest → AllByRecursion HasBytes l.columns;
}

abbrev pub decreases-loop-rest : goal.decreases-loop-rest
decreases-loop-rest l = length l.rest
