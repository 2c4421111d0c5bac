use Rattle.std.proofs.Common.{◌≡◌, ◌++◌, length}
use Rattle.std.specs.List.{AllByRecursion}
use Rattle.col_stats.specs.Stats.{HasTexts}
use Rattle.rebase.specs.Files.{stats_adds}
use Rattle.rebase.proofs.files.add_stats.Given as goal

abbrev pub invariant-loop-rest : goal.invariant-loop-rest
invariant-loop-rest l = record {
  to_come : l.adds.items ++ stats_adds l.file l.rest ≡ l.fn.adds.items ++ stats_adds l.file l.stats;
  texts : AllByRecursion HasTexts l.rest;
}

abbrev pub decreases-loop-rest : goal.decreases-loop-rest
decreases-loop-rest l = length l.rest
