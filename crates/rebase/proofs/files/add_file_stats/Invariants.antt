use Rattle.std.proofs.Common.{◌≡◌, ◌++◌, length}
use Rattle.std.specs.List.{AllByRecursion}
use Rattle.rebase.specs.Files.{HaveTexts, file_stats_adds, files_in}
use Rattle.rebase.proofs.files.add_file_stats.Given as goal

abbrev pub invariant-loop-rest : goal.invariant-loop-rest
invariant-loop-rest g l = record {
  to_come : l.adds.items ++ file_stats_adds l.id (files_in g.F.Held.name g.F.Held.size l.rest)
      ≡ l.fn.adds.items ++ file_stats_adds l.first_id (files_in g.F.Held.name g.F.Held.size l.staged);
  texts : AllByRecursion HaveTexts (files_in g.F.Held.name g.F.Held.size l.rest);
}

abbrev pub decreases-loop-rest : goal.decreases-loop-rest
decreases-loop-rest g l = length l.rest
