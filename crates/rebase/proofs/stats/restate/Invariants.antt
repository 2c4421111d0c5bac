use Rattle.std.proofs.Common.{◌≡◌, ◌++◌, length}
use Rattle.std.specs.List.{AllByRecursion}
use Rattle.cat_rows.specs.Batches.{tables_of}
use Rattle.rebase.specs.Files.{files_in}
use Rattle.rebase.specs.Parts.{old_stats_of, restated_of}
use Rattle.rebase.specs.Stats.{FitsIn, stats_adds, stats_keys}
use Rattle.rebase.proofs.stats.restate.Given as goal

abbrev pub invariant-loop-rest : goal.invariant-loop-rest
invariant-loop-rest g l = record {
  removes : l.removes.items ++ stats_keys (old_stats_of (tables_of l.rows) (files_in g.F.Held.name g.F.Held.size l.rest))
      ≡ l.fn.removes.items ++ stats_keys (old_stats_of (tables_of l.rows) (files_in g.F.Held.name g.F.Held.size l.staged));
  adds : l.adds.items ++ stats_adds (restated_of (tables_of l.rows) (files_in g.F.Held.name g.F.Held.size l.rest))
      ≡ l.fn.adds.items ++ stats_adds (restated_of (tables_of l.rows) (files_in g.F.Held.name g.F.Held.size l.staged));
  fit : AllByRecursion (FitsIn (tables_of l.rows)) (files_in g.F.Held.name g.F.Held.size l.rest);
}

abbrev pub decreases-loop-rest : goal.decreases-loop-rest
decreases-loop-rest g l = length l.rest
