use Rattle.std.proofs.Common.{◌≡◌, ◌++◌, length, map}
use Rattle.lake_model.specs.Growth.{made_tables}
use Rattle.cat_view.specs.StagedNames.{named_staged_table}
use Rattle.rebase.specs.Stats.{made_adds}
use Rattle.rebase.proofs.stats.add_made_stats.Given as goal

abbrev pub invariant-loop-rest : goal.invariant-loop-rest
invariant-loop-rest g l =
    l.adds.items ++ made_adds l.place (map (named_staged_table g.F.Held.name g.F.Held.size) l.staged) (made_tables l.tables l.rest)
    ≡ l.fn.adds.items ++ made_adds l.place (map (named_staged_table g.F.Held.name g.F.Held.size) l.staged) (made_tables 0 l.own)

abbrev pub decreases-loop-rest : goal.decreases-loop-rest
decreases-loop-rest g l = length l.rest
