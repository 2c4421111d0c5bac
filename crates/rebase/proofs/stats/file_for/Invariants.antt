use Rattle.std.proofs.Common.{◌≡◌, length, map}
use Rattle.cat_view.specs.Staged.{staged_for}
use Rattle.cat_view.specs.StagedNames.{named_staged_table}
use Rattle.rebase.proofs.stats.file_for.Given as goal

abbrev pub invariant-loop-rest : goal.invariant-loop-rest
invariant-loop-rest g l =
    staged_for (map (named_staged_table g.F.Held.name g.F.Held.size) l.rest) l.table ≡ staged_for (map (named_staged_table g.F.Held.name g.F.Held.size) l.staged) l.table

abbrev pub decreases-loop-rest : goal.decreases-loop-rest
decreases-loop-rest g l = length l.rest
