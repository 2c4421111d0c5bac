use Rattle.std.proofs.Common.{◌≡◌, ◌≤◌, ◌+◌, length}
use Rattle.rebase.specs.Files.{files_in}
use Rattle.rebase.proofs.spent.count_files.Given as goal

abbrev pub invariant-loop-rest : goal.invariant-loop-rest
invariant-loop-rest g l = record {
  counted : l.count + length (files_in g.F.Held.name g.F.Held.size l.rest) ≡ length (files_in g.F.Held.name g.F.Held.size l.staged);
  room : l.count + length l.rest ≤ length l.staged;
}

abbrev pub decreases-loop-rest : goal.decreases-loop-rest
decreases-loop-rest g l = length l.rest
