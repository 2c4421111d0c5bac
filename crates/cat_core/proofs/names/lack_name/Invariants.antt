use Rattle.std.proofs.Common.{◌≢◌, ℕ, List, length}
use Rattle.std.specs.Prelude.{◌↔◌}
use Rattle.std.specs.List.{AllByRecursion}
use Rattle.rebase.specs.Files.{files_in}
use Rattle.cat_core.specs.Names.{names_of}
use Rattle.cat_core.proofs.names.lack_name.Given as goal

abbrev pub invariant-loop-rest : goal.invariant-loop-rest
invariant-loop-rest g l =
    AllByRecursion (λ (n : List ℕ). l.name ≢ n) (names_of (files_in g.F.Held.name g.F.Held.size l.rest))
    ↔ AllByRecursion (λ (n : List ℕ). l.name ≢ n) (names_of (files_in g.F.Held.name g.F.Held.size l.staged))

abbrev pub decreases-loop-rest : goal.decreases-loop-rest
decreases-loop-rest g l = length l.rest
