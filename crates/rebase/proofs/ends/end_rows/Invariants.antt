use Rattle.std.proofs.Common.{◌≡◌, ◌++◌, ◌==◌, length}
use Rattle.indexmap.specs.IndexSet.{contains}
use Rattle.rebase.specs.Ends.{ended}
use Rattle.rebase.specs.Parts.{going}
use Rattle.rebase.proofs.ends.end_rows.Given as goal

abbrev pub invariant-loop-rest : goal.invariant-loop-rest
invariant-loop-rest g l =
    l.ends.items ++ ended g.R.Owned.named l.at (going g.R.Versioned.validity (λ r. contains ◌==◌ l.dropped (g.R.Owned.owner r)) l.rest)
    ≡ l.fn.ends.items ++ ended g.R.Owned.named l.at (going g.R.Versioned.validity (λ r. contains ◌==◌ l.dropped (g.R.Owned.owner r)) l.rows)

abbrev pub decreases-loop-rest : goal.decreases-loop-rest
decreases-loop-rest g l = length l.rest
