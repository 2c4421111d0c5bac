use Rattle.std.proofs.Common.{◌≡◌, ◌++◌, length}
use Rattle.lake_model.specs.Growth.{made_tables}
use Rattle.rebase.specs.Made as spec
use Rattle.rebase.proofs.made.add_tables.Given as goal

abbrev pub invariant-loop-rest : goal.invariant-loop-rest
invariant-loop-rest l = l.adds.items ++ spec.table_adds l.place (made_tables l.tables l.rest) ≡ l.fn.adds.items ++ spec.table_adds l.place (made_tables 0 l.own)

abbrev pub decreases-loop-rest : goal.decreases-loop-rest
decreases-loop-rest l = length l.rest
