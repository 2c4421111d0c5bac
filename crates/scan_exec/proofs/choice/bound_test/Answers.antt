use Rattle.std.proofs.Common.{ap}
use Rattle.lake_types.specs.Truth.{is_true}
use Rattle.scan_exec.proofs.choice.bound_test.Goals as goal

pub returns-in-Ok-clause-bound : goal.returns-in-Ok-clause-bound
returns-in-Ok-clause-bound c = λ cells. rw c.in-Some.is (ap is_true (c.in-Ok.ensures.bound cells))
