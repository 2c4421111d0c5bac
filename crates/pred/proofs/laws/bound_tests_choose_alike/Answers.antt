use Rattle.std.proofs.Common.{ap}
use Rattle.lake_types.specs.Truth.{is_true}
use Rattle.pred.proofs.laws.bound_tests_choose_alike.Goals as goal

pub returns : goal.returns
returns c = λ columns pred one cells is. ap is_true (is cells)
