use Rattle.std.proofs.Common.{◌≡◌, length}
use Rattle.lake_model.specs.Clashes as spec
use Rattle.conflicts.proofs.clash.first_clash.Given as goal

abbrev pub invariant-loop-rest : goal.invariant-loop-rest
invariant-loop-rest l = spec.first_clash l.mine l.snapshot l.rest ≡ spec.first_clash l.mine l.snapshot l.theirs

abbrev pub decreases-loop-rest : goal.decreases-loop-rest
decreases-loop-rest l = length l.rest
