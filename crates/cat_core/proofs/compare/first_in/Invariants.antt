use Rattle.std.proofs.Common.{◌≡◌, ◌<◌, ◌+◌, ◌^◌, length}
use Rattle.cat_core.specs.Commits as spec
use Rattle.cat_core.proofs.compare.first_in.Given as goal

abbrev pub invariant-loop-rest : goal.invariant-loop-rest
invariant-loop-rest l = record {
  same : spec.first_in l.mine l.snapshot l.rest ≡ spec.first_in l.mine l.from l.kinds;
  small : l.snapshot + length l.rest < 2 ^ 64;
}

abbrev pub decreases-loop-rest : goal.decreases-loop-rest
decreases-loop-rest l = length l.rest
