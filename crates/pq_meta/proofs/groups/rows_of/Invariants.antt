use Rattle.std.proofs.Common.{◌≡◌, take}
use Rattle.pq_meta.specs.Groups.{rows_of}
use Rattle.pq_meta.proofs.groups.rows_of.Given as goal

abbrev pub invariant-loop-group : goal.invariant-loop-group
invariant-loop-group l = l.rows ≡ rows_of (take l.group-index l.groups)
