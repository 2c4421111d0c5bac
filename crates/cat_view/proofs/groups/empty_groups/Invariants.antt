use Rattle.std.proofs.Common.{◌≡◌, [], replicate}
use Rattle.cat_view.proofs.groups.empty_groups.Given as goal

abbrev pub invariant-loop-owner : goal.invariant-loop-owner
invariant-loop-owner l = l.groups.items ≡ replicate l._owner []
