use Rattle.std.proofs.Common.{◌≡◌, take}
use Rattle.pred.proofs.bound.+copy_bound.Given as goal

-- the parts so far
abbrev pub invariant-copy_parts-loop-part : goal.invariant-copy_parts-loop-part
invariant-copy_parts-loop-part l = l.copy ≡ take l.part-index l.parts
