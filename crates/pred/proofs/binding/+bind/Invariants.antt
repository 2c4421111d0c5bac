use Rattle.std.proofs.Common.{◌≡◌, drop, take}
use Rattle.pred.specs.Binding.{AreBindings, fault_of_parts}
use Rattle.pred.proofs.binding.+bind.Given as goal

-- the parts so far are bound, and the first fault of those that are left decides
abbrev pub invariant-bind_parts-loop-part : goal.invariant-bind_parts-loop-part
invariant-bind_parts-loop-part l = record {
  bound : AreBindings l.columns (take l.part-index l.parts) l.bounds;
  left : fault_of_parts l.columns l.parts ≡ fault_of_parts l.columns (drop l.part-index l.parts);
}
