use Rattle.std.proofs.Common.{take}
use Rattle.lake_types.specs.Kinds.{IsNamed}
use Rattle.std.specs.List.{AllByRecursion}
use Rattle.std.specs.BTreeMap.{get}
use Rattle.std.specs.Ordering.{nat_cmp}
use Rattle.cat_changes.specs.Reading.{AreUnnamed, shown}
use Rattle.cat_changes.proofs.names.named.Given as goal

-- the kinds so far have their names
abbrev pub invariant-loop-kind : goal.invariant-loop-kind
invariant-loop-kind l = AreUnnamed l.named (take l.kind-index l.kinds) × AllByRecursion (IsNamed (λ id. shown (get nat_cmp l.names id))) l.named
