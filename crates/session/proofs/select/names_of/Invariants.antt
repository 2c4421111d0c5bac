use Rattle.std.proofs.Common.{◌≡◌, ◌++◌, drop}
use Rattle.session.specs.Select.{names_of}
use Rattle.session.proofs.select.names_of.Given as goal

-- the names so far, and those of the items that are left
abbrev pub invariant-loop-item : goal.invariant-loop-item
invariant-loop-item l = l.names ++ names_of (drop l.item-index l.items) ≡ names_of l.items
