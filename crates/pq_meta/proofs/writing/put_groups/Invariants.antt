use Rattle.std.proofs.Common.{◌≡◌, ◌++◌, drop}
use Rattle.std.specs.List.{flat_map}
use Rattle.pq_meta.specs.Spelling.{group_bytes}
use Rattle.pq_meta.proofs.writing.put_groups.Given as goal

abbrev pub invariant-loop-group : goal.invariant-loop-group
invariant-loop-group l = l.writer ++ flat_map (group_bytes l.columns) (drop l.group-index l.groups) ≡ l.fn.writer ++ flat_map (group_bytes l.columns) l.groups
