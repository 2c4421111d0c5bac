use Rattle.std.proofs.Common.{All, take}
use Rattle.host_edge.specs.Paths as spec
use Rattle.host_edge.proofs.path.has_name_bytes.Given as goal

abbrev pub invariant-loop-byte : goal.invariant-loop-byte
invariant-loop-byte l = All spec.IsInName (take l.byte-index l.name)
