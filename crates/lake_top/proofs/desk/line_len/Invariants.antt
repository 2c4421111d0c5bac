use Rattle.std.proofs.Common.{◌≡◌, ◌+◌, drop}
use Rattle.lake_top.specs.Desks.{line_len}
use Rattle.lake_top.proofs.desk.line_len.Given as goal

-- what is left adds to the length so far
abbrev pub invariant-loop-b : goal.invariant-loop-b
invariant-loop-b l = (l.len ≡ l.b-index) × (l.len + line_len (drop l.b-index l.bytes) ≡ line_len l.bytes)
