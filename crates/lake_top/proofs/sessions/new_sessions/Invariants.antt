use Rattle.std.proofs.Common.{◌≡◌, length}
use Rattle.lake_top.proofs.SessionsLemmas.{AreNewFrom}
use Rattle.lake_top.proofs.sessions.new_sessions.Given as goal

-- those so far are new, and as many as the place says
abbrev pub invariant-loop-place : goal.invariant-loop-place
invariant-loop-place g l = record {
  new : AreNewFrom g.F.Held.name g.F.Held.size g.F.Held.bytes 0 l.sessions.items;
  so_many : length l.sessions.items ≡ l.place;
}
