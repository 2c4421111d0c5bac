use Rattle.txn_buf.specs.Turns.{StandsFor}
use Rattle.bench.proofs.inserts.all_inserted.Given as goal

abbrev pub invariant-loop-statement : goal.invariant-loop-statement
invariant-loop-statement g l = StandsFor g.F.Held.name l.buf
