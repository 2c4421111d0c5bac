use Rattle.std.proofs.Common.{arith}
use Rattle.thrift_compact.proofs.WriterLemmas.{more_bytes, no_more}
use Rattle.thrift_compact.proofs.writer.append_number.Goals as goal

pub loop-turn-preserved : goal.loop-turn-preserved
loop-turn-preserved c = (
  rw c.push_reserved-in-loop-turn.ensures.items (more_bytes c.loop-turn.bytes.items 10 c.loop-turn._turn c.loop-turn.left _ c.loop-turn-test.true c.if-left-lt128.false c.loop-turn.invariant.0),
  omega arith,
  omega arith,
)

pub returns-clause-items : goal.returns-clause-items
returns-clause-items c = no_more c.loop-turn.bytes.items 10 c.loop-turn._turn c.loop-turn.left _ c.loop-turn-test.false c.loop-turn.invariant.0
