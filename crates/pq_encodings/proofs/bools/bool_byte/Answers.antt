use Rattle.std.proofs.Common.{arith}
use Rattle.pq_encodings.proofs.BoolLemmas.{bits_from-more, bits_from-zero}
use Rattle.pq_encodings.proofs.bools.bool_byte.Goals as goal

pub loop-j-init : goal.loop-j-init
loop-j-init c = bits_from-zero c.args.values.now c.args.first

pub overflow_add-byte : goal.overflow_add-byte
overflow_add-byte c =
    let more = bits_from-more c.args.values.now c.args.first c.loop-j.j c.bool_bit.result c.loop-j.byte c.loop-j-test.true c.bool_bit.ensures.bit c.loop-j.invariant in
    omega (arith, more.1)

pub loop-j-preserved : goal.loop-j-preserved
loop-j-preserved c =
    (bits_from-more c.args.values.now c.args.first c.loop-j.j c.bool_bit.result c.loop-j.byte c.loop-j-test.true c.bool_bit.ensures.bit c.loop-j.invariant).0
