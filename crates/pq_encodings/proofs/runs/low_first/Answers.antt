use Rattle.std.proofs.Common.{◌<◌, ◌^◌, arith}
use Rattle.byteorder.specs.Endian.{little_number}
use Rattle.pq_encodings.proofs.RunLemmas.{number_small}
use Rattle.pq_encodings.proofs.runs.low_first.Goals as goal

pub overflow_cast-result : goal.overflow_cast-result
overflow_cast-result c =
    let small : little_number c.args.size c.args.bytes.now < 2 ^ 32 =
    number_small c.args.size c.args.bytes.now (λ k. omega (arith, c.type_inv.bytes k)) c.requires.four in
    omega (arith, c.read_uint.ensures)
