use Rattle.std.proofs.Common.{◌≡◌, ◌*◌, arith}
use Rattle.pq_encodings.specs.Bits.{packed_number}
use Rattle.pq_encodings.proofs.BitLemmas.{one_number_more}
use Rattle.pq_encodings.proofs.bits.push_last.Goals as goal

pub loop-k-preserved : goal.loop-k-preserved
loop-k-preserved c =
    let number : c.packed_at.result ≡ packed_number c.args.width c.args.group.now (c.loop-k.k * c.args.width) =
    c.packed_at.ensures in (
      record {
        room = omega arith;
        longer = omega arith;
        items = one_number_more c.args.width c.args.group.now c.loop-k.k c.packed_at.result c.args.out.now.items c.loop-k.out.items c.push_reserved.new.self.items
            c.push_reserved.ensures.items number c.loop-k.invariant.0.items;
      },
      omega arith,
    )
