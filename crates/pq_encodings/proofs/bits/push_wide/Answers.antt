use Rattle.std.proofs.Common.{◌≡◌, ◌*◌, ◌∙◌, ap, arith}
use Rattle.byteorder.specs.Endian.{little_number}
use Rattle.pq_encodings.specs.Bits.{packed_number}
use Rattle.pq_encodings.proofs.BitLemmas.{one_number_more, packed-at_bit}
use Rattle.pq_encodings.proofs.bits.push_wide.Goals as goal

pub loop-k-preserved : goal.loop-k-preserved
loop-k-preserved c =
    let number : c.bits_of.result ≡ packed_number c.args.width c.args.group.now (c.loop-k.k * c.args.width) =
    c.bits_of.ensures
    ∙ packed-at_bit c.args.group.now (λ k. omega (arith, c.type_inv.group k)) (c.loop-k.k * c.args.width) c.args.width c.read_u64.result c.requires.width (c.read_u64.ensures ∙ ap (λ xs. little_number 8 xs) c.split_at.ensures.back) in (
      record {
        room = omega arith;
        longer = omega arith;
        items = one_number_more c.args.width c.args.group.now c.loop-k.k c.bits_of.result c.args.out.now.items c.loop-k.out.items c.push_reserved.new.self.items
            c.push_reserved.ensures.items number c.loop-k.invariant.0.items;
      },
      omega arith,
    )
