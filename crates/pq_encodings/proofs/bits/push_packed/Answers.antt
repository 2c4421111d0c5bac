use Rattle.std.proofs.Common.{◌+◌, ◌*◌, ◌++◌, ◌∙◌, ap, drop, length, arith}
use Rattle.pq_encodings.specs.Bits.{packed_numbers}
use Rattle.pq_encodings.proofs.BitLemmas.{group_within, held_before, one_group_more, one_number_more}
use Rattle.pq_encodings.proofs.bits.push_packed.Goals as goal

pub split_at-requires : goal.split_at-requires
split_at-requires c = group_within c.loop-group.group c.args.width c.args.count (length c.args.bytes.now) (omega arith) c.requires.held

pub push_group-requires-clause-held : goal.push_group-requires-clause-held
push_group-requires-clause-held c =
    let next = group_within (c.loop-group.group + 1) c.args.width c.args.count (length c.args.bytes.now) (omega arith) c.requires.held in
    omega arith

pub loop-group-preserved : goal.loop-group-preserved
loop-group-preserved c =
    let kept = c.loop-group.invariant in
    record {
      room = omega arith;
      longer = omega arith;
      items = c.push_group.ensures.items
          ∙ ap (λ ys. c.loop-group.own.items ++ packed_numbers c.args.width ys 8) c.split_at.ensures.back
          ∙ ap (λ xs. xs ++ packed_numbers c.args.width (drop (c.loop-group.group * c.args.width) c.args.bytes.now) 8) kept.items
          ∙ one_group_more c.args.out.now.items c.args.bytes.now c.args.width c.loop-group.group;
    }

pub packed_at-requires-clause-held : goal.packed_at-requires-clause-held
packed_at-requires-clause-held c = held_before c.loop-k.k c.args.width c.args.count (length c.args.bytes.now) (omega arith) c.requires.held

pub loop-k-preserved : goal.loop-k-preserved
loop-k-preserved c = record {
  room = omega arith;
  longer = omega arith;
  items = one_number_more c.args.width c.args.bytes.now c.loop-k.k c.packed_at.result c.args.out.now.items c.loop-k.own.items c.push_reserved.new.self.items
      c.push_reserved.ensures.items c.packed_at.ensures c.loop-k.invariant.items;
}
