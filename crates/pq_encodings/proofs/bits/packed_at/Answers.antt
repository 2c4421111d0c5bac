use Rattle.std.proofs.Common.{arith, ◌∙◌}
use Rattle.pq_encodings.proofs.BitLemmas.{packed-in_group, place_in_group}
use Rattle.pq_encodings.proofs.bits.packed_at.Goals as goal

pub overflow_mul-group : goal.overflow_mul-group
overflow_mul-group c = omega (arith, place_in_group c.args.k c.args.width)

pub overflow_add-group : goal.overflow_add-group
overflow_add-group c = omega (arith, place_in_group c.args.k c.args.width)

pub returns : goal.returns
returns c =
    c.bits_of.ensures
    ∙ packed-in_group c.args.bytes.now (λ k. omega (arith, c.type_inv.bytes k)) c.args.k c.args.width c.word_at-word.result c.requires.width c.word_at-word.ensures
