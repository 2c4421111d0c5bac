use Rattle.std.proofs.Common.{◌/◌, ◌%◌, ◌+◌, ◌-◌, ◌++◌, ◌∷◌, [], ap, ◌∙◌, sym, append_assoc, arith}
use Rattle.pq_encodings.specs.Varint.{varint_bytes}
use Rattle.pq_encodings.proofs.VarintLemmas.{varint_bytes-more, smaller}
use Rattle.pq_encodings.proofs.varint.+push_varint.Goals as goal

pub push_varint-requires : goal.push_varint-requires
push_varint-requires t c = (omega arith, (omega arith, smaller c.args.most c.args.number (omega arith) c.requires.fits))

pub returns-in-Ok : goal.returns-in-Ok
returns-in-Ok t c =
    c.in-Ok.ensures
    ∙ ap (λ xs. xs ++ varint_bytes (c.args.most - 1) (c.args.number / 128)) c.in_ok-push-2.ensures.items
    ∙ append_assoc c.args.out.now.items ((c.args.number % 128 + 128) ∷ []) (varint_bytes (c.args.most - 1) (c.args.number / 128))
    ∙ ap (λ ys. c.args.out.now.items ++ ys) (sym (varint_bytes-more c.args.most c.args.number (omega arith) (omega arith)))
