use Rattle.std.proofs.Common.{◌≡◌, length, ◌*◌, arith, ap}
use Rattle.pq_encodings.proofs.RunLemmas.{held}
use Rattle.pq_encodings.proofs.runs.packed.Goals as goal

pub push_packed-requires-clause-held : goal.push_packed-requires-clause-held
push_packed-requires-clause-held c =
    let size : c.args.groups * c.from.result ≡ c.args.groups * c.args.width = ap (λ w. c.args.groups * w) c.from.ensures in
    held c.min-count.result c.args.width c.args.groups (length c.args.body.now) (omega arith) (omega (arith, c.in-Some.ensures))
