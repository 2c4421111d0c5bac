use Rattle.std.proofs.Common.{◌≡◌, Some}
use Rattle.pq_encodings.specs.Indices.{bad_index}
use Rattle.pq_encodings.proofs.IndexLemmas.{refused}
use Rattle.pq_encodings.proofs.indices.checked.Goals as goal

pub returns-in-Err-clause-gives : goal.returns-in-Err-clause-gives
returns-in-Err-clause-gives c = λ r h.
    let bad : bad_index c.args.size 0 c.args.indices.items ≡ Some c.in-Err.e = rw (← c.deref.ensures.value) c.in-Err.ensures in
    refused c.args.size c.args.indices.items c.args.read c.in-Err.e r h bad
