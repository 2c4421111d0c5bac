use Rattle.std.proofs.Common.{◌≡◌, ◌++◌, ℕ, List, Vec, Global}
use Rattle.std.proofs.lemmas.Result.{IfOk-weaker}
use Rattle.pq_encodings.specs.Values.{AreInRange, IsReadAgain, value_bytes, values_of}
use Rattle.pq_encodings.proofs.RoundTripLemmas.{values_in-bytes}
use Rattle.pq_encodings.proofs.plain.encode_plain.Goals as goal

pub returns-clause-again : goal.returns-clause-again
returns-clause-again c =
    let vs = values_of c.args.values.now in
    IfOk-weaker c.plain_bytes.result (λ (v : Vec ℕ Global). v.items ≡ value_bytes vs)
    (λ (v : Vec ℕ Global). (rest : List ℕ) → AreInRange vs → IsReadAgain vs (v.items ++ rest))
    (λ v spelled rest fits. rw spelled (values_in-bytes vs rest c.requires fits)) c.plain_bytes.ensures
