use Rattle.pq_encodings.proofs.PlainLemmas.{each_is_short}
use Rattle.pq_encodings.proofs.plain.plain_bytes.Goals as goal

pub string_bytes-requires : goal.string_bytes-requires
string_bytes-requires c = each_is_short c.as_slice.result.now c.in-Strings.lists c.as_slice.ensures (rw c.in-Strings.is at c.requires)
