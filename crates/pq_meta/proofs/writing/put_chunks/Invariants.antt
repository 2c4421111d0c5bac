use Rattle.std.proofs.Common.{◌≡◌, ◌++◌, drop}
use Rattle.pq_meta.specs.Spelling.{chunks_bytes}
use Rattle.pq_meta.proofs.writing.put_chunks.Given as goal

abbrev pub invariant-loop-i : goal.invariant-loop-i
invariant-loop-i l = l.writer ++ chunks_bytes (drop l.i l.columns) (drop l.i l.chunks) ≡ l.fn.writer ++ chunks_bytes l.columns l.chunks
