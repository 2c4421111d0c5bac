use Rattle.std.proofs.Common.{◌≡◌, drop}
use Rattle.pq_meta.specs.Checks.{each}
use Rattle.pq_meta.specs.Groups.{chunk_of}
use Rattle.pq_meta.proofs.EachLemmas.{with_front}
use Rattle.pq_meta.proofs.groups.chunks_of.Given as goal

abbrev pub invariant-loop-draft : goal.invariant-loop-draft
invariant-loop-draft l = with_front l.chunks (each (chunk_of l.rows) (drop l.draft-index l.drafts)) ≡ each (chunk_of l.rows) l.drafts
