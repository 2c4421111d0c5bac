use Rattle.std.proofs.Common.{◌≡◌, drop}
use Rattle.pq_meta.specs.Checks.{each}
use Rattle.pq_meta.specs.Groups.{group_of}
use Rattle.pq_meta.proofs.EachLemmas.{with_front}
use Rattle.pq_meta.proofs.groups.groups_of.Given as goal

abbrev pub invariant-loop-draft : goal.invariant-loop-draft
invariant-loop-draft l = with_front l.groups (each (group_of l.columns) (drop l.draft-index l.drafts)) ≡ each (group_of l.columns) l.drafts
