use Rattle.std.proofs.Common.{◌≡◌}
use Rattle.std.specs.Option.{option_copied}
use Rattle.pq_file.specs.Reading.{parts_in}
use Rattle.pq_file.proofs.PartLemmas.{parts_from, with_front}
use Rattle.pq_file.proofs.groups.parts_in.Given as goal

abbrev pub invariant-loop-place : goal.invariant-loop-place
invariant-loop-place l =
    with_front l.parts (parts_from l.bytes (option_copied l.fields) l.number l.place l.columns l.chunks) ≡ parts_in l.bytes (option_copied l.fields) l.number 0 l.columns l.chunks
