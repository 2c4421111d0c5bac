use Rattle.std.proofs.Common.{arith, rules}
use Rattle.std.specs.Option.{option_copied}
use Rattle.pq_file.proofs.PartLemmas.{parts_pass}
use Rattle.pq_file.proofs.groups.parts_in.Goals as goal

pub loop-place-preserved-then-not-is_wanted : goal.loop-place-preserved-then-not-is_wanted
loop-place-preserved-then-not-is_wanted c =
    parts_pass c.args.bytes.now (option_copied c.args.fields) c.args.number c.loop-place.place c.args.columns.now c.args.chunks.now c.index-columns-place.result c.loop-place.parts _
    (omega arith) (omega arith) (search rules) (cc) c.loop-place.invariant
