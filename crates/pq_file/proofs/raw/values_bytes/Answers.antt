use Rattle.pq_file.proofs.HeldLemmas.{values_spelled}
use Rattle.pq_file.proofs.raw.values_bytes.Goals as goal

pub returns-in_default : goal.returns-in_default
returns-in_default c = record {
  bytes = rw (← values_spelled c.args.ty c.args.cells.now c.in_default.not-Bool) c.cells_bytes.ensures.bytes;
  texts = c.cells_bytes.ensures.texts;
}
