use Rattle.std.proofs.Common.{arith}
use Rattle.std.proofs.lemmas.Grind.{common_steps}
use Rattle.pq_file.specs.Writable.{HasText}
use Rattle.pq_file.proofs.HeldLemmas.{one_more}
use Rattle.pq_file.proofs.raw.cells_bytes.Goals as goal

pub loop-cell-preserved : goal.loop-cell-preserved
loop-cell-preserved c = (
  grind (arith, common_steps),
  λ is. one_more HasText c.args.cells.now c.loop-cell.cell-index c.cell-item.result c.loop-cell-test.true c.cell-item.is (c.loop-cell.invariant.1 is) (c.push_cell.ensures.text is),
)
