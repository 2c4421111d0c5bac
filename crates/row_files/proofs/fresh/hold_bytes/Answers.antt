use Rattle.std.proofs.Common.{subst}
use Rattle.std.proofs.lemmas.List.Elements.{All-more}
use Rattle.lake_types.specs.Texts.{HoldsBytes}
use Rattle.row_files.proofs.fresh.hold_bytes.Goals as goal

pub loop-cell-preserved : goal.loop-cell-preserved
loop-cell-preserved c =
    All-more HoldsBytes c.args.cells.now c.loop-cell.cell-index c.cell-item.result c.loop-cell-test.true c.loop-cell.invariant (subst HoldsBytes c.cell-item.is c.holds_bytes.ensures)
