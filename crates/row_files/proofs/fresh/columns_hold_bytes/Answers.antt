use Rattle.std.proofs.Common.{All, subst}
use Rattle.std.proofs.lemmas.List.Elements.{All-more}
use Rattle.lake_types.specs.Texts.{HoldsBytes}
use Rattle.lake_types.specs.declared.sheet.SheetColumn.{SheetColumn}
use Rattle.row_files.proofs.fresh.columns_hold_bytes.Goals as goal

pub loop-column-preserved : goal.loop-column-preserved
loop-column-preserved c =
    let Holds : SheetColumn → Type 0 = λ x. All HoldsBytes x.cells in
    All-more Holds c.args.columns.now c.loop-column.column-index c.column-item.result c.loop-column-test.true c.loop-column.invariant
    (subst Holds c.column-item.is (subst (All HoldsBytes) c.as_slice.ensures c.hold_bytes.ensures))
