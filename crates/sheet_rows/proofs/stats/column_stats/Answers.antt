use Rattle.std.proofs.Common.{get_or, sym, subst, arith}
use Rattle.lake_types.specs.declared.sheet.SheetColumn.{SheetColumn}
use Rattle.lake_types.specs.declared.value.Column.{Column}
use Rattle.sheet_rows.specs.Sheets.{AreCounts, IsColumnOf}
use Rattle.sheet_rows.proofs.CountLemmas.{zip_at, zip_length, zip_more}
use Rattle.sheet_rows.proofs.stats.column_stats.Goals as goal

pub bounds-columns-at : goal.bounds-columns-at
bounds-columns-at c = omega (arith, zip_length IsColumnOf c.args.columns.now c.args.sheet.now c.requires, c.loop-at-test.true)

pub counts_of-requires : goal.counts_of-requires
counts_of-requires c =
    let column = c.index-columns-at.result in
    let laid = c.index-sheet-at.result in
    let both = zip_at IsColumnOf c.args.columns.now c.args.sheet.now c.loop-at.at column laid c.requires c.loop-at-test.true in
    let one : IsColumnOf column (get_or c.args.sheet.now c.loop-at.at laid) = subst (λ (x : Column). IsColumnOf x (get_or c.args.sheet.now c.loop-at.at laid)) (sym c.index-columns-at.is) both in
    subst (λ (y : SheetColumn). IsColumnOf column y) (sym c.index-sheet-at.is) one

pub loop-at-preserved : goal.loop-at-preserved
loop-at-preserved c =
    zip_more AreCounts c.args.sheet.now c.loop-at.stats.items c.push.new.self.items c.loop-at.at c.index-sheet-at.result c.in_ok-counted.counted c.loop-at-test.true c.index-sheet-at.is c.loop-at.invariant
    c.in_ok-counted.ensures c.in_ok-push.ensures.items
