use Rattle.std.proofs.Common.{◌≡◌, ◌++◌, drop}
use Rattle.lake_model.specs.Growth.{rows_for}
use Rattle.scan_exec.specs.Own.{own_rows, refs_told, rows_told}
use Rattle.scan_exec.proofs.own.push_own.Given as goal

-- what is told so far, and of the changes that are left
abbrev pub invariant-loop-change : goal.invariant-loop-change
invariant-loop-change l = record {
  rows : l.told.rows ++ rows_told l.choice.bound l.choice.fields.items (own_rows l.home.columns.now l.home.next_row l.told.place (rows_for l.home.table (drop l.change-index l.own)))
      ≡ l.fn.told.rows ++ rows_told l.choice.bound l.choice.fields.items (own_rows l.home.columns.now l.home.next_row l.fn.told.place (rows_for l.home.table l.own));
  refs : l.told.refs.items ++ refs_told l.choice.bound (own_rows l.home.columns.now l.home.next_row l.told.place (rows_for l.home.table (drop l.change-index l.own)))
      ≡ l.fn.told.refs.items ++ refs_told l.choice.bound (own_rows l.home.columns.now l.home.next_row l.fn.told.place (rows_for l.home.table l.own));
}
