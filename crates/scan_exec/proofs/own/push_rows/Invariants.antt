use Rattle.std.proofs.Common.{◌≡◌, ◌++◌, ◌+◌, drop}
use Rattle.scan_exec.specs.Own.{own_rows, refs_told, rows_told}
use Rattle.scan_exec.proofs.own.push_rows.Given as goal

-- what is told so far, and of the rows that are left
abbrev pub invariant-loop-cells : goal.invariant-loop-cells
invariant-loop-cells l = record {
  rows : l.told.rows ++ rows_told l.choice.bound l.choice.fields.items (own_rows l.home.columns.now l.home.next_row l.told.place (drop l.cells-index l.rows))
      ≡ l.fn.told.rows ++ rows_told l.choice.bound l.choice.fields.items (own_rows l.home.columns.now l.home.next_row l.fn.told.place l.rows);
  refs : l.told.refs.items ++ refs_told l.choice.bound (own_rows l.home.columns.now l.home.next_row l.told.place (drop l.cells-index l.rows))
      ≡ l.fn.told.refs.items ++ refs_told l.choice.bound (own_rows l.home.columns.now l.home.next_row l.fn.told.place l.rows);
  place : l.told.place ≡ l.fn.told.place + l.cells-index;
}
