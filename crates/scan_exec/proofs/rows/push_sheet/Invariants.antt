use Rattle.std.proofs.Common.{◌≡◌, ◌++◌, drop}
use Rattle.scan_exec.specs.Picking.{short_rows}
use Rattle.scan_exec.proofs.rows.push_sheet.Given as goal

-- the rows so far, and what is told of those that are left
abbrev pub invariant-loop-at : goal.invariant-loop-at
invariant-loop-at l = l.rows ++ short_rows l.choice.bound l.choice.fields.items (drop l.at l.sheet)
    ≡ l.fn.rows ++ short_rows l.choice.bound l.choice.fields.items l.sheet
