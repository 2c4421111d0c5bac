use Rattle.std.proofs.Common.{◌≡◌, ◌++◌, drop, map}
use Rattle.std.specs.Arc.{arc_value}
use Rattle.scan_exec.specs.Picking.{short_rows}
use Rattle.scan_exec.proofs.rows.push_inlined.Given as goal

-- the rows so far, and what is told of those that are left
abbrev pub invariant-loop-row : goal.invariant-loop-row
invariant-loop-row l = l.rows ++ short_rows l.choice.bound l.choice.fields.items (drop l.row-index (map (λ r. arc_value r) l.inlined))
    ≡ l.fn.rows ++ short_rows l.choice.bound l.choice.fields.items (map (λ r. arc_value r) l.inlined)
