use Rattle.std.proofs.Common.{◌≡◌, ◌++◌, drop, map}
use Rattle.lake_types.specs.declared.value.Row.{Row}
use Rattle.lake_model.specs.declared.change.RowRef.TheVariants as row_ref
use Rattle.scan_exec.proofs.telling.old_refs.Given as goal

-- the references so far, and those of the rows that are left
abbrev pub invariant-loop-row : goal.invariant-loop-row
invariant-loop-row l = l.refs.items ++ map (λ (r : Row). row_ref.Old r.id) (drop l.row-index l.rows) ≡ map (λ (r : Row). row_ref.Old r.id) l.rows
