use Rattle.std.proofs.Common.{◌≡◌, ◌++◌, drop}
use Rattle.lake_model.specs.Apply.{fields_from}
use Rattle.scan_exec.proofs.aim.made_columns.Given as goal

-- the columns so far, and those that are left
abbrev pub invariant-loop-column : goal.invariant-loop-column
invariant-loop-column l = l.made ++ fields_from l.field (drop l.column-index l.columns) ≡ fields_from 1 l.columns
