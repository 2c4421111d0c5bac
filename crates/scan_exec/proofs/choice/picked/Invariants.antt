use Rattle.std.proofs.Common.{◌≡◌, ◌++◌, drop}
use Rattle.scan_exec.specs.Chosen.{picked}
use Rattle.scan_exec.proofs.choice.picked.Given as goal

-- the cells so far, and those of the fields that are left
abbrev pub invariant-loop-field : goal.invariant-loop-field
invariant-loop-field g l = l.told ++ picked (drop l.field-index l.fields) (g.C.Cells.cell l.cells) ≡ picked l.fields (g.C.Cells.cell l.cells)
