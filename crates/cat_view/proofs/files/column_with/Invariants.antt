use Rattle.std.proofs.Common.{◌≡◌, drop}
use Rattle.cat_view.specs.Stats.{column_with}
use Rattle.cat_view.proofs.files.column_with.Given as goal

-- the columns that are left decide
abbrev pub invariant-loop-column : goal.invariant-loop-column
invariant-loop-column l = column_with l.columns l.field ≡ column_with (drop l.column-index l.columns) l.field
