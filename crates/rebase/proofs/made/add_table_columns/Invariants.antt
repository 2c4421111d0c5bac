use Rattle.std.proofs.Common.{◌≡◌, ◌+◌, ◌++◌, length}
use Rattle.std.specs.List.{AllByRecursion}
use Rattle.lake_model.specs.Apply.{fields_from}
use Rattle.cat_texts.specs.Written.{FitDefaults}
use Rattle.rebase.specs.Made as spec
use Rattle.rebase.specs.Parts as parts
use Rattle.rebase.proofs.made.add_table_columns.Given as goal

abbrev pub invariant-loop-rest : goal.invariant-loop-rest
invariant-loop-rest l = record {
  to_come : l.adds.items ++ spec.column_adds (parts.column_rows_from l.table l.begin l.order (fields_from (l.order + 1) l.rest)) ≡ l.fn.adds.items ++ spec.column_adds (parts.column_rows_from l.table l.begin 0 (fields_from 1 l.columns));
  fit : AllByRecursion FitDefaults l.rest;
}

abbrev pub decreases-loop-rest : goal.decreases-loop-rest
decreases-loop-rest l = length l.rest
