use Rattle.std.proofs.Common.{ℕ, ◌+◌, ◌<◌, drop}
use Rattle.std.specs.Prelude.{All}
use Rattle.lake_types.specs.declared.sheet.SheetColumn.{SheetColumn}
use Rattle.pq_file.specs.Writable.{OtherField}
use Rattle.std.proofs.Common.{get_or}
use Rattle.pq_file.proofs.limits.fields_differ.Given as goal

abbrev pub invariant-loop-at : goal.invariant-loop-at
invariant-loop-at l = (i : ℕ) (d : SheetColumn) → i < l.at → All (OtherField (get_or l.columns i d)) (drop (i + 1) l.columns)
