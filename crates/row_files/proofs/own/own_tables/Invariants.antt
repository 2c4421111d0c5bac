use Rattle.std.proofs.Common.{◌≤◌, Option, None, drop}
use Rattle.indexmap.specs.IndexMap.{get}
use Rattle.lake_model.specs.Apply.{is_ref}
use Rattle.lake_model.specs.declared.change.Ref.{Ref}
use Rattle.row_files.specs.Own.{ComesTo}
use Rattle.row_files.specs.declared.own.OwnTable.{OwnTable}
use Rattle.row_files.proofs.own.own_tables.Given as goal

-- what is kept in the end comes from what is kept now and from the changes left
abbrev pub invariant-loop-place : goal.invariant-loop-place
invariant-loop-place l = record {
  few : l.created ≤ l.place;
  comes : (last : Ref → Option OwnTable) → ComesTo l.place l.created (drop l.place l.own) (get is_ref l.tables) last → ComesTo 0 0 l.own (λ r. None) last;
}
