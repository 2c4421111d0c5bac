use Rattle.std.proofs.Common.{◌≡◌, ◌≤◌, ◌+◌, length}
use Rattle.lake_model.specs.Apply.{is_created_table, place_of}
use Rattle.lake_model.specs.declared.change.Ref.TheVariants.{New}
use Rattle.rebase.specs.Made.{creations_of}
use Rattle.rebase.proofs.creations.table_id.Given as goal

abbrev pub invariant-loop-rest : goal.invariant-loop-rest
invariant-loop-rest l = record {
  place : l.id + place_of (is_created_table (New l.place)) (creations_of l.rest) ≡ l.next + place_of (is_created_table (New l.place)) (creations_of l.made);
  room : l.id + length l.rest ≤ l.next + length l.made;
}

abbrev pub decreases-loop-rest : goal.decreases-loop-rest
decreases-loop-rest l = length l.rest
