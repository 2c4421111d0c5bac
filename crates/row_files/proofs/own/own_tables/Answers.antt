use Rattle.std.proofs.Common.{rules}
use Rattle.indexmap.specs.IndexMap.{get}
use Rattle.lake_model.specs.Apply.{is_ref}
use Rattle.row_files.proofs.OwnLemmas.{came_to, next_few, next_place}
use Rattle.row_files.proofs.own.own_tables.Goals as goal

pub loop-place-preserved : goal.loop-place-preserved
loop-place-preserved c = record {
  few = next_few c.loop-place.created c.loop-place.place _ _ c.loop-place.invariant.few c.next_created-created.ensures;
  comes = next_place c.args.own.now c.loop-place.place c.loop-place.created _ _ (get is_ref c.loop-place.tables) (get is_ref c.note.new.tables) _ c.loop-place-test.true (search rules) c.in_ok-note.ensures c.next_created-created.ensures c.loop-place.invariant.comes;
}

pub returns : goal.returns
returns c = came_to c.args.own.now c.loop-place.place c.loop-place.created (get is_ref c.loop-place.tables) _ (search rules) c.loop-place.invariant.comes
