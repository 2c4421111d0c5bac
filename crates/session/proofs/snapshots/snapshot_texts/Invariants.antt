use Rattle.std.proofs.Common.{◌≡◌, map, take}
use Rattle.lake_model.specs.Step.{snapshot_text}
use Rattle.session.proofs.snapshots.snapshot_texts.Given as goal

abbrev pub invariant-loop-row : goal.invariant-loop-row
invariant-loop-row l = l.texts ≡ map snapshot_text (take l.row-index l.rows)
