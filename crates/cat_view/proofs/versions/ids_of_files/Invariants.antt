use Rattle.std.proofs.Common.{◌≡◌, take}
use Rattle.cat_view.specs.LiveFiles.{file_ids}
use Rattle.cat_view.proofs.versions.ids_of_files.Given as goal

abbrev pub invariant-loop-row : goal.invariant-loop-row
invariant-loop-row l = l.ids.items ≡ file_ids (take l.row-index l.rows)
