use Rattle.std.proofs.Common.{◌≡◌, length, take}
use Rattle.row_files.specs.Own.{own_rows}
use Rattle.row_files.proofs.fresh.row_count.Given as goal

abbrev pub invariant-loop-place : goal.invariant-loop-place
invariant-loop-place l = l.count ≡ length (own_rows l.own (take l.place-index l.places))
