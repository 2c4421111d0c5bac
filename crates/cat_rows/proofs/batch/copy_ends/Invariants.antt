use Rattle.std.proofs.Common.{◌≡◌, take}
use Rattle.cat_rows.proofs.batch.copy_ends.Given as goal

abbrev pub invariant-loop-key : goal.invariant-loop-key
invariant-loop-key l = l.copy ≡ take l.key-index l.ends
