use Rattle.std.proofs.Common.{length}
use Rattle.std.specs.Str.{IsUtf8}
use Rattle.cat_changes.proofs.ListLemmas.{IsAt}
use Rattle.cat_changes.proofs.reading.kinds_of.Given as goal

abbrev pub invariant-loop-kinds : goal.invariant-loop-kinds
invariant-loop-kinds l = IsAt l.text l.kinds.items l.rest × IsUtf8 l.rest

abbrev pub decreases-loop-kinds : goal.decreases-loop-kinds
decreases-loop-kinds l = length l.rest
