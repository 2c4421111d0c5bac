use Rattle.std.proofs.Common.{◌≡◌, ◌++◌, true, drop, length}
use Rattle.sheet_rows.specs.Live.{left_from, rise_within}
use Rattle.sheet_rows.specs.Rows.{places_of}
use Rattle.sheet_rows.proofs.places.left_of.Given as goal

-- what is left so far, and of the places that are still to come
abbrev pub invariant-loop-at : goal.invariant-loop-at
invariant-loop-at l = record {
  same : l.left ++ left_from l.at l.rest (drop l.at (places_of l.kept l.rows)) ≡ left_from 0 l.gone (places_of l.kept l.rows);
  rises : rise_within l.at (length (places_of l.kept l.rows)) l.rest ≡ true;
}
