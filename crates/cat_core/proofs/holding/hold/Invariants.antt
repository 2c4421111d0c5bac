use Rattle.std.proofs.Common.{◌≤◌, ℕ, List, Option, length}
use Rattle.std.specs.Vec.Iter.{into_iter_items}
use Rattle.lake_model.specs.History.{CarriedFile}
use Rattle.cat_view.specs.Held.{held_in}
use Rattle.cat_core.specs.Commits.{HoldsMore}
use Rattle.cat_core.specs.Holding.{Rests, files_of}
use Rattle.cat_core.specs.Shown.{held_at}
use Rattle.cat_core.proofs.holding.hold.Given as goal

-- the files that are still to come have room and names of their own, and once they are held all are
abbrev pub invariant-loop-table : goal.invariant-loop-table
invariant-loop-table g l = record {
  room : length (into_iter_items l.table-iterator) ≤ (held_in l.held).room;
  rests : Rests g.F.Held.name g.F.Held.size (held_at g.F.Held.name g.F.Held.size g.F.Held.bytes l.held) (into_iter_items l.table-iterator);
  more : (later : List ℕ → Option CarriedFile)
      → HoldsMore (files_of g.F.Held.name g.F.Held.size g.F.Held.bytes (into_iter_items l.table-iterator)) (held_at g.F.Held.name g.F.Held.size g.F.Held.bytes l.held) later
      → HoldsMore (files_of g.F.Held.name g.F.Held.size g.F.Held.bytes l.fn.staged.tables.items) (held_at g.F.Held.name g.F.Held.size g.F.Held.bytes l.fn.held) later;
}
