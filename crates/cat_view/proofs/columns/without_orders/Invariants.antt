use Rattle.std.proofs.Common.{◌≡◌, ◌++◌}
use Rattle.std.specs.Vec.Iter.{into_iter_items}
use Rattle.cat_view.specs.Columns.{columns_in}
use Rattle.cat_view.proofs.columns.without_orders.Given as goal

-- the columns so far, and those that are still to come
abbrev pub invariant-loop-column : goal.invariant-loop-column
invariant-loop-column l = l.columns ++ columns_in (into_iter_items l.column-iterator) ≡ columns_in l.fn.placed.items
