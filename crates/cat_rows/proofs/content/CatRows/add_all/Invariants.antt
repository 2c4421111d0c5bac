use Rattle.std.proofs.Common.{◌≡◌}
use Rattle.std.specs.Prelude.{fold}
use Rattle.std.specs.Vec.Iter.{into_iter_items}
use Rattle.cat_rows.specs.Batches.{tables_of, added, Covers}
use Rattle.cat_rows.specs.Steps.{AreFresh}
use Rattle.cat_rows.proofs.content.CatRows.add_all.Given as goal

-- the rows that are still to come fit in, and adding them gives the end
abbrev pub invariant-loop-row : goal.invariant-loop-row
invariant-loop-row l = record {
  room : Covers l.self (into_iter_items l.row-iterator);
  fresh : AreFresh (tables_of l.self) (into_iter_items l.row-iterator);
  same : fold added (tables_of l.self) (into_iter_items l.row-iterator) ≡ fold added (tables_of l.fn.self) l.fn.rows.items;
}
