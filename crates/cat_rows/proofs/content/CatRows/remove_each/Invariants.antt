use Rattle.std.proofs.Common.{◌≡◌, take}
use Rattle.std.specs.Prelude.{fold}
use Rattle.cat_rows.specs.Batches.{KeepsRoom, tables_of, removed}
use Rattle.cat_rows.proofs.content.CatRows.remove_each.Given as goal

abbrev pub invariant-loop-key : goal.invariant-loop-key
invariant-loop-key l = record {
  rows : tables_of l.self ≡ fold removed (tables_of l.fn.self) (take l.key-index l.keys);
  room : KeepsRoom l.fn.self l.self;
}
