use Rattle.std.proofs.Common.{◌≡◌, take}
use Rattle.std.specs.Prelude.{fold}
use Rattle.cat_rows.specs.Batches.{KeepsRoom, tables_of, ended}
use Rattle.cat_rows.proofs.content.CatRows.end_all.Given as goal

abbrev pub invariant-loop-key : goal.invariant-loop-key
invariant-loop-key l = record {
  rows : tables_of l.self ≡ fold ended (tables_of l.fn.self) (take l.key-index l.ends);
  room : KeepsRoom l.fn.self l.self;
}
