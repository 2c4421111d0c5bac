use Rattle.std.proofs.Common.{◌≡◌, false, true, arith}
use Rattle.std.specs.Str.{IsUtf8}
use Rattle.std.proofs.lemmas.Grind.{common_steps}
use Rattle.std.specs.Vec.Iter.{into_iter_items}
use Rattle.pq_file.specs.Cells.{text_of}
use Rattle.pq_file.proofs.TextLemmas.{begin_all, begin_cells, first_utf8, next_all}
use Rattle.pq_file.proofs.cells.texts_of.Goals as goal

pub unreachable-requires : goal.unreachable-requires
unreachable-requires c =
    let is_text : IsUtf8 c.in-Some.bytes.items = first_utf8 (into_iter_items c.loop-bytes.bytes-iterator) (into_iter_items c.next.new.self) c.in-Some.bytes c.in-Some.ensures.steps.0 c.loop-bytes.invariant.0 in
    let clash : false ≡ true = c.in_default.ensures.succeeds is_text in
    cc

pub loop-bytes-init : goal.loop-bytes-init
loop-bytes-init c = (
  begin_all _ _ _ c.requires c.into_vec-strings.ensures c.into_iter-bytes-iterator.ensures.into_iter_gives.0,
  begin_cells text_of _ _ _ _ c.in_ok-cells.ensures c.into_vec-strings.ensures c.into_iter-bytes-iterator.ensures.into_iter_gives.0,
)

pub loop-bytes-preserved : goal.loop-bytes-preserved
loop-bytes-preserved c = (
  next_all (into_iter_items c.loop-bytes.bytes-iterator) (into_iter_items c.next.new.self) c.in-Some.bytes c.in-Some.ensures.steps.0 c.loop-bytes.invariant.0,
  grind (arith, common_steps),
)
