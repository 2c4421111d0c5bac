use Rattle.std.proofs.Common.{◌≤◌, ◌-◌, [], take, drop, ap₂, ◌∙◌, arith}
use Rattle.lake_types.specs.declared.kind.Kind.TheVariants.{DroppedSchema}
use Rattle.conflicts.specs.Search.{sort_cmp}
use Rattle.conflicts.proofs.OrderLemmas.{range, range_within, sorts_coarser}
use Rattle.conflicts.proofs.search.dropped_schemas.Goals as goal

within : (c : goal.After-kinds_upto_dropped_schemas-to) → c.kinds_before_dropped_schemas-from.result ≤ c.kinds_upto_dropped_schemas-to.result
within c =
    omega (arith, c.kinds_before_dropped_schemas-from.ensures.count, c.kinds_upto_dropped_schemas-to.ensures.count, range_within sort_cmp sorts_coarser (DroppedSchema 0 []) c.args.kinds.now)

pub slice_bounds-result-count : goal.slice_bounds-result-count
slice_bounds-result-count c = within c

pub slice_bounds-result-start : goal.slice_bounds-result-start
slice_bounds-result-start c = within c

pub returns : goal.returns
returns c =
    ap₂ (λ from to. take (to - from) (drop from c.args.kinds.now)) c.kinds_before_dropped_schemas-from.ensures.count c.kinds_upto_dropped_schemas-to.ensures.count
    ∙ range sort_cmp sorts_coarser (DroppedSchema 0 []) c.args.kinds.now c.requires
