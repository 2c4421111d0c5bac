use Rattle.std.proofs.Common.{[], rules}
use Rattle.lake_types.specs.declared.kind.Kind.TheVariants.{DroppedSchema}
use Rattle.conflicts.specs.Search.{sort_cmp}
use Rattle.conflicts.proofs.OrderLemmas.{upto_place, sorts_coarser}
use Rattle.conflicts.proofs.search.kinds_upto_dropped_schemas.Goals as goal

pub returns-clause-count : goal.returns-clause-count
returns-clause-count c =
    upto_place sort_cmp sorts_coarser (DroppedSchema 0 []) c.args.kinds.now _ c.requires c.partition_point.ensures.bound c.partition_point.ensures.partitioned (λ a r f k. search rules)
