use Rattle.std.proofs.Common.{[], rules}
use Rattle.lake_types.specs.declared.kind.Kind.TheVariants.{CreatedTable}
use Rattle.conflicts.specs.Search.{head_cmp}
use Rattle.conflicts.proofs.OrderLemmas.{before_place, heads_coarser}
use Rattle.conflicts.proofs.search.kinds_before_tables_in.Goals as goal

pub returns : goal.returns
returns c =
    before_place head_cmp heads_coarser (CreatedTable c.args.schema.now []) c.args.kinds.now _ c.requires c.partition_point.ensures.bound c.partition_point.ensures.partitioned (λ a r f k. search rules)
