use Rattle.std.proofs.Common.{rules}
use Rattle.lake_types.specs.Kinds.{kind_cmp}
use Rattle.conflicts.proofs.OrderLemmas.{before_place, kinds_coarser}
use Rattle.conflicts.proofs.search.kinds_before.Goals as goal

pub returns : goal.returns
returns c =
    before_place kind_cmp kinds_coarser c.args.kind.now c.args.kinds.now _ c.requires c.partition_point.ensures.bound c.partition_point.ensures.partitioned (λ a r f k. search rules)
