use Rattle.std.proofs.Common.{rules}
use Rattle.std.proofs.lemmas.Fn.{always_returns_same}
use Rattle.cat_tables.proofs.PlaceLemmas.{IsPartitionedBy-rises, prefix_len-partition}
use Rattle.inlined_rules.specs.Terms.{is_below, term_key}
use Rattle.inlined_rules.proofs.terms.count_below.Goals as goal

pub returns-clause-count : goal.returns-clause-count
returns-clause-count c =
    let below = is_below c.args.limit.now in
    prefix_len-partition below c.args.terms.now c.partition_point.result c.partition_point.ensures.bound
    (c.partition_point.ensures.partitioned below (always_returns_same _ _ _ (λ a r f h. search rules)) (IsPartitionedBy-rises term_key c.args.limit.now c.args.terms.now c.requires))
