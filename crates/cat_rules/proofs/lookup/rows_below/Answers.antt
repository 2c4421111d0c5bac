use Rattle.std.proofs.Common.{[], ◌∷◌, is_lt, rules}
use Rattle.std.proofs.lemmas.Fn.{always_returns_same}
use Rattle.cat_tables.specs.Table.{key_cmp}
use Rattle.cat_tables.proofs.PlaceLemmas.{prefix_len-partition}
use Rattle.cat_rules.specs.Lookups.{column_of}
use Rattle.cat_rules.proofs.LookupLemmas.{parted_below, columns_rise}
use Rattle.cat_rules.proofs.lookup.rows_below.Goals as goal

pub returns-clause-count : goal.returns-clause-count
returns-clause-count c =
    let k = c.args.table ∷ c.args.column ∷ [] in
    prefix_len-partition (λ r. is_lt (key_cmp (column_of r) k)) c.args.rows.now c.partition_point.result c.partition_point.ensures.bound
    (c.partition_point.ensures.partitioned (λ r. is_lt (key_cmp (column_of r) k)) (always_returns_same _ _ _ (λ a r f h. search rules)) (parted_below column_of k c.args.rows.now (columns_rise c.args.rows.now c.requires)))
