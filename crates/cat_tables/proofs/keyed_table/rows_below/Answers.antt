use Rattle.std.proofs.Common.{is_lt, rules}
use Rattle.std.proofs.lemmas.List.Sorted.{IsPartitionPoint-from_clause}
use Rattle.cat_tables.specs.Table.{key_cmp}
use Rattle.cat_tables.proofs.PlaceLemmas.{prefix_len-partition, IsPartitionedBy-rises}
use Rattle.cat_tables.proofs.keyed_table.rows_below.Goals as goal

pub returns-clause-count : goal.returns-clause-count
returns-clause-count g c =
    let key = g.R.Keyed.key in
    let rows = c.args.rows.now in
    let p = λ (r : g.row.R.Denot). is_lt (key_cmp (key r) (key c.args.row.now)) in
    prefix_len-partition p rows _ c.partition_point.ensures.bound
    (IsPartitionPoint-from_clause p rows _ c.partition_point.ensures.partitioned (IsPartitionedBy-rises key (key c.args.row.now) rows c.requires) (λ a r f k. search rules))
