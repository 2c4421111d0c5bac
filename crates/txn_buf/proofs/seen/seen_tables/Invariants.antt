use Rattle.std.proofs.Common.{◌≡◌, ◌++◌, drop, map}
use Rattle.cat_view.specs.Views.{named_tables}
use Rattle.txn_buf.specs.Drafts.{begun_table, table_drafts}
use Rattle.txn_buf.proofs.seen.seen_tables.Given as goal

-- those so far, and those that are left
abbrev pub invariant-loop-table : goal.invariant-loop-table
invariant-loop-table g l =
    table_drafts l.seen.items ++ map begun_table (named_tables g.F.Held.name (drop l.table-index l.tables)) ≡ map begun_table (named_tables g.F.Held.name l.tables)
