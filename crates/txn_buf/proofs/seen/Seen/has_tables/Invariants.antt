use Rattle.std.proofs.Common.{◌≡◌, drop}
use Rattle.std.specs.List.{list_any}
use Rattle.lake_model.specs.Apply.{is_ref}
use Rattle.txn_buf.specs.Drafts.{table_drafts}
use Rattle.txn_buf.proofs.seen.Seen.has_tables.Given as goal

-- the tables that are left decide
abbrev pub invariant-loop-table : goal.invariant-loop-table
invariant-loop-table l =
    list_any (λ d. is_ref d.schema l.schema) (table_drafts l.self.tables.items) ≡ list_any (λ d. is_ref d.schema l.schema) (table_drafts (drop l.table-index l.self.tables.items))
