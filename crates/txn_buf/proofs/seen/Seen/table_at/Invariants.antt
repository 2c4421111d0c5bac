use Rattle.std.proofs.Common.{◌≡◌, drop}
use Rattle.std.specs.Prelude.{find}
use Rattle.lake_model.specs.Apply.{is_ref}
use Rattle.txn_buf.specs.Drafts.{table_drafts}
use Rattle.txn_buf.proofs.seen.Seen.table_at.Given as goal

-- the tables that are left decide
abbrev pub invariant-loop-table : goal.invariant-loop-table
invariant-loop-table l = find (λ d. is_ref d.at l.at) (table_drafts l.self.tables.items) ≡ find (λ d. is_ref d.at l.at) (table_drafts (drop l.table-index l.self.tables.items))
