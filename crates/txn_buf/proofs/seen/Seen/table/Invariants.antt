use Rattle.std.proofs.Common.{◌≡◌, drop}
use Rattle.std.specs.Prelude.{◌&&◌, find}
use Rattle.lake_model.specs.Apply.{is_ref}
use Rattle.lake_model.specs.Clashes.{same_name}
use Rattle.txn_buf.specs.Drafts.{table_drafts}
use Rattle.txn_buf.proofs.seen.Seen.table.Given as goal

-- the tables that are left decide
abbrev pub invariant-loop-table : goal.invariant-loop-table
invariant-loop-table l =
    find (λ d. is_ref d.schema l.schema && same_name d.name l.name) (table_drafts l.self.tables.items)
    ≡ find (λ d. is_ref d.schema l.schema && same_name d.name l.name) (table_drafts (drop l.table-index l.self.tables.items))
