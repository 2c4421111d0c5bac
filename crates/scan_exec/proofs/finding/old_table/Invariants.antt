use Rattle.std.proofs.Common.{◌≡◌, drop}
use Rattle.cat_view.specs.Views.{named_tables}
use Rattle.scan_exec.specs.Finding.{old_table}
use Rattle.scan_exec.proofs.finding.old_table.Given as goal

-- the tables that are left decide
abbrev pub invariant-loop-table : goal.invariant-loop-table
invariant-loop-table g l = old_table l.own (named_tables g.F.Held.name l.tables) l.schema l.name
    ≡ old_table l.own (named_tables g.F.Held.name (drop l.table-index l.tables)) l.schema l.name
