use Rattle.std.proofs.Common.{◌≡◌, drop}
use Rattle.cat_view.specs.Views.{named_tables, table_at}
use Rattle.cat_view.proofs.version.find_table.Given as goal

-- the tables that are left decide
abbrev pub invariant-loop-table : goal.invariant-loop-table
invariant-loop-table g l =
    table_at (named_tables g.F.Held.name l.tables) l.id ≡ table_at (named_tables g.F.Held.name (drop l.table-index l.tables)) l.id
