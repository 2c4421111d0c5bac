use Rattle.std.proofs.Common.{◌≡◌, drop}
use Rattle.cat_view.specs.Views.{named_tables, table_id}
use Rattle.cat_view.proofs.version.find_named.Given as goal

-- the tables that are left decide
abbrev pub invariant-loop-table : goal.invariant-loop-table
invariant-loop-table g l =
    table_id (named_tables g.F.Held.name l.tables) l.schema l.name ≡ table_id (named_tables g.F.Held.name (drop l.table-index l.tables)) l.schema l.name
