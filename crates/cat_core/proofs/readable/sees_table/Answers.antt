use Rattle.std.proofs.Common.{rules, ◌≡◌, [], ◌∷◌, Some, None}
use Rattle.cat_tables.specs.Table.{RisesByKey, row_of}
use Rattle.cat_rows.specs.Batches.{tables_of}
use Rattle.cat_rows.specs.Keys.{table_key}
use Rattle.cat_core.proofs.ReadLemmas.{sees_none, sees_row}
use Rattle.cat_core.proofs.readable.sees_table.Goals as goal

pub returns-in-Some : goal.returns-in-Some
returns-in-Some c =
    let t = tables_of c.args.rows.now in
    let up : RisesByKey table_key t.table = search rules in
    let there : row_of table_key (c.args.table ∷ []) t.table ≡ Some c.in-Some.row.now = search rules in
    rw c.is_seen.ensures (sees_row t c.args.snapshot c.args.table up c.in-Some.row.now there)

pub returns-in-None : goal.returns-in-None
returns-in-None c =
    let t = tables_of c.args.rows.now in
    let up : RisesByKey table_key t.table = search rules in
    let there : row_of table_key (c.args.table ∷ []) t.table ≡ None = search rules in
    sees_none t c.args.snapshot c.args.table up there
