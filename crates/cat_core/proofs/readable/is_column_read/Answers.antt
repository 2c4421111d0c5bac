use Rattle.std.proofs.Common.{rules, ◌≡◌, true}
use Rattle.cat_tables.specs.Validity.{is_visible}
use Rattle.cat_rows.specs.Batches.{tables_of}
use Rattle.cat_rows.specs.Seen.{seen_at}
use Rattle.cat_rows.specs.Validities.{column_validity}
use Rattle.cat_rules.specs.EachKept.{SeesTable}
use Rattle.cat_view.specs.Columns.{SpellsColumn}
use Rattle.cat_core.proofs.ReadLemmas.{where_both}
use Rattle.cat_core.proofs.readable.is_column_read.Goals as goal

pub returns : goal.returns
returns c =
    let seen : is_visible column_validity c.args.snapshot c.args.row.now ≡ true = search rules in
    let sees : SeesTable (seen_at c.args.snapshot (tables_of c.args.rows.now)) c.args.row.now.table_id = search rules in
    where_both (SpellsColumn c.args.row.now) c.spells_column.result seen sees c.spells_column.ensures
