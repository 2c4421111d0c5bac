use Rattle.std.proofs.Common.{rules, ◌≡◌, Some, None}
use Rattle.cat_tables.specs.Table.{row_of}
use Rattle.cat_rows.specs.Batches.{tables_of}
use Rattle.cat_rows.specs.Keys.{scheduled_file_key}
use Rattle.cat_core.proofs.NameLemmas.{scheduled_some, unscheduled_none}
use Rattle.cat_core.proofs.names.is_unscheduled.Goals as goal

pub returns-in-Some : goal.returns-in-Some
returns-in-Some c =
    let rows = (tables_of c.args.rows.now).scheduled_file in
    let there : row_of scheduled_file_key c.args.name.now rows ≡ Some c.in-Some.field-0.now = search rules in
    scheduled_some c.args.name.now rows c.in-Some.field-0.now there

pub returns-in-None : goal.returns-in-None
returns-in-None c =
    let rows = (tables_of c.args.rows.now).scheduled_file in
    let there : row_of scheduled_file_key c.args.name.now rows ≡ None = search rules in
    unscheduled_none c.args.name.now rows there
