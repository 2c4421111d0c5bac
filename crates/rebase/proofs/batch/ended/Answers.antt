use Rattle.std.proofs.Common.{◌==◌, [], ℕ, Bool}
use Rattle.indexmap.specs.IndexSet.{contains}
use Rattle.lake_model.specs.Kinds.{drops_schema, drops_table}
use Rattle.lake_model.specs.declared.change.Ref.TheVariants as ref
use Rattle.cat_rows.specs.Validities as validities
use Rattle.cat_rows.specs.declared.files.DataFileRow.{DataFileRow}
use Rattle.cat_rows.specs.declared.files.DeleteFileRow.{DeleteFileRow}
use Rattle.cat_rows.specs.declared.inlined.InlinedRow.{InlinedRow}
use Rattle.cat_rows.specs.declared.schemas.ColumnRow.{ColumnRow}
use Rattle.cat_rows.specs.declared.schemas.SchemaRow.{SchemaRow}
use Rattle.cat_rows.specs.declared.schemas.TableRow.{TableRow}
use Rattle.rebase.specs.Ends.{column_named, data_file_named, delete_file_named, inlined_named, schema_named, table_named}
use Rattle.rebase.proofs.EndLemmas.{one_ended}
use Rattle.rebase.proofs.batch.ended.Goals as goal

pub returns : goal.returns
returns c =
    let own = c.args.own.now in
    let at = c.args.at in
    let dropped = c.in_ok-dropped.dropped in
    let schemas : ℕ → Bool = λ id. drops_schema own (ref.Old id) in
    let tables : ℕ → Bool = λ id. drops_table own (ref.Old id) in
    let has = c.in_ok-dropped.ensures in
    let one = one_ended validities.schema_validity schema_named (λ (r : SchemaRow). r.schema_id) at (contains ◌==◌ dropped.schemas) schemas _ _ _ _ [] has.schemas c.in_ok-end_rows.ensures c.schema.ensures.rows c.new-ends.ensures.items in
    let two = one_ended validities.table_validity table_named (λ (r : TableRow). r.table_id) at (contains ◌==◌ dropped.tables) tables _ _ _ _ _ has.tables c.in_ok-end_rows-2.ensures c.table.ensures.rows one in
    let three = one_ended validities.column_validity column_named (λ (r : ColumnRow). r.table_id) at (contains ◌==◌ dropped.tables) tables _ _ _ _ _ has.tables c.in_ok-end_rows-3.ensures c.column.ensures.rows two in
    let four = one_ended validities.data_file_validity data_file_named (λ (r : DataFileRow). r.table_id) at (contains ◌==◌ dropped.tables) tables _ _ _ _ _ has.tables c.in_ok-end_rows-4.ensures c.data_file.ensures.rows three in
    let five = one_ended validities.delete_file_validity delete_file_named (λ (r : DeleteFileRow). r.table_id) at (contains ◌==◌ dropped.tables) tables _ _ _ _ _ has.tables c.in_ok-end_rows-5.ensures c.delete_file.ensures.rows four in
    one_ended validities.inlined_row_validity inlined_named (λ (r : InlinedRow). r.table_id) at (contains ◌==◌ dropped.tables) tables _ _ _ _ _ has.tables c.in_ok-end_rows-6.ensures c.inlined_row.ensures.rows five
