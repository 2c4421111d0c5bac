use Rattle.std.proofs.Common.{◌≡◌, sym, ◌∙◌, rules}
use Rattle.std.specs.Prelude.{find}
use Rattle.std.specs.Option.{option_copied, option_or}
use Rattle.conflicts.specs.Search.{is_drop_of, is_same, is_table_in}
use Rattle.conflicts.proofs.PairLemmas.{by_altered, by_compacted, by_created_schema, by_created_table, by_deleted, by_dropped_schema, by_dropped_table, by_inserted}
use Rattle.conflicts.proofs.clash.first_against.Goals as goal

pub returns-in-CreatedSchema : goal.returns-in-CreatedSchema
returns-in-CreatedSchema c =
    let mine = c.args.mine.now in
    rw c.in-CreatedSchema.is (rw c.in-CreatedSchema.is at c.same_kind.ensures ∙ by_created_schema c.in-CreatedSchema.name mine)

pub returns-in-CreatedTable : goal.returns-in-CreatedTable
returns-in-CreatedTable c =
    let mine = c.args.mine.now in
    let schema = c.in-CreatedTable.schema in
    let either : option_copied c.or.result ≡ option_or (find (is_same c.args.theirs.now) mine) (find (is_drop_of schema) mine) = search rules in
    rw c.in-CreatedTable.is (rw c.in-CreatedTable.is at either ∙ by_created_table schema c.in-CreatedTable.name mine c.requires)

pub returns-in-InsertedInto : goal.returns-in-InsertedInto
returns-in-InsertedInto c = rw c.in-InsertedInto.is (sym (by_inserted c.in-InsertedInto.table c.args.mine.now))

pub returns-in-DroppedSchema : goal.returns-in-DroppedSchema
returns-in-DroppedSchema c =
    let mine = c.args.mine.now in
    let name = c.in-DroppedSchema.name in
    let either : option_copied c.or-in-DroppedSchema.result ≡ option_or (find (is_table_in name) mine) (find (is_drop_of name) mine) = search rules in
    rw c.in-DroppedSchema.is (either ∙ by_dropped_schema c.in-DroppedSchema.id name mine c.requires)

pub returns-in-DroppedTable : goal.returns-in-DroppedTable
returns-in-DroppedTable c = rw c.in-DroppedTable.is (c.first_using.ensures ∙ by_dropped_table c.in-DroppedTable.table c.args.mine.now c.requires)

pub returns-in-Altered : goal.returns-in-Altered
returns-in-Altered c = rw c.in-Altered.is (c.first_writing.ensures ∙ by_altered c.in-Altered.table c.args.mine.now c.requires)

pub returns-in-DeletedFrom : goal.returns-in-DeletedFrom
returns-in-DeletedFrom c = rw c.in-DeletedFrom.is (c.first_rewriting.ensures ∙ by_deleted c.in-DeletedFrom.table c.args.mine.now c.requires)

pub returns-in-Compacted : goal.returns-in-Compacted
returns-in-Compacted c = rw c.in-Compacted.is (c.first_rewriting-in-Compacted.ensures ∙ by_compacted c.in-Compacted.table c.args.mine.now c.requires)
