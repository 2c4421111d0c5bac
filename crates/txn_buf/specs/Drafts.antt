-- What a transaction sees of schemas and tables, without the rows of the tables.
use Rattle.std.specs.Prelude.{ℕ, ◌+◌, List, [], length, map}
use Rattle.lake_types.specs.declared.stmt.ColumnDef.{ColumnDef}
use Rattle.lake_model.specs.Apply.{Draft, SchemaDraft, Work, drafted, drafted_schema}
use Rattle.lake_model.specs.Plans.{columns_from}
use Rattle.lake_model.specs.declared.change.Ref.{Ref}
use Rattle.lake_model.specs.declared.change.Ref.TheVariants as ref
use Rattle.cat_view.specs.Named.{NamedTable, NamedVersion}
use Rattle.txn_buf.specs.Base.{head_of}
use Rattle.txn_buf.specs.declared.seen.Seen.{Seen}
use Rattle.txn_buf.specs.declared.seen.SeenSchema.{SeenSchema}
use Rattle.txn_buf.specs.declared.seen.SeenTable.{SeenTable}

-- the work of a list of changes, without rows, and without the order of its creations
abbrev pub bare_draft : Draft → Draft
bare_draft d = record d { rows = []; fresh = []; next_row = 0 }

abbrev pub bare : Work → Work
bare w = record w { tables = map bare_draft w.tables; created = [] }

-- the same of a version, before the first change
abbrev pub begun_table : NamedTable → Draft
begun_table x = drafted (head_of x)

abbrev pub begun_in : NamedVersion → Work
begun_in v = record {
  schemas = map drafted_schema v.schemas;
  tables = map begun_table v.tables;
  created = [];
  created_schemas = 0;
  created_tables = 0;
}

-- what is kept of it
abbrev pub schema_draft : SeenSchema → SchemaDraft
schema_draft s = record { at = s.at; name = s.name }

abbrev pub table_draft : SeenTable → Draft
table_draft t = record {
  at = t.at;
  schema = t.schema;
  name = t.name;
  columns = t.columns;
  rows = [];
  fresh = [];
  next_row = 0;
  next_field = t.next_field;
}

abbrev pub schema_drafts : List SeenSchema → List SchemaDraft
schema_drafts schemas = map schema_draft schemas

abbrev pub table_drafts : List SeenTable → List Draft
table_drafts tables = map table_draft tables

abbrev pub work_of : Seen → Work
work_of s = record {
  schemas = schema_drafts s.schemas.items;
  tables = table_drafts s.tables.items;
  created = [];
  created_schemas = s.created_schemas;
  created_tables = s.created_tables;
}

-- a new table, the one at this place among those that were created
abbrev pub created_table : ℕ → Ref → List ℕ → List ColumnDef → SeenTable
created_table place schema name defs = record {
  at = ref.New place;
  schema = schema;
  name = name;
  columns = columns_from 1 defs;
  next_field = length defs + 1;
}
