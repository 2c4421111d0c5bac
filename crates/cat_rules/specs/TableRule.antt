-- Rule 5, on tables: their schemas and their names.
use Rattle.std.specs.Prelude.{◌≡◌, ◌⊎◌, [], ◌∷◌, Option}
use Rattle.cat_tables.specs.Table.{row_of}
use Rattle.cat_rows.specs.Keys.{schema_key, table_key}
use Rattle.cat_rows.specs.Tables.{Tables}
use Rattle.cat_rows.specs.declared.batch.Key.{Key}
use Rattle.cat_rows.specs.declared.batch.Key.TheVariants as key
use Rattle.cat_rows.specs.declared.schemas.SchemaRow.{SchemaRow}
use Rattle.cat_rows.specs.declared.schemas.TableRow.{TableRow}
use Rattle.cat_rules.specs.Places.{of_table}
use Rattle.cat_rows.specs.Seen.{Seen}
use Rattle.cat_rules.specs.EachKept.{AtKept, NamesAlike, NamesWithout, missing_or_own}

abbrev pub schema_id_of : TableRow → Key
schema_id_of r = key.Schema r.schema_id

abbrev pub schema_of : Tables → TableRow → Option SchemaRow
schema_of t r = row_of schema_key (r.schema_id ∷ []) t.schema

-- A table's schema isn't seen with it. The schema is named where it isn't there at all, and else the table.
abbrev pub IsTableUnmatched : Tables → Seen → Key → Type 0
IsTableUnmatched t seen = NamesWithout (missing_or_own (schema_of t) schema_id_of of_table) (λ r. r.schema_id ∷ []) schema_key seen.table seen.schema

abbrev pub HaveOnePlace : TableRow → TableRow → Type 0
HaveOnePlace q r = (q.schema_id ≡ r.schema_id) × (q.table_name ≡ r.table_name)

-- a table has the name of an earlier one of its schema
abbrev pub IsTableNameUsed : Seen → Key → Type 0
IsTableNameUsed seen = NamesAlike of_table HaveOnePlace table_key seen.table

-- At each kept snapshot a table that it sees has a schema that it sees, and the names of tables in one schema differ.
abbrev pub IsTableBad : Tables → Key → Type 0
IsTableBad t = AtKept (λ seen k. IsTableUnmatched t seen k ⊎ IsTableNameUsed seen k) t
