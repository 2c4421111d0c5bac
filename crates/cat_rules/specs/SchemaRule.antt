-- Rule 4, on the names of schemas.
use Rattle.std.specs.Prelude.{◌≡◌}
use Rattle.cat_rows.specs.Keys.{schema_key}
use Rattle.cat_rows.specs.Tables.{Tables}
use Rattle.cat_rows.specs.declared.batch.Key.{Key}
use Rattle.cat_rows.specs.declared.schemas.SchemaRow.{SchemaRow}
use Rattle.cat_rules.specs.Places.{of_schema}
use Rattle.cat_rows.specs.Seen.{Seen}
use Rattle.cat_rules.specs.EachKept.{AtKept, NamesAlike}

abbrev pub HaveOneName : SchemaRow → SchemaRow → Type 0
HaveOneName q r = q.schema_name ≡ r.schema_name

-- a schema has the name of an earlier one
abbrev pub IsSchemaNameUsed : Seen → Key → Type 0
IsSchemaNameUsed seen = NamesAlike of_schema HaveOneName schema_key seen.schema

-- At each kept snapshot the names of schemas differ.
abbrev pub IsSchemaNameBad : Tables → Key → Type 0
IsSchemaNameBad = AtKept IsSchemaNameUsed
