-- The groups in which names and columns are counted.
use Rattle.std.specs.Prelude.{ℕ, List, [], ◌∷◌}
use Rattle.cat_rows.specs.declared.schemas.SchemaRow.{SchemaRow}
use Rattle.cat_rows.specs.declared.schemas.TableRow.{TableRow}
use Rattle.cat_rows.specs.declared.schemas.ColumnRow.{ColumnRow}

abbrev pub schema_group : SchemaRow → List ℕ
schema_group r = 0 ∷ 0 ∷ r.schema_name

abbrev pub table_group : TableRow → List ℕ
table_group r = r.schema_id ∷ 0 ∷ r.table_name

abbrev pub group_by_id : TableRow → List ℕ
group_by_id r = r.table_id ∷ 0 ∷ []

-- columns are counted in their table, and differ there by their order and by their name
abbrev pub group_by_table : ColumnRow → List ℕ
group_by_table c = c.table_id ∷ 0 ∷ []

abbrev pub group_by_order : ColumnRow → List ℕ
group_by_order c = c.table_id ∷ c.column_order ∷ []

abbrev pub group_by_name : ColumnRow → List ℕ
group_by_name c = c.table_id ∷ 0 ∷ c.column_name
