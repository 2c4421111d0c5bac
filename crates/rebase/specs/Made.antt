-- What a list creates and leaves, as the plain lake has it, and the rows that are added for it.
use Rattle.std.specs.Prelude.{◌<◌, ◌+◌, ◌^◌, ℕ, List, length, map, None}
use Rattle.std.specs.List.{AllByRecursion, flat_map}
use Rattle.lake_model.specs.Apply.{Creation, Draft, NewSchema, NewTable, SchemaDraft, schema_id, table_id}
use Rattle.lake_model.specs.declared.change.Change.{Change}
use Rattle.lake_model.specs.declared.change.Change.TheVariants as change
use Rattle.lake_model.specs.declared.change.Ref.{Ref}
use Rattle.cat_rows.specs.declared.batch.CatRow.{CatRow}
use Rattle.cat_rows.specs.declared.batch.CatRow.TheVariants as row
use Rattle.cat_rows.specs.declared.schemas.ColumnRow.{ColumnRow}
use Rattle.cat_rows.specs.declared.schemas.TableRow.{TableRow}
use Rattle.cat_texts.specs.Written.{FitDefaults}
use Rattle.rebase.specs.Parts as parts
use Rattle.rebase.specs.declared.creations.Made.{Made}
use Rattle.rebase.specs.declared.creations.Made.TheVariants as made
use Rattle.rebase.specs.declared.made.Place.{Place}

abbrev pub creation_of : Made → Creation
creation_of (made.Schema place) = NewSchema place
creation_of (made.Table place) = NewTable place

abbrev pub creations_of : List Made → List Creation
creations_of all = map creation_of all

-- the defaults of a created table's columns fit their types
abbrev pub HasFittingDefaults : Change → Type 0
HasFittingDefaults (change.CreateTable schema name columns) = AllByRecursion FitDefaults columns
HasFittingDefaults c = Unit {0}

-- the ids of created things have 64 bits
abbrev pub HasIds : Place → Type 0
HasIds p = p.next + length p.made.now < 2 ^ 64

-- ---- rows to add

abbrev pub schema_adds : Place → List SchemaDraft → List CatRow
schema_adds p ds = map (λ (d : SchemaDraft). row.Schema (parts.schema_row p.begin p.next (creations_of p.made.now) d)) ds

abbrev pub table_row : Place → Ref → Ref → List ℕ → TableRow
table_row p at schema name = record {
  table_id = table_id p.next (creations_of p.made.now) at;
  begin_snapshot = p.begin;
  end_snapshot = None;
  schema_id = schema_id p.next (creations_of p.made.now) schema;
  table_name = name;
}

abbrev pub table_adds : Place → List Draft → List CatRow
table_adds p ds = map (λ (d : Draft). row.Table (parts.table_row p.begin p.next (creations_of p.made.now) d)) ds

abbrev pub column_adds : List ColumnRow → List CatRow
column_adds rows = map (λ r. row.Column r) rows

abbrev pub columns_adds : Place → List Draft → List CatRow
columns_adds p ds = flat_map (λ (d : Draft). column_adds (parts.columns_of p.begin p.next (creations_of p.made.now) d)) ds
