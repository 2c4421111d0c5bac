-- A table's columns in their order.
use Rattle.std.specs.Prelude.{◌≡◌, ℕ, List, map}
use Rattle.std.specs.List.{AllZip}
use Rattle.lake_types.specs.declared.value.Column.{Column}
use Rattle.cat_rows.specs.declared.schemas.ColumnRow.{ColumnRow}
use Rattle.cat_texts.specs.Spelled.{IsColumnOf, SpellsNone}
use Rattle.cat_view.specs.Named.{ordered}
use Rattle.cat_view.specs.declared.columns.PlacedColumn.{PlacedColumn}

-- a row spells a column, whose field id has 32 bits: it isn't one that spells none
abbrev pub SpellsColumn : ColumnRow → Type 0
SpellsColumn r = SpellsNone r → ⊥

abbrev pub in_order : List ColumnRow → List ColumnRow
in_order rows = ordered (λ (r : ColumnRow). r.column_order) rows

abbrev pub order_of : PlacedColumn → ℕ
order_of p = p.order

-- a column with its row's number
pub record IsPlaced (r : ColumnRow) (p : PlacedColumn) : Type 0 where
  pub order : p.order ≡ r.column_order
  pub column : IsColumnOf r p.column

abbrev pub ArePlaced : List ColumnRow → List PlacedColumn → Type 0
ArePlaced rows placed = AllZip IsPlaced (in_order rows) placed

abbrev pub columns_in : List PlacedColumn → List Column
columns_in placed = map (λ (p : PlacedColumn). p.column) placed
