-- The cells that are laid column by column are those that the sheet has for the columns, laid into them.
use Rattle.std.proofs.Common.{◌≡◌, ℕ, ◌==◌, ◌||◌, Bool, true, false, cond, List, [], ◌∷◌, map, Option, Some, None, refl, sym, ap, ap₂, ◌∙◌, true≢false, arith}
use Rattle.std.specs.List.{AllByRecursion, cons_option, slice_get}
use Rattle.std.specs.Option.{option_map, unwrap_or}
use Rattle.std.specs.Prelude.{option_and_then}
use Rattle.std.proofs.lemmas.Bool.{eqb-true}
use Rattle.lake_types.specs.Cells.{cell_at, laid_cell, laid_cells}
use Rattle.lake_types.specs.declared.sheet.SheetColumn.{SheetColumn}
use Rattle.lake_types.specs.declared.value.Column.{Column}
use Rattle.lake_types.specs.declared.value.Value.{Value}
use Rattle.field_map.specs.Laid.{column_of, found_cells, value_in}
use Rattle.field_map.specs.Steps.{cell, value_at}

-- whether a column has the field
abbrev has_field : List Column → ℕ → Bool
has_field [] field = false
has_field (column ∷ columns) field = (column.field == field) || has_field columns field

module _ (sheet : List SheetColumn) (row : ℕ) where
  abbrev value : ℕ → Option Value
  value field = value_in sheet row field

  -- with one more column, where its value is this
  abbrev one_more : Option Value → Column → List (ℕ × Value) → List (ℕ × Value)
  one_more o column cells = cons_option (option_map (λ v. (column.field, v)) o) cells

  -- no cell is found for a field that the sheet hasn't
  found_none : (columns : List Column) (field : ℕ) → value field ≡ None → cell_at (found_cells sheet columns row) field ≡ None
  found_none [] field h = refl
  found_none (column ∷ columns) field h = go (value column.field) refl (found_none columns field h)
    where
      at_cell : (b : Bool) (v : Value) → (column.field == field) ≡ b → value column.field ≡ Some v → cell_at (found_cells sheet columns row) field ≡ None
          → cond b (Some v) (cell_at (found_cells sheet columns row) field) ≡ None
      at_cell false v is some more = more
      at_cell true v is some more =
          let same : column.field ≡ field = eqb-true column.field field is in
          let here : value field ≡ Some v = sym (ap (λ (f : ℕ). value f) same) ∙ some in
          absurd (cc (h, here))

      go : (o : Option Value) → value column.field ≡ o → cell_at (found_cells sheet columns row) field ≡ None
          → cell_at (one_more o column (found_cells sheet columns row)) field ≡ None
      go None e more = more
      go (Some v) e more = at_cell (column.field == field) v refl e more

  -- for the field of a column what the sheet has is found
  found_at : (columns : List Column) (field : ℕ) → has_field columns field ≡ true → cell_at (found_cells sheet columns row) field ≡ value field
  found_at [] field h = absurd (true≢false (sym h))
  found_at (column ∷ columns) field h = go (value column.field) refl (found_at columns field)
    where
      at_cell : (b : Bool) (v : Value) → (column.field == field) ≡ b → (b || has_field columns field) ≡ true → value column.field ≡ Some v
          → (has_field columns field ≡ true → cell_at (found_cells sheet columns row) field ≡ value field)
          → cond b (Some v) (cell_at (found_cells sheet columns row) field) ≡ value field
      at_cell false v is has some more = more has
      at_cell true v is has some more = sym some ∙ ap (λ (f : ℕ). value f) (eqb-true column.field field is)

      no_cell : (b : Bool) → (column.field == field) ≡ b → (b || has_field columns field) ≡ true → value column.field ≡ None
          → (has_field columns field ≡ true → cell_at (found_cells sheet columns row) field ≡ value field)
          → cell_at (found_cells sheet columns row) field ≡ value field
      no_cell false is has none more = more has
      no_cell true is has none more =
          let here : value field ≡ None = sym (ap (λ (f : ℕ). value f) (eqb-true column.field field is)) ∙ none in
          found_none columns field here ∙ sym here

      go : (o : Option Value) → value column.field ≡ o → (has_field columns field ≡ true → cell_at (found_cells sheet columns row) field ≡ value field)
          → cell_at (one_more o column (found_cells sheet columns row)) field ≡ value field
      go None e more = no_cell (column.field == field) refl h e more
      go (Some v) e more = at_cell (column.field == field) v refl h e more

  read : (o : Option SheetColumn) (initial : Value) → value_at o row initial ≡ unwrap_or (option_and_then (λ (c : SheetColumn). slice_get c.cells row) o) initial
  read None initial = refl
  read (Some column) initial = refl

  each : (cells : List (ℕ × Value)) (columns : List Column) → AllByRecursion (λ (c : Column). cell_at cells c.field ≡ value c.field) columns → map (cell sheet row) columns ≡ map (laid_cell cells) columns
  each cells [] h = refl
  each cells (column ∷ columns) h =
      ap₂ (λ (v : Value) (l : List (ℕ × Value)). (column.field, v) ∷ l) (read (column_of sheet column.field) column.initial ∙ ap (λ (o : Option Value). unwrap_or o column.initial) (sym h.0)) (each cells columns h.1)

-- each column of a list has its field there
own_field : (front columns : List Column) → ((field : ℕ) → has_field columns field ≡ true → has_field front field ≡ true) → AllByRecursion (λ (c : Column). has_field front c.field ≡ true) columns
own_field front [] within = tt
own_field front (column ∷ columns) within =
    (within column.field (first column.field column columns (same column.field)), own_field front columns (λ field h. within field (or_more (column.field == field) (has_field columns field) h)))
  where
    same : (n : ℕ) → (n == n) ≡ true
    same n = grind arith

    first : (field : ℕ) (c : Column) (cs : List Column) → (c.field == field) ≡ true → has_field (c ∷ cs) field ≡ true
    first field c cs e = ap (λ b. b || has_field cs field) e

    or_more : (a b : Bool) → b ≡ true → (a || b) ≡ true
    or_more true b h = refl
    or_more false b h = h

all_found : (sheet : List SheetColumn) (row : ℕ) (front columns : List Column) → AllByRecursion (λ (c : Column). has_field front c.field ≡ true) columns
    → AllByRecursion (λ (c : Column). cell_at (found_cells sheet front row) c.field ≡ value_in sheet row c.field) columns
all_found sheet row front [] h = tt
all_found sheet row front (column ∷ columns) h = (found_at sheet row front column.field h.0, all_found sheet row front columns h.1)

pub cells-laid : (sheet : List SheetColumn) (row : ℕ) (columns : List Column) → map (cell sheet row) columns ≡ laid_cells columns (found_cells sheet columns row)
cells-laid sheet row columns =
    each sheet row (found_cells sheet columns row) columns (all_found sheet row columns columns (own_field columns columns (λ field h. h)))
