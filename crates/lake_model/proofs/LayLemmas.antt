-- Rows that are laid twice.
use Rattle.std.proofs.Common.{◌≡◌, ◌≢◌, ℕ, ◌==◌, List, [], ◌∷◌, refl, ap, ◌∙◌, Bool, true, false, arith}
use Rattle.std.specs.Prelude.{None, unwrap_or}
use Rattle.std.specs.List.{AllByRecursion}
use Rattle.lake_types.specs.Cells.{cell_at, laid_cell, laid_cells}
use Rattle.lake_types.specs.declared.value.Column.{Column}
use Rattle.lake_types.specs.declared.value.Value.{Value}
use Rattle.lake_model.specs.Laws.{IsLater, LaysOnce}

abbrev Reads : List Column → List (ℕ × Value) → Column → Type 0
Reads before cells d = unwrap_or (cell_at (laid_cells before cells) d.field) d.initial ≡ unwrap_or (cell_at cells d.field) d.initial

reads : (before : List Column) (cells : List (ℕ × Value)) (d : Column) → AllByRecursion (λ (c : Column). c.field ≡ d.field → c.initial ≡ d.initial) before
    → (AllByRecursion (λ (c : Column). c.field ≢ d.field) before → cell_at cells d.field ≡ None) → Reads before cells d
reads [] cells d same new = rw (new tt) refl
reads (c ∷ before) cells d same new = go (c.field == d.field) refl (λ apart. reads before cells d same.1 (λ rest. new (apart, rest)))
  where
    go : (b : Bool) → (c.field == d.field) ≡ b → (c.field ≢ d.field → Reads before cells d) → Reads (c ∷ before) cells d
    go true e more =
        let field : c.field ≡ d.field = grind (arith, e) in
        rw (e, field, same.0 field) refl
    go false e more = rw e (more (grind (arith, e)))

laid-first : (before : List Column) (cells : List (ℕ × Value)) (later : List Column) → AllByRecursion (IsLater before cells) later
    → laid_cells later (laid_cells before cells) ≡ laid_cells later cells
laid-first before cells [] h = refl
laid-first before cells (d ∷ later) h =
    ap (λ v. (d.field, v) ∷ laid_cells later (laid_cells before cells)) (reads before cells d h.0.same h.0.new)
    ∙ ap (λ more. laid_cell cells d ∷ more) (laid-first before cells later h.1)

pub lays_once : LaysOnce
lays_once before later cells h = laid-first before cells later h
