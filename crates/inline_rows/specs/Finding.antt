-- What a function returned, compared with what reading gives.
use Rattle.std.specs.Prelude.{◌≡◌, ℕ, List, Option, Some, None, Err}
use Rattle.std.specs.Borrow.{Bor}
use Rattle.lake_types.specs.declared.value.Value.{Value}
use Rattle.inline_rows.specs.Content.{held}
use Rattle.inline_rows.specs.declared.content.Content.{Content}
use Rattle.inline_rows.specs.declared.fault.CellsFault.{CellsFault}
use Rattle.inline_rows.specs.declared.fault.CellsFault.TheVariants.{BadCells, Memory}
use Rattle.inline_rows.specs.Reading.{Item, Cells}

-- an item and the bytes behind it
abbrev pub Finds : {A : Type 0} → Option (A × Bor (List ℕ)) → Item A → Type 0
Finds None item = item ≡ None
Finds (Some x) item = item ≡ Some (x.0, x.1.now)

-- a value where it lies, and the bytes behind it
abbrev pub FindsContent : Option (Content × Bor (List ℕ)) → Item Value → Type 0
FindsContent None item = item ≡ None
FindsContent (Some x) item = item ≡ Some (held x.0, x.1.now)

-- a cell whose value lies there, and the bytes behind it
abbrev pub FindsCell : Option ((ℕ × Content) × Bor (List ℕ)) → Item (ℕ × Value) → Type 0
FindsCell None item = item ≡ None
FindsCell (Some x) item = item ≡ Some ((x.0.0, held x.0.1), x.1.now)

-- a slice and the bytes behind it
abbrev pub FindsSlice : Option (Bor (List ℕ) × Bor (List ℕ)) → Item (List ℕ) → Type 0
FindsSlice None item = item ≡ None
FindsSlice (Some x) item = item ≡ Some (x.0.now, x.1.now)

-- why there are no cells: the place of the first wrong item, or want of memory
abbrev pub Stops : CellsFault → Cells → Type 0
Stops (BadCells at) cells = cells ≡ Err at
Stops Memory cells = Unit {0}
