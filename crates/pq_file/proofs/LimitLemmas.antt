-- Whether field ids differ.
use Rattle.std.proofs.Common.{◌≡◌, ℕ, ◌+◌, ◌-◌, ◌<◌, List, length, drop, get_or, arith}
use Rattle.std.specs.Prelude.{All, AllPairs}
use Rattle.std.proofs.lemmas.List.{get_or-drop, get_or_read, length-drop}
use Rattle.lake_types.specs.declared.sheet.SheetColumn.{SheetColumn}
use Rattle.pq_file.specs.Writable.{OtherField}

-- where all pairs differ, a column differs from those behind it
pub one_differs : (columns : List SheetColumn) (at : ℕ) (column : SheetColumn) → at < length columns → column ≡ get_or columns at column → AllPairs OtherField columns
    → All (OtherField column) (drop (at + 1) columns)
one_differs columns at column lt is pairs k d within =
    let long = length-drop (at + 1) columns in
    let behind : at + 1 + k < length columns = omega (arith, long, within) in
    rw (get_or-drop (at + 1) columns k d, get_or_read columns at column lt is d) (pairs at (at + 1 + k) d (omega arith) behind)

-- where each column differs from those behind it, all pairs differ
pub all_differ : (columns : List SheetColumn) → ((i : ℕ) (d : SheetColumn) → i < length columns → All (OtherField (get_or columns i d)) (drop (i + 1) columns)) → AllPairs OtherField columns
all_differ columns each i j d lt within =
    let k : ℕ = j - (i + 1) in
    let place : i + 1 + k ≡ j = omega arith in
    let behind : k < length (drop (i + 1) columns) = omega (arith, length-drop (i + 1) columns) in
    rw (get_or-drop (i + 1) columns k d, place) at (each i d (omega arith) k d behind)
