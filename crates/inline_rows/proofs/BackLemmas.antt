-- The spelling of cells reads back as these cells.
use Rattle.std.proofs.Common.{◌≡◌, ℕ, ◌^◌, List, [], ◌∷◌, ◌++◌, length, Option, Some, None, Ok, true, false, refl, sym, append_assoc, arith}
use Rattle.std.specs.List.{AllByRecursion}
use Rattle.std.specs.Prelude.{flat_map}
use Rattle.std.proofs.lemmas.Str.{is_utf8-from_IsUtf8}
use Rattle.thrift_compact.specs.Shortest.{unsigned_spelling}
use Rattle.thrift_compact.proofs.WriterLemmas.{zigzag_32, zigzag_64}
use Rattle.lake_types.specs.declared.value.Value.{Value}
use Rattle.lake_types.specs.declared.value.Value.TheVariants as value
use Rattle.inline_rows.specs.Laws.{ReadsBack}
use Rattle.inline_rows.specs.Reading.{value_in, cell_in, cells_in, decoded}
use Rattle.inline_rows.specs.Spelling.{content, cell_spelling, IsHeld, IsCell, RisesFrom, is_past}
use Rattle.inline_rows.proofs.NumberLemmas.{unsigned_back, signed_back, binary_back}

content_back : (v : Value) (rest : List ℕ) → IsHeld v → value_in (content v ++ rest) ≡ Some (v, rest)
content_back value.Null rest h = refl
content_back (value.Bool false) rest h = refl
content_back (value.Bool true) rest h = refl
content_back (value.Int n) rest h = rw (signed_back (2 ^ 64) n rest (zigzag_64 n h) (omega arith)) refl
content_back (value.Text text) rest h = rw (binary_back text rest h.1, is_utf8-from_IsUtf8 text h.0) refl
content_back (value.Bytes bytes) rest h = rw (binary_back bytes rest h) refl
content_back (value.Date day) rest h = rw (signed_back (2 ^ 32) day rest (zigzag_32 day h) (omega arith)) refl

pub cell_back : (last : Option ℕ) (cell : ℕ × Value) (rest : List ℕ) → is_past last cell.0 ≡ true → IsCell cell → cell_in last (cell_spelling cell ++ rest) ≡ Some (cell, rest)
unfolding cell_in
cell_back last cell rest past h =
    rw (append_assoc (unsigned_spelling cell.0) (content cell.1) rest, unsigned_back (2 ^ 32) cell.0 (content cell.1 ++ rest) h.0 (omega arith), past, content_back cell.1 rest h.1) refl

cells_back : (end : ℕ) (last : Option ℕ) (cells : List (ℕ × Value)) → RisesFrom last cells → AllByRecursion IsCell cells
    → cells_in end (length cells) last (flat_map cell_spelling cells) ≡ Ok cells
unfolding cells_in
cells_back end last [] rises are = refl
cells_back end last (cell ∷ cells) rises are =
    rw (cell_back last cell (flat_map cell_spelling cells) rises.0 are.0, cells_back end (Some cell.0) cells rises.1 are.1) refl

pub reads_back : ReadsBack
unfolding decoded
reads_back cells bytes short h =
    rw (sym h.0) (rw (unsigned_back (2 ^ 64) (length cells) (flat_map cell_spelling cells) short (omega arith)) (cells_back _ None cells h.1.1 h.1.0))
