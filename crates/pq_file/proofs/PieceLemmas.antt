-- A piece of a column can be written as a chunk.
use Rattle.std.proofs.Common.{◌≡◌, ◌≢◌, ℕ, ◌+◌, ◌*◌, ◌≤◌, ◌<◌, ◌^◌, List, length, take, drop, map, Bool, true, refl, arith}
use Rattle.std.specs.Prelude.{All}
use Rattle.std.specs.List.{sum_by}
use Rattle.std.proofs.lemmas.List.{length-map, length-take}
use Rattle.std.proofs.lemmas.List.Elements.{All-drop, All-map, All-take, All-weaker}
use Rattle.std.proofs.lemmas.List.Sums.{sum_by-take-drop, sum_by-take-le}
use Rattle.lake_types.specs.declared.sheet.SheetColumn.{SheetColumn}
use Rattle.lake_types.specs.declared.value.ColType.{ColType}
use Rattle.lake_types.specs.declared.value.Value.{Value}
use Rattle.lake_types.specs.declared.value.Value.TheVariants as value
use Rattle.lake_types.specs.Weights.{weight}
use Rattle.pq_encodings.specs.Values.{plain_size, value_bytes}
use Rattle.pq_pages.specs.Pages.{Cells}
use Rattle.pq_pages.specs.Writing.{AreWritable, body_bytes, page_bytes}
use Rattle.pq_file.specs.Canonical.{piece_of}
use Rattle.pq_file.specs.Raw.{is_value, raw_of, values_in}
use Rattle.pq_file.specs.Writable.{IsCell, IsColumn, IsShort, column_weight}
use Rattle.pq_file.proofs.HeldLemmas.{Fits, held, values_short, values_size}

-- how many bytes a page has at most, as pq_pages says
abbrev pub BodySize : Type 0
BodySize = (optional : Bool) (cells : Cells) → length (body_bytes optional cells) ≤ 4 + 11 * length cells.defined + plain_size cells.values

cells_light : (cells : List Value) (row rows : ℕ) → sum_by weight (take rows (drop row cells)) ≤ sum_by weight cells
cells_light cells row rows = omega (arith, sum_by-take-le weight (drop row cells) rows, sum_by-take-drop weight cells row)

cells_few : (cells : List Value) (row rows : ℕ) → length (take rows (drop row cells)) ≤ rows
cells_few cells row rows = omega (arith, length-take rows (drop row cells))

pub piece_small : BodySize → (optional : Bool) (t : ColType) (cells : List Value) (row rows : ℕ) → rows ≤ 4194304 → sum_by weight cells ≤ 1073741824
    → length (page_bytes optional (map is_value (take rows (drop row cells))) (value_bytes (values_in t (take rows (drop row cells))))) < 2 ^ 31
piece_small size optional t cells row rows few light =
    let piece : List Value = take rows (drop row cells) in
    let whole = size optional (raw_of t piece) in
    omega (arith, whole, values_size t piece, length-map piece is_value, cells_light cells row rows, cells_few cells row rows)

-- ---- The conditions of a chunk

pub all_fit : (column : SheetColumn) → IsColumn column → All (Fits column.ty) column.cells
all_fit column is = All-weaker (IsCell column.ty) (Fits column.ty) (λ v h. h.fits) column.cells is.cells

cells_short : (column : SheetColumn) → IsColumn column → All IsShort column.cells
cells_short column is = All-weaker (IsCell column.ty) IsShort (λ v h. h.short) column.cells is.cells

value_if : (v : Value) → v ≢ value.Null → is_value v ≡ true
value_if value.Null h = absurd (h refl)
value_if (value.Bool b) h = refl
value_if (value.Int n) h = refl
value_if (value.Text x) h = refl
value_if (value.Bytes x) h = refl
value_if (value.Date n) h = refl

pub of_piece : (P : Value → Type 0) (column : SheetColumn) (row rows : ℕ) → All P column.cells → All P (piece_of row rows column)
of_piece P column row rows h = All-take P rows (drop row column.cells) (All-drop P row column.cells h)

pub piece_writable : BodySize → (column : SheetColumn) (row rows : ℕ) → IsColumn column → column_weight column ≤ 1073741824 → rows ≤ 4194304
    → AreWritable column.optional (raw_of column.ty (piece_of row rows column))
piece_writable size column row rows is light few =
    let piece : List Value = piece_of row rows column in
    let kept = held column.ty piece (of_piece (Fits column.ty) column row rows (all_fit column is)) in
    record {
      matched = kept.matched;
      required = λ e. All-map (λ (flag : Bool). flag ≡ true) is_value piece
          (All-weaker (λ (v : Value). v ≢ value.Null) (λ (v : Value). is_value v ≡ true) value_if piece
          (of_piece (λ v. v ≢ value.Null) column row rows (is.required e)));
      short = values_short column.ty piece (of_piece IsShort column row rows (cells_short column is));
      few = omega (arith, length-map piece is_value, cells_few column.cells row rows);
      small = piece_small size column.optional column.ty column.cells row rows few light;
    }
