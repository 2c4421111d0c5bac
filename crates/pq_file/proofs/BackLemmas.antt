-- The canonical file reads back: chunk by chunk, with what stands before and behind it, group by group, then the frame.
use Rattle.std.proofs.Common.{◌≡◌, ℕ, ◌+◌, ◌≤◌, ◌<◌, ◌^◌, List, [], ◌∷◌, ◌++◌, length, take, drop, map, fold, Bool, true, false, nat_lt, None, Ok, refl, sym, ap, ◌∙◌, append_assoc, arith}
use Rattle.std.specs.Prelude.{All}
use Rattle.std.specs.List.{filter}
use Rattle.std.proofs.lemmas.Bool.{le-ltb}
use Rattle.std.proofs.lemmas.List.{drop_at, length-append, length-drop, length-map, length-take, take_all, take_at}
use Rattle.std.proofs.lemmas.List.Elements.{All-head, All-map, All-tail}
use Rattle.std.proofs.lemmas.List.Sums.{get_or-le-sum_by, sum_by-cons}
use Rattle.lake_types.specs.declared.sheet.Sheet.{Sheet}
use Rattle.lake_types.specs.declared.sheet.SheetColumn.{SheetColumn}
use Rattle.lake_types.specs.declared.value.ColType.{ColType}
use Rattle.lake_types.specs.declared.value.Value.{Value}
use Rattle.pq_encodings.specs.Values.{AreInRange}
use Rattle.pq_meta.specs.declared.meta.FileMeta.{FileMeta}
use Rattle.pq_meta.specs.Consistency.{IsNamed}
use Rattle.pq_meta.specs.Footers.{footer_of}
use Rattle.pq_meta.specs.Spelling as meta_spec
use Rattle.pq_meta.specs.Spelling.{footer_bytes}
use Rattle.pq_pages.specs.Pages.{Cells, chunk_of}
use Rattle.pq_pages.specs.Writing as pages
use Rattle.pq_pages.specs.Writing.{AreTexts, AreWritable, chunk_bytes}
use Rattle.pq_file.specs.declared.parts.Part.{Part}
use Rattle.pq_file.specs.Canonical.{canonical, chunk_at, chunks_at, cuts_of, group_bytes, groups_at, groups_bytes, meta_column, meta_of, piece_bytes, piece_of}
use Rattle.pq_file.specs.Cells.{is_text}
use Rattle.pq_file.specs.Frame.{mark}
use Rattle.pq_file.specs.Raw.{is_value, raw_of}
use Rattle.pq_file.specs.Reading.{GroupParts, bare, beside, cells_fit, file_of, groups_fit, groups_in, is_wanted, longer, part_of, parts_fit, parts_in, sheet_in, sheet_of, span_of, spec_of, with_group}
use Rattle.pq_file.specs.Writable.{HasCellTexts, HasText, HasTexts, HoldTexts, IsColumn, IsWritable, column_weight}
use Rattle.pq_file.proofs.FrameLemmas.{file_with, footer_back}
use Rattle.pq_file.proofs.GroupLemmas.{joined}
use Rattle.pq_file.proofs.HeldLemmas.{Fits, held, same_kind, values_in_range, values_texts}
use Rattle.pq_file.proofs.MetaLemmas.{cuts_all, meta_writable, rows_of}
use Rattle.pq_file.proofs.PieceLemmas.{BodySize, all_fit, of_piece, piece_writable}

-- a chunk reads back, as pq_pages says
abbrev pub ChunkBack : Type 0
ChunkBack = (text optional : Bool) (cells : Cells) → AreWritable optional cells → AreInRange cells.values → (text ≡ true → AreTexts cells.values)
    → chunk_of (pages.spec_of text optional cells) (chunk_bytes optional cells) ≡ Ok cells

-- a column of a sheet that can be written, of so many rows
record Good (total : ℕ) (column : SheetColumn) : Type 0 where
  count : length column.cells ≡ total
  is : IsColumn column
  light : column_weight column ≤ 1073741824
  texts : HasCellTexts column

-- ---- A chunk

span_back : (all front piece rest : List ℕ) (group place row rows : ℕ) (column : SheetColumn) → all ≡ front ++ (piece ++ rest) → piece ≡ piece_bytes row rows column
    → span_of all group place (chunk_at row rows (length front) column) ≡ Ok piece
unfolding span_of
span_back all front piece rest group place row rows column is which =
    let size : length all ≡ length front + (length piece + length rest) = ap (λ (xs : List ℕ). length xs) is ∙ omega (arith, length-append front (piece ++ rest), length-append piece rest) in
    let inside : nat_lt (length all) (length front + length piece) ≡ false = le-ltb _ _ (omega arith) in
    let here : drop (length front) all ≡ piece ++ rest = ap (λ (xs : List ℕ). drop (length front) xs) is ∙ drop_at front (piece ++ rest) (length front) refl in
    rw (← which, inside, here, take_at piece rest (length piece) refl) refl

piece_size : (total row rows : ℕ) (column : SheetColumn) → Good total column → row + rows ≤ total → length (piece_of row rows column) ≡ rows
piece_size total row rows column good within = omega (arith, length-take rows (drop row column.cells), length-drop row column.cells, good.count)

same_spec : (total row rows at : ℕ) (column : SheetColumn) → Good total column → row + rows ≤ total
    → spec_of (meta_column column) (chunk_at row rows at column) ≡ pages.spec_of (is_text column.ty) column.optional (raw_of column.ty (piece_of row rows column))
same_spec total row rows at column good within =
    let piece : List Value = piece_of row rows column in
    let count : length (map is_value piece) ≡ rows = length-map piece is_value ∙ piece_size total row rows column good within in
    rw (same_kind column.ty piece, count) refl

-- the part of a column in a group
abbrev part_with : ℕ → ℕ → ℕ → SheetColumn → Part
part_with place row rows column = record { place = place; ty = column.ty; cells = piece_of row rows column }

part_back : ChunkBack → BodySize → (total row rows group place : ℕ) (column : SheetColumn) (all front rest : List ℕ) → Good total column → row + rows ≤ total → rows ≤ 4194304
    → all ≡ front ++ (piece_bytes row rows column ++ rest)
    → part_of all group place (meta_column column) (chunk_at row rows (length front) column) ≡ Ok (part_with place row rows column)
unfolding part_of
part_back chunk size total row rows group place column all front rest good within few is =
    let piece : List Value = piece_of row rows column in
    let fit : All (Fits column.ty) piece = of_piece (Fits column.ty) column row rows (all_fit column good.is) in
    let text : HoldTexts column.ty piece = λ is_text. of_piece HasText column row rows (good.texts is_text) in
    let span = span_back all front (piece_bytes row rows column) rest group place row rows column is refl in
    let read = chunk (is_text column.ty) column.optional (raw_of column.ty piece) (piece_writable size column row rows good.is good.light few)
    (values_in_range column.ty piece fit) (values_texts column.ty piece fit text) in
    rw (span, same_spec total row rows (length front) column good within, read, (held column.ty piece fit).back) refl

-- ---- A group

parts_with : ℕ → ℕ → ℕ → List SheetColumn → List Part
parts_with place row rows [] = []
parts_with place row rows (column ∷ columns) = part_with place row rows column ∷ parts_with (place + 1) row rows columns

parts_back : ChunkBack → BodySize → (total row rows group place : ℕ) (columns : List SheetColumn) (all front rest : List ℕ) → All (Good total) columns → row + rows ≤ total → rows ≤ 4194304
    → all ≡ front ++ (group_bytes columns row rows ++ rest)
    → parts_in all None group place (map meta_column columns) (chunks_at row rows (length front) columns) ≡ Ok (parts_with place row rows columns)
unfolding parts_with
parts_back chunk size total row rows group place [] all front rest good within few is = refl
parts_back chunk size total row rows group place (column ∷ columns) all front rest good within few is =
    let piece : List ℕ = piece_bytes row rows column in
    let more : List ℕ = group_bytes columns row rows in
    let first : all ≡ front ++ (piece ++ (more ++ rest)) = is ∙ ap (λ (xs : List ℕ). front ++ xs) (append_assoc piece more rest) in
    let others : all ≡ (front ++ piece) ++ (more ++ rest) = first ∙ sym (append_assoc front piece (more ++ rest)) in
    let one = part_back chunk size total row rows group place column all front (more ++ rest) (All-head (Good total) column columns good) within few first in
    let two = parts_back chunk size total row rows group (place + 1) columns all (front ++ piece) rest (All-tail (Good total) column columns good) within few others in
    let three = rw (length-append front piece) at two in
    rw (one, three) refl

-- ---- The groups

groups_with : List SheetColumn → ℕ → List ℕ → List GroupParts
groups_with columns row [] = []
groups_with columns row (rows ∷ more) = record { rows = rows; parts = parts_with 0 row rows columns } ∷ groups_with columns (row + rows) more

groups_back : ChunkBack → BodySize → (total row group : ℕ) (columns : List SheetColumn) (sizes all front rest : List ℕ) → All (Good total) columns → row + rows_of sizes ≤ total → total ≤ 4194304
    → all ≡ front ++ (groups_bytes columns row sizes ++ rest)
    → groups_in all None (map meta_column columns) group (groups_at columns row (length front) sizes) ≡ Ok (groups_with columns row sizes)
unfolding groups_with
groups_back chunk size total row group columns [] all front rest good within few is = refl
groups_back chunk size total row group columns (rows ∷ sizes) all front rest good within few is =
    let here : List ℕ = group_bytes columns row rows in
    let more : List ℕ = groups_bytes columns (row + rows) sizes in
    let sum = sum_by-cons (λ (n : ℕ). n) rows sizes in
    let first : all ≡ front ++ (here ++ (more ++ rest)) = is ∙ ap (λ (xs : List ℕ). front ++ xs) (append_assoc here more rest) in
    let others : all ≡ (front ++ here) ++ (more ++ rest) = first ∙ sym (append_assoc front here (more ++ rest)) in
    let one = parts_back chunk size total row rows group 0 columns all front (more ++ rest) good (omega (arith, sum, within)) (omega (arith, sum, within, few)) first in
    let two = groups_back chunk size total (row + rows) (group + 1) columns sizes all (front ++ here) rest good (omega (arith, sum, within)) few others in
    let three = rw (length-append front here) at two in
    rw (one, three) refl

-- ---- The ranges

pub cells_back : (place row : ℕ) (t : ColType) (cells : List Value) → All (Fits t) cells → cells_fit place t row cells ≡ Ok tt
cells_back place row t [] h = refl
cells_back place row t (v ∷ vs) h = rw (All-head (Fits t) v vs h) (cells_back place (row + 1) t vs (All-tail (Fits t) v vs h))

parts_right : (total from place row rows : ℕ) (columns : List SheetColumn) → All (Good total) columns → parts_fit from (parts_with place row rows columns) ≡ Ok tt
unfolding parts_with
parts_right total from place row rows [] good = refl
parts_right total from place row rows (column ∷ columns) good =
    let first = All-head (Good total) column columns good in
    let fit = of_piece (Fits column.ty) column row rows (all_fit column first.is) in
    rw (cells_back place from column.ty (piece_of row rows column) fit) (parts_right total from (place + 1) row rows columns (All-tail (Good total) column columns good))

groups_right : (total from row : ℕ) (columns : List SheetColumn) (sizes : List ℕ) → All (Good total) columns → groups_fit from (groups_with columns row sizes) ≡ Ok tt
unfolding groups_with
groups_right total from row columns [] good = refl
groups_right total from row columns (rows ∷ sizes) good =
    rw (parts_right total from 0 row rows columns good) (groups_right total (from + rows) (row + rows) columns sizes good)

-- ---- The sheet

-- a column with its first cells alone
abbrev upto : ℕ → SheetColumn → SheetColumn
upto row column = record column { cells = take row column.cells }

one_longer : (place row rows : ℕ) (column : SheetColumn) → longer (upto row column) (part_with place row rows column) ≡ upto (row + rows) column
one_longer place row rows column = ap (λ (cells : List Value). record column { cells = cells }) (joined row rows column.cells)

all_longer : (place row rows : ℕ) (columns : List SheetColumn) → beside (map (upto row) columns) (parts_with place row rows columns) ≡ map (upto (row + rows)) columns
unfolding parts_with
all_longer place row rows [] = refl
all_longer place row rows (column ∷ columns) = rw (one_longer place row rows column, all_longer (place + 1) row rows columns) refl

grown : (columns : List SheetColumn) (row : ℕ) (sizes : List ℕ) → fold with_group (map (upto row) columns) (groups_with columns row sizes) ≡ map (upto (row + rows_of sizes)) columns
unfolding groups_with
grown columns row [] = ap (λ (n : ℕ). map (upto n) columns) (omega arith)
grown columns row (rows ∷ sizes) =
    ap (λ (cs : List SheetColumn). fold with_group cs (groups_with columns (row + rows) sizes)) (all_longer 0 row rows columns)
    ∙ grown columns (row + rows) sizes ∙ ap (λ (n : ℕ). map (upto n) columns) (omega (arith, sum_by-cons (λ (n : ℕ). n) rows sizes))

whole : (total : ℕ) (columns : List SheetColumn) → All (Good total) columns → map (upto total) columns ≡ columns
whole total [] good = refl
whole total (column ∷ columns) good =
    let first = All-head (Good total) column columns good in
    let all : take total column.cells ≡ column.cells = take_all total column.cells (omega (arith, first.count)) in
    let one : upto total column ≡ column = ap (λ (cells : List Value). record column { cells = cells }) all in
    rw (one, whole total columns (All-tail (Good total) column columns good)) refl

all_wanted : (columns : List SheetColumn) → map bare (filter (is_wanted None) (map meta_column columns)) ≡ map (upto 0) columns
all_wanted [] = refl
all_wanted (column ∷ columns) = rw (all_wanted columns) refl

columns_back : (sheet : Sheet) → All (Good sheet.rows) sheet.columns → sheet_of None (meta_of sheet) (groups_with sheet.columns 0 (cuts_of sheet)) ≡ sheet
columns_back sheet good =
    let all = cuts_all sheet in
    let columns : fold with_group (map (upto 0) sheet.columns) (groups_with sheet.columns 0 (cuts_of sheet)) ≡ sheet.columns =
    grown sheet.columns 0 (cuts_of sheet) ∙ ap (λ (n : ℕ). map (upto n) sheet.columns) (omega (arith, all)) ∙ whole sheet.rows sheet.columns good in
    rw (all_wanted sheet.columns, columns) refl

-- ---- The file

all_good : (sheet : Sheet) → IsWritable sheet → All HasCellTexts sheet.columns → All (Good sheet.rows) sheet.columns
all_good sheet can texts k d lt = record {
  count = can.counts k d lt;
  is = can.columns k d lt;
  light = omega (arith, get_or-le-sum_by column_weight sheet.columns k d lt, can.light);
  texts = texts k d lt;
}

pub file_back : ChunkBack → BodySize → (sheet : Sheet) → IsWritable sheet → All HasCellTexts sheet.columns → length (footer_bytes (meta_of sheet)) < 2 ^ 32 → footer_of (footer_bytes (meta_of sheet)) ≡ Ok (meta_of sheet)
    → file_of None (canonical sheet) ≡ Ok sheet
unfolding canonical file_of sheet_in
file_back chunk size sheet can texts small says =
    let good = all_good sheet can texts in
    let chunks : List ℕ = groups_bytes sheet.columns 0 (cuts_of sheet) in
    let footer : List ℕ = footer_bytes (meta_of sheet) in
    let all : List ℕ = file_with chunks footer in
    let few : nat_lt 4194304 sheet.rows ≡ false = le-ltb _ _ can.few_rows in
    let read = groups_back chunk size sheet.rows 0 0 sheet.columns (cuts_of sheet) all mark _ good (omega (arith, cuts_all sheet)) can.few_rows (append_assoc mark chunks _) in
    rw (footer_back chunks footer small, says, few, read, groups_right sheet.rows 0 0 sheet.columns (cuts_of sheet) good, columns_back sheet good) refl

-- the same of what write_file made on its way
pub file_read : ChunkBack → BodySize → (sheet : Sheet) (meta : FileMeta) (file footer : List ℕ) → IsWritable sheet → All HasCellTexts sheet.columns → meta ≡ meta_of sheet
    → footer ≡ footer_bytes meta → length footer < 2 ^ 32 → footer_of footer ≡ Ok meta → file ≡ canonical sheet → file_of None file ≡ Ok sheet
file_read chunk size sheet meta file footer can texts is spelled small says written =
    let same : footer ≡ footer_bytes (meta_of sheet) = rw (← is) spelled in
    let few : length (footer_bytes (meta_of sheet)) < 2 ^ 32 = rw (← same) small in
    let read : footer_of (footer_bytes (meta_of sheet)) ≡ Ok (meta_of sheet) = rw (← same, ← is) says in
    rw written (file_back chunk size sheet can texts few read)

-- a footer reads back, as pq_meta says
abbrev pub MetaBack : Type 0
MetaBack = (meta : FileMeta) → meta_spec.IsWritable meta → All IsNamed meta.columns → footer_of (footer_bytes meta) ≡ Ok meta

-- the same of lists
pub law : ChunkBack → BodySize → MetaBack → (sheet : Sheet) → IsWritable sheet → HasTexts sheet → length mark + length (groups_bytes sheet.columns 0 (cuts_of sheet)) < 2 ^ 63
    → length (footer_bytes (meta_of sheet)) < 2 ^ 32 → file_of None (canonical sheet) ≡ Ok sheet
law chunk size footer sheet can texts below small =
    let names : All IsNamed (map meta_column sheet.columns) = All-map IsNamed meta_column sheet.columns texts.names in
    file_back chunk size sheet can texts.cells small (footer (meta_of sheet) (meta_writable sheet can below) names)
