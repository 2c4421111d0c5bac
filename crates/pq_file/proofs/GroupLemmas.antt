-- The chunks of a group and the groups of a file, one turn of a loop at a time.
use Rattle.std.proofs.Common.{◌≡◌, ℕ, ◌+◌, ◌≤◌, ◌<◌, List, [], ◌∷◌, ◌++◌, length, take, drop, get_or, refl, sym, ap, ◌∙◌, append_assoc, arith, inl, inr}
use Rattle.std.specs.Prelude.{All}
use Rattle.std.specs.List.{flat_map, sum_by}
use Rattle.std.proofs.lemmas.Bool.{cases_lt}
use Rattle.std.proofs.lemmas.List.{append-nil, drop-take, drop_all, drop_more, get_or_past, length-append, take-append-drop, take-take, take_all}
use Rattle.std.proofs.lemmas.List.Elements.{All-append}
use Rattle.std.proofs.lemmas.List.Sums.{get_or-le-sum_by, sum_by-cons}
use Rattle.lake_types.specs.declared.sheet.SheetColumn.{SheetColumn}
use Rattle.lake_types.specs.declared.value.Value.{Value}
use Rattle.lake_types.specs.declared.value.Value.TheVariants as value
use Rattle.lake_types.specs.Weights.{weight}
use Rattle.pq_meta.specs.declared.meta.MetaChunk.{MetaChunk}
use Rattle.pq_meta.specs.declared.meta.MetaGroup.{MetaGroup}
use Rattle.pq_file.specs.Canonical.{HasPieceTexts, chunk_at, chunks_at, group_at, group_bytes, groups_at, groups_bytes, piece_bytes}
use Rattle.pq_file.specs.Cuts.{cuts, row_weight, row_weights}
use Rattle.pq_file.specs.Writable.{HasCellTexts, HasCells, HasText, column_weight}
use Rattle.pq_file.proofs.CutLemmas.{no_weight}

-- ---- weights

cell_light : (column : SheetColumn) (row : ℕ) → weight (get_or column.cells row value.Null) ≤ column_weight column + 1
cell_light column row =
    elim (cases_lt row (length column.cells)) [
      | inl lt ↦ omega (arith, get_or-le-sum_by weight column.cells row value.Null lt)
      | inr le ↦ rw (get_or_past column.cells row value.Null le) (omega arith)
    ]

pub row_light : (columns : List SheetColumn) (row : ℕ) → row_weight columns row ≤ sum_by column_weight columns + length columns
row_light [] row = omega arith
row_light (column ∷ columns) row =
    omega (
      arith,
      row_light columns row,
      cell_light column row,
      sum_by-cons column_weight column columns,
      sum_by-cons (λ (c : SheetColumn). weight (get_or c.cells row value.Null)) column columns,
    )

-- ---- the chunks of a group

next_column : (columns : List SheetColumn) (i : ℕ) (column : SheetColumn) → i < length columns → column ≡ get_or columns i column → drop i columns ≡ column ∷ drop (i + 1) columns
next_column columns i column lt is = drop_more columns i column lt ∙ ap (λ (c : SheetColumn). c ∷ drop (i + 1) columns) (sym is)

pub bytes_go_on : (row rows i : ℕ) (columns : List SheetColumn) (column : SheetColumn) (before after total : List ℕ)
    → i < length columns → column ≡ get_or columns i column → after ≡ before ++ piece_bytes row rows column
    → before ++ flat_map (piece_bytes row rows) (drop i columns) ≡ total → after ++ flat_map (piece_bytes row rows) (drop (i + 1) columns) ≡ total
bytes_go_on row rows i columns column before after total lt is grown so_far =
    let one : before ++ flat_map (piece_bytes row rows) (drop i columns) ≡ after ++ flat_map (piece_bytes row rows) (drop (i + 1) columns) =
    rw (next_column columns i column lt is, grown) (sym (append_assoc before (piece_bytes row rows column) (flat_map (piece_bytes row rows) (drop (i + 1) columns)))) in
    sym one ∙ so_far

pub bytes_end : (row rows : ℕ) (columns : List SheetColumn) (before total : List ℕ)
    → before ++ flat_map (piece_bytes row rows) (drop (length columns) columns) ≡ total → before ≡ total
bytes_end row rows columns before total so_far =
    let none : drop (length columns) columns ≡ [] = drop_all (length columns) columns (omega arith) in
    let one : before ++ flat_map (piece_bytes row rows) (drop (length columns) columns) ≡ before = rw none (append-nil before) in
    sym one ∙ so_far

pub chunks_go_on : (row rows i : ℕ) (columns : List SheetColumn) (column : SheetColumn) (before after : List ℕ) (chunks total : List MetaChunk) (chunk : MetaChunk)
    → i < length columns → column ≡ get_or columns i column → after ≡ before ++ piece_bytes row rows column → chunk ≡ chunk_at row rows (length before) column
    → chunks ++ chunks_at row rows (length before) (drop i columns) ≡ total → (chunks ++ chunk ∷ []) ++ chunks_at row rows (length after) (drop (i + 1) columns) ≡ total
chunks_go_on row rows i columns column before after chunks total chunk lt is grown placed so_far =
    let long : length after ≡ length before + length (piece_bytes row rows column) = ap (λ (xs : List ℕ). length xs) grown ∙ length-append before (piece_bytes row rows column) in
    let one : chunks ++ chunks_at row rows (length before) (drop i columns) ≡ (chunks ++ chunk ∷ []) ++ chunks_at row rows (length after) (drop (i + 1) columns) =
    rw (next_column columns i column lt is, long, placed)
    (sym (append_assoc chunks (chunk_at row rows (length before) column ∷ []) (chunks_at row rows (length before + length (piece_bytes row rows column)) (drop (i + 1) columns)))) in
    sym one ∙ so_far

pub chunks_end : (row rows at : ℕ) (columns : List SheetColumn) (chunks total : List MetaChunk)
    → chunks ++ chunks_at row rows at (drop (length columns) columns) ≡ total → chunks ≡ total
chunks_end row rows at columns chunks total so_far =
    let none : drop (length columns) columns ≡ [] = drop_all (length columns) columns (omega arith) in
    let one : chunks ++ chunks_at row rows at (drop (length columns) columns) ≡ chunks = rw none (append-nil chunks) in
    sym one ∙ so_far

pub ruleset group_turn = (bytes_go_on, bytes_end, chunks_go_on, chunks_end)

-- ---- the texts

pub joined : (row rows : ℕ) (cells : List Value) → take row cells ++ take rows (drop row cells) ≡ take (row + rows) cells
joined row rows cells =
    let front : take row (take (row + rows) cells) ≡ take row cells = take-take row (row + rows) cells (omega arith) in
    let behind : drop row (take (row + rows) cells) ≡ take rows (drop row cells) = drop-take row rows cells in
    rw (← front, ← behind) (take-append-drop row (take (row + rows) cells))

pub more_texts : (columns : List SheetColumn) (row rows : ℕ) → All (HasPieceTexts 0 row) columns → All (HasPieceTexts row rows) columns → All (HasPieceTexts 0 (row + rows)) columns
more_texts columns row rows before here k d lt is =
    let cells : List Value = (get_or columns k d).cells in
    rw (← joined row rows cells) (All-append HasText (take row cells) (take rows (drop row cells)) (before k d lt is) (here k d lt is))

pub all_texts : (columns : List SheetColumn) (row rows : ℕ) → row ≤ rows → rows ≤ row → All (HasCells rows) columns → All (HasPieceTexts 0 row) columns → All HasCellTexts columns
all_texts columns row rows low high counts texts k d lt is =
    let cells : List Value = (get_or columns k d).cells in
    let whole : take row cells ≡ cells = take_all row cells (omega (arith, counts k d lt)) in
    rw whole at (texts k d lt is)

-- ---- the groups

pub group_bytes_go_on : (columns : List SheetColumn) (row rows : ℕ) (sizes more : List ℕ) (before after total : List ℕ)
    → sizes ≡ rows ∷ more → after ≡ before ++ group_bytes columns row rows
    → before ++ groups_bytes columns row sizes ≡ total → after ++ groups_bytes columns (row + rows) more ≡ total
group_bytes_go_on columns row rows sizes more before after total is grown so_far =
    let one : before ++ groups_bytes columns row sizes ≡ after ++ groups_bytes columns (row + rows) more =
    rw (is, grown) (sym (append_assoc before (group_bytes columns row rows) (groups_bytes columns (row + rows) more))) in
    sym one ∙ so_far

pub groups_go_on : (columns : List SheetColumn) (row rows : ℕ) (sizes more : List ℕ) (before after : List ℕ) (groups total : List MetaGroup) (group : MetaGroup)
    → sizes ≡ rows ∷ more → after ≡ before ++ group_bytes columns row rows → group ≡ group_at row rows (length before) columns
    → groups ++ groups_at columns row (length before) sizes ≡ total → (groups ++ group ∷ []) ++ groups_at columns (row + rows) (length after) more ≡ total
groups_go_on columns row rows sizes more before after groups total group is grown placed so_far =
    let long : length after ≡ length before + length (group_bytes columns row rows) = ap (λ (xs : List ℕ). length xs) grown ∙ length-append before (group_bytes columns row rows) in
    let one : groups ++ groups_at columns row (length before) sizes ≡ (groups ++ group ∷ []) ++ groups_at columns (row + rows) (length after) more =
    rw (is, long, placed)
    (sym (append_assoc groups (group_at row rows (length before) columns ∷ []) (groups_at columns (row + rows) (length before + length (group_bytes columns row rows)) more))) in
    sym one ∙ so_far

no_cut : (columns : List SheetColumn) (rows : ℕ) → cuts (drop rows (row_weights columns rows)) ≡ []
no_cut columns rows = rw (no_weight columns rows) refl

pub group_bytes_end : (columns : List SheetColumn) (row rows : ℕ) (before total : List ℕ) → row ≤ rows → rows ≤ row
    → before ++ groups_bytes columns row (cuts (drop row (row_weights columns rows))) ≡ total → before ≡ total
group_bytes_end columns row rows before total low high so_far =
    let end : row ≡ rows = omega arith in
    let one : before ++ groups_bytes columns row (cuts (drop row (row_weights columns rows))) ≡ before = rw (end, no_cut columns rows) (append-nil before) in
    sym one ∙ so_far

pub groups_end : (columns : List SheetColumn) (row rows at : ℕ) (groups total : List MetaGroup) → row ≤ rows → rows ≤ row
    → groups ++ groups_at columns row at (cuts (drop row (row_weights columns rows))) ≡ total → groups ≡ total
groups_end columns row rows at groups total low high so_far =
    let end : row ≡ rows = omega arith in
    let one : groups ++ groups_at columns row at (cuts (drop row (row_weights columns rows))) ≡ groups = rw (end, no_cut columns rows) (append-nil groups) in
    sym one ∙ so_far

pub ruleset groups_turn = (group_bytes_go_on, group_bytes_end, groups_go_on, groups_end)
