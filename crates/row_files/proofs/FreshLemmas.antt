-- The file of a table's fresh rows.
use Rattle.std.proofs.Common.{◌≡◌, ◌≢◌, ◌≤◌, ◌<◌, ◌^◌, ℕ, not, true, false, cond, List, [], ◌∷◌, length, map, filter, get_or, All, AllPairs, Some, inr, refl, sym, ap, ap₂, subst, ◌∙◌, arith, true≢false}
use Rattle.std.specs.List.{AllByRecursion, AllZip, list_any, sum_by}
use Rattle.std.proofs.lemmas.List.{get_or-map, length-map}
use Rattle.std.proofs.lemmas.List.Elements.{All-head, All-map, All-tail}
use Rattle.std.proofs.lemmas.List.Sums.{sum_by-cons}
use Rattle.std.proofs.lemmas.Bool.{ne_eqb}
use Rattle.lake_types.specs.Cells.{laid_cells}
use Rattle.lake_types.specs.Texts.{HoldsBytes}
use Rattle.lake_types.specs.Weights.{row_weight}
use Rattle.lake_types.specs.declared.limits.TheConstants.{MAX_FIELD, MAX_NAME_BYTES, MAX_PATH_BYTES, MAX_TXN_WEIGHT}
use Rattle.lake_types.specs.declared.sheet.Sheet.{Sheet}
use Rattle.lake_types.specs.declared.sheet.SheetColumn.{SheetColumn}
use Rattle.lake_types.specs.declared.value.Column.{Column}
use Rattle.lake_types.specs.declared.value.Value.TheVariants as value
use Rattle.lake_model.specs.Apply.{Cells}
use Rattle.col_stats.specs.Stats.{Fits}
use Rattle.col_stats.specs.declared.stats.ColStats.{ColStats}
use Rattle.pq_file.specs.Writable as writable
use Rattle.pq_file.specs.Writable.{IsCell, IsWritable, OtherField}
use Rattle.sheet_rows.specs.Sheets.{AreCounts, HasCells, cells_of, column_weight, data_weight, file_cell, file_column, is_data, sheet_of, sheet_weight}
use Rattle.sheet_rows.specs.Sheets as sheets
use Rattle.sheet_rows.proofs.SheetLemmas.{reads_back, weighs_rows}
use Rattle.cat_view.specs.Files.{Filed, Files, sheet_at}
use Rattle.cat_view.specs.Staged as staged
use Rattle.cat_view.specs.Staged.{HasStats, HoldsCells, IsSealed, IsStagedFile, NamedStagedFile}
use Rattle.cat_view.specs.Typed.{HoldsTyped, IsTyped}
use Rattle.cat_view.specs.Workable.{AreColumns}
use Rattle.row_files.specs.Fresh.{AreFresh, HoldAllBytes, IsLaid, MayHold}

-- ---- rows that are laid

all_laid : (columns : List Column) (rows : List Cells) → All (IsLaid columns) rows → map (laid_cells columns) rows ≡ rows
all_laid columns [] all = refl
all_laid columns (r ∷ rows) all = ap₂ (λ x xs. x ∷ xs) (All-head (IsLaid columns) r rows all) (all_laid columns rows (All-tail (IsLaid columns) r rows all))

-- ---- columns of data

abbrev IsBelow : Column → Type 0
IsBelow c = c.field < MAX_FIELD

no_ids : (c : Column) → IsBelow c → c.field ≢ MAX_FIELD
no_ids c below same = omega (arith, below, same)

is_of_data : (rows : List Cells) (c : Column) → IsBelow c → is_data (file_column rows c) ≡ true
is_of_data rows c below = ap not (ne_eqb c.field MAX_FIELD (no_ids c below))

all_data : (rows : List Cells) (columns : List Column) → All IsBelow columns → filter is_data (map (file_column rows) columns) ≡ map (file_column rows) columns
all_data rows [] all = refl
all_data rows (c ∷ columns) all =
    rw (is_of_data rows c (All-head IsBelow c columns all)) (ap (λ xs. file_column rows c ∷ xs) (all_data rows columns (All-tail IsBelow c columns all)))

none_of_ids : (rows : List Cells) (columns : List Column) → All IsBelow columns → list_any (λ (c : SheetColumn). not (is_data c)) (map (file_column rows) columns) ≡ false
none_of_ids rows [] all = refl
none_of_ids rows (c ∷ columns) all =
    rw (is_of_data rows c (All-head IsBelow c columns all)) (none_of_ids rows columns (All-tail IsBelow c columns all))

weigh_data : (rows : List Cells) (columns : List Column) → All IsBelow columns
    → sum_by data_weight (map (file_column rows) columns) ≡ sum_by column_weight (map (file_column rows) columns)
weigh_data rows [] all = refl
weigh_data rows (c ∷ columns) all =
    let one : data_weight (file_column rows c) ≡ column_weight (file_column rows c) =
    ap (λ b. cond b (column_weight (file_column rows c)) 0) (is_of_data rows c (All-head IsBelow c columns all)) in
    omega (
      arith,
      one,
      weigh_data rows columns (All-tail IsBelow c columns all),
      sum_by-cons data_weight (file_column rows c) (map (file_column rows) columns),
      sum_by-cons column_weight (file_column rows c) (map (file_column rows) columns),
    )

-- ---- the weight

light : (columns : List Column) (rows : List Cells) → AreColumns columns → AreFresh columns rows → sheet_weight (sheet_of columns rows) ≤ MAX_TXN_WEIGHT
light columns rows are fresh =
    let weighs : sheet_weight (sheet_of columns rows) ≡ sum_by row_weight (map (laid_cells columns) rows) = weighs_rows columns rows (λ k d lt. no_ids (get_or columns k d) (are.fields k d lt)) in
    let same : sum_by row_weight (map (laid_cells columns) rows) ≡ sum_by row_weight rows = ap (sum_by row_weight) (all_laid columns rows fresh.laid) in
    omega (arith, weighs, same, fresh.light)

-- ---- a sheet that can be written

can_write : (rows : List Cells) (c : Column) → length c.name ≤ MAX_NAME_BYTES → c.field < MAX_FIELD → All (MayHold c) rows → writable.IsColumn (file_column rows c)
can_write rows c name field may = record {
  cells = All-map (IsCell c.ty) (file_cell c) rows may;
  required = λ no. absurd (true≢false no);
  name = name;
  field = omega (arith, field);
}

can_be_written : (columns : List Column) (rows : List Cells) → AreColumns columns → AreFresh columns rows → IsWritable (sheet_of columns rows)
can_be_written columns rows are fresh = record {
  few_rows = fresh.few;
  few_columns = omega (arith, length-map columns (file_column rows), are.few);
  counts = All-map (HasCells (length rows)) (file_column rows) columns (λ k d lt. length-map rows (file_cell (get_or columns k d)));
  columns = All-map writable.IsColumn (file_column rows) columns (λ k d lt. can_write rows (get_or columns k d) (are.names k d lt) (are.fields k d lt) (fresh.fit k d lt));
  fields = differ;
  light = omega (arith, weigh_data rows columns are.fields, light columns rows are fresh);
}
  where
    differ : AllPairs OtherField (map (file_column rows) columns)
    differ i j d lt within =
        let e : Column = get_or columns i (record { field = 0; name = []; ty = d.ty; initial = value.Null; default_value = value.Null; nulls = true }) in
        let long : j < length columns = omega (arith, length-map columns (file_column rows)) in
        inr (rw (get_or-map (file_column rows) columns i e d (omega arith), get_or-map (file_column rows) columns j e d long)
        (λ same. are.differ i j e lt long (let h : Some (get_or columns i e).field ≡ Some (get_or columns j e).field = same in cc)))

-- ---- columns beside those of the sheet

fitting : (rows : List Cells) (c : Column) → All (MayHold c) rows → All (Fits c.ty) (map (file_cell c) rows)
fitting rows c may = All-map (Fits c.ty) (file_cell c) rows (λ k d lt. (may k d lt).fits)

beside : (rows : List Cells) (columns : List Column) → All (λ (c : Column). All (MayHold c) rows) columns → AllZip sheets.IsColumnOf columns (map (file_column rows) columns)
beside rows [] fit = tt
beside rows (c ∷ columns) fit = (
  record { field = refl; cells = fitting rows c (All-head (λ (x : Column). All (MayHold x) rows) c columns fit) },
  beside rows columns (All-tail (λ (x : Column). All (MayHold x) rows) c columns fit),
)

-- ---- what the code needs of fresh rows

module _ (columns : List Column) (rows : List Cells) (sheet : Sheet) (is : sheet ≡ sheet_of columns rows) (are : AreColumns columns) (fresh : AreFresh columns rows) where
  pub too_heavy : 2 ^ 64 ≤ sheet_weight sheet → ⊥
  too_heavy heavy = omega (arith, ap sheet_weight is, light columns rows are fresh, heavy)

  pub fits_columns : (of : List SheetColumn) → of ≡ sheet.columns → AllZip sheets.IsColumnOf columns of
  fits_columns of same = subst (λ cs. AllZip sheets.IsColumnOf columns cs) (sym (same ∙ ap (λ (s : Sheet). s.columns) is)) (beside rows columns fresh.fit)

  pub writes : IsWritable sheet
  writes = subst IsWritable (sym is) (can_be_written columns rows are fresh)

-- ---- what a staged file holds

named_alike : (rows : List Cells) (columns : List Column) → AllZip staged.IsColumnOf columns (map (file_column rows) columns)
named_alike rows [] = tt
named_alike rows (c ∷ columns) = (record { field = refl; type = refl }, named_alike rows columns)

counted : (cs : List SheetColumn) (stats : List ColStats) → AllZip AreCounts cs stats → AllZip HasStats cs stats
counted [] [] all = tt
counted [] (s ∷ stats) all = absurd all
counted (c ∷ cs) [] all = absurd all
counted (c ∷ cs) (s ∷ stats) all = (record { field = all.0.field; counted = all.0.counted }, counted cs stats all.1)

-- the file of this sheet lies under the name, with its size
pub record HoldsSheet (files : Files) (x : NamedStagedFile) (sheet : Sheet) : Type 0 where
  pub filed : Filed
  pub there : files x.name ≡ Some filed
  pub size_is : length filed.bytes ≡ x.size
  pub sheet_is : filed.sheet ≡ Some sheet
  pub short : length x.name ≤ MAX_PATH_BYTES
  pub rows : sheet.rows ≡ x.rows
  pub weight : sheet_weight sheet ≡ x.weight
  pub stats : AllZip AreCounts sheet.columns x.stats

pub holds_cells : (files : Files) (columns : List Column) (rows : List Cells) (x : NamedStagedFile) → AreColumns columns → AreFresh columns rows
    → HoldsSheet files x (sheet_of columns rows) → HoldsCells files columns x rows
holds_cells files columns rows x are fresh held = record {
  sheet = sheet_of columns rows;
  staged = record {
    sealed = record { filed = held.filed; there = held.there; size_is = held.size_is; sheet_is = held.sheet_is; short = held.short };
    rows = held.rows;
    some = omega (arith, held.rows, fresh.some);
    few = omega (arith, held.rows, fresh.few);
    weight = held.weight;
    columns_are = subst (λ cs. AllZip staged.IsColumnOf columns cs) (sym (all_data rows columns are.fields)) (named_alike rows columns);
    stats = subst (λ cs. AllZip HasStats cs x.stats) (sym (all_data rows columns are.fields)) (counted (map (file_column rows) columns) x.stats held.stats);
  };
  without_ids = none_of_ids rows columns are.fields;
  cells = ap (map (laid_cells columns)) (reads_back columns rows ∙ all_laid columns rows fresh.laid) ∙ all_laid columns rows fresh.laid;
}

-- ---- of their columns' types

typed_column : (rows : List Cells) (c : Column) → All (MayHold c) rows → All HoldsBytes (map (file_cell c) rows) → IsTyped (length rows) (file_column rows c)
typed_column rows c may held = record {
  count = length-map rows (file_cell c);
  cells = λ k d lt. record { fits = fitting rows c may k d lt; bytes = held k d lt };
}

typed_columns : (rows : List Cells) (columns : List Column) → All (λ (c : Column). All (MayHold c) rows) columns → HoldAllBytes (map (file_column rows) columns)
    → AllByRecursion (IsTyped (length rows)) (map (file_column rows) columns)
typed_columns rows [] fit held = tt
typed_columns rows (c ∷ columns) fit held = (
  typed_column rows c (All-head (λ (x : Column). All (MayHold x) rows) c columns fit)
      (All-head (λ (x : SheetColumn). All HoldsBytes x.cells) (file_column rows c) (map (file_column rows) columns) held),
  typed_columns rows columns (All-tail (λ (x : Column). All (MayHold x) rows) c columns fit)
      (All-tail (λ (x : SheetColumn). All HoldsBytes x.cells) (file_column rows c) (map (file_column rows) columns) held),
)

pub holds_typed : (files : Files) (columns : List Column) (rows : List Cells) (name : List ℕ) → AreColumns columns → AreFresh columns rows → HoldAllBytes (sheet_of columns rows).columns
    → sheet_at files name ≡ Some (sheet_of columns rows) → HoldsTyped files name
holds_typed files columns rows name are fresh held there sheet at =
    let same : sheet_of columns rows ≡ sheet = cc in
    subst (λ (s : Sheet). AllByRecursion (IsTyped s.rows) (filter is_data s.columns)) same
    (subst (AllByRecursion (IsTyped (length rows))) (sym (all_data rows columns are.fields)) (typed_columns rows columns fresh.fit held))
