-- What is read of a file: a cell for each row, as many rows as the catalogue says, and places that rise.
use Rattle.std.proofs.Common.{◌≡◌, ◌+◌, ◌==◌, ◌&&◌, ℕ, suc, Bool, true, false, cond, List, [], ◌∷◌, length, map, All, Option, Some, None, is_none, option_map, option_and_then, unwrap_or, refl, sym, ap, subst, ◌∙◌}
use Rattle.std.specs.List.{slice_get}
use Rattle.std.proofs.lemmas.Bool.{and_parts, eqb-true}
use Rattle.std.proofs.lemmas.List.{length-map}
use Rattle.std.proofs.lemmas.List.FromFn.{length-map-range_with_len}
use Rattle.lake_types.specs.Cells.{laid_cells}
use Rattle.lake_types.specs.declared.limits.TheConstants.{MAX_FIELD}
use Rattle.lake_types.specs.declared.sheet.Sheet.{Sheet}
use Rattle.lake_types.specs.declared.sheet.SheetColumn.{SheetColumn}
use Rattle.lake_types.specs.declared.value.Column.{Column}
use Rattle.lake_types.specs.declared.value.Row.{Row}
use Rattle.lake_types.specs.declared.value.Value.{Value}
use Rattle.lake_model.specs.Apply.{Cells, numbered}
use Rattle.lake_model.proofs.IdLemmas.{length-numbered}
use Rattle.field_map.specs.Laid.{column_of, first_fault}
use Rattle.pq_file.specs.Sheets.{IsSound}
use Rattle.sheet_rows.specs.Live as live
use Rattle.sheet_rows.specs.Live.{StatedDeletes, by_column, deleted_in, is_as_stated, is_delete_sheet, laid_rows, live_of, number_in, rise_within, with_id, with_ids}
use Rattle.sheet_rows.specs.Sheets.{HasCells, cells_of, row_cells, sheet_weight}
use Rattle.sheet_rows.specs.declared.live.Stated.{Stated}
use Rattle.sheet_rows.proofs.DeleteLemmas.{rising}

-- a sheet that was read has a cell for each row
pub sound_cells : (sheet : Sheet) → IsSound sheet → All (HasCells sheet.rows) sheet.columns
sound_cells sheet sound k d lt = (sound.columns k d lt).count

-- ---- as many rows as the catalogue says

none_is : {A B : Type 0} (x : A) → None ≡ Some x → B
none_is x e = absurd (let no : None ≡ Some x = e in cc)

when : {A : Type 0} (b : Bool) (x : Option A) (y : A) → cond b x None ≡ Some y → (b ≡ true) × (x ≡ Some y)
when true x y e = (refl, e)
when false x y e = none_is y e

as_long : (rows : List Row) (o : Option (List Row)) → o ≡ Some rows → length rows ≡ length (unwrap_or o [])
as_long rows o e = ap (λ (x : Option (List Row)). length (unwrap_or x [])) (sym e)

one_more : (cells : Cells) (count : ℕ) (rows : List Row) (id : Option ℕ) (more : Option (List Row)) → ((m : List Row) → more ≡ Some m → length m ≡ count)
    → option_and_then (λ id. option_map (λ m. with_id id cells ∷ m) more) id ≡ Some rows → length rows ≡ suc count
one_more cells count rows None more all e = none_is rows e
one_more cells count rows (Some id) None all e = none_is rows e
one_more cells count rows (Some id) (Some m) all e = as_long rows (Some (with_id id cells ∷ m)) e ∙ ap suc (all m refl)

ids_length : (ids : List Value) (place : ℕ) (all : List Cells) (rows : List Row) → with_ids ids place all ≡ Some rows → length rows ≡ length all
ids_length ids place [] rows e = as_long rows (Some []) e
ids_length ids place (cells ∷ all) rows e =
    one_more cells (length all) rows (option_and_then number_in (slice_get ids place)) (with_ids ids (place + 1) all) (ids_length ids (place + 1) all) e

by_ids : (column : Option SheetColumn) (all : List Cells) (rows : List Row) → by_column column all ≡ Some rows → length rows ≡ length all
by_ids None all rows e = none_is rows e
by_ids (Some c) all rows e = ids_length c.cells 0 all rows (when (live.is_integer c.ty) (with_ids c.cells 0 all) rows e).1

laid_length : (first : Option ℕ) (columns : List Column) (sheet : Sheet) (rows : List Row) → laid_rows first columns sheet ≡ Some rows
    → length rows ≡ length (map (laid_cells columns) (cells_of sheet))
laid_length (Some first) columns sheet rows e =
    as_long rows (Some (numbered first (map (laid_cells columns) (cells_of sheet)))) e ∙ length-numbered first (map (laid_cells columns) (cells_of sheet))
laid_length None columns sheet rows e = by_ids (column_of sheet.columns MAX_FIELD) (map (laid_cells columns) (cells_of sheet)) rows e

pub row_count : (stated : Stated) (columns : List Column) (sheet : Sheet) (rows : List Row) → live_of stated columns sheet ≡ Some rows → length rows ≡ stated.rows
row_count stated columns sheet rows e =
    let told = when (is_as_stated stated columns sheet) (laid_rows stated.first_row columns sheet) rows e in
    let same = and_parts (sheet.rows == stated.rows) ((sheet_weight sheet == stated.weight) && is_none (first_fault sheet.columns columns)) told.0 in
    laid_length stated.first_row columns sheet rows told.1
    ∙ length-map (cells_of sheet) (laid_cells columns) ∙ length-map-range_with_len (row_cells sheet.columns) 0 sheet.rows ∙ eqb-true sheet.rows stated.rows same.0

-- ---- places

pub places_rise : (stated : StatedDeletes) (sheet : Sheet) (places : List ℕ) → deleted_in stated sheet ≡ Some places → rise_within 0 stated.rows places ≡ true
places_rise stated sheet places e =
    let told = rising (sheet.rows == stated.count) (live.names_only stated.path (column_of sheet.columns live.path_field)) (live.are_numbers (column_of sheet.columns live.place_field))
    (rise_within 0 stated.rows (live.places_in sheet)) (live.places_in sheet) places e in
    subst (λ ns. rise_within 0 stated.rows ns ≡ true) told.1 told.0
