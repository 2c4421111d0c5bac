-- The rows that are told are those that the plain lake chooses.
use Rattle.std.proofs.Common.{◌≡◌, ℕ, ◌+◌, Bool, true, false, cond, List, [], ◌∷◌, ◌++◌, map, filter, refl, sym, ap, ap₂, ◌∙◌, arith}
use Rattle.std.specs.Prelude.{Option, Some}
use Rattle.std.specs.Arc.{arc_value}
use Rattle.std.proofs.lemmas.List.{map-append}
use Rattle.std.proofs.lemmas.List.Elements.{filter-append}
use Rattle.std.proofs.lemmas.List.Folds.{flat_map-map}
use Rattle.lake_types.specs.Cells.{cell_named, laid_cells}
use Rattle.lake_types.specs.Truth.{chooses}
use Rattle.lake_types.specs.declared.pred.Pred.{Pred}
use Rattle.lake_types.specs.declared.value.Column.{Column}
use Rattle.lake_types.specs.declared.value.Row.{Row}
use Rattle.lake_model.specs.Apply.{Cells, Draft}
use Rattle.lake_model.specs.Rows.{SeenRow, fresh_rows, old_row, places}
use Rattle.lake_model.specs.declared.change.RowRef.TheVariants as row_ref
use Rattle.pred.specs.declared.bound.Bound.{Bound}
use Rattle.file_disk.specs.Folder.{Folder}
use Rattle.cat_view.specs.Named.{live_rows, ordered, table_rows}
use Rattle.cat_view.specs.Views.{named_file, named_table}
use Rattle.cat_view.specs.declared.live.TableView.{TableView}
use Rattle.row_files.specs.Folders.{files_of}
use Rattle.scan_exec.specs.Chosen.{fields_told, refs_of, rows_of, told_row}
use Rattle.scan_exec.specs.Own.{is_seen_chosen, own_row, own_rows, refs_told, rows_told}
use Rattle.scan_exec.specs.Picking.{IsBound, id_of, is_chosen, short_row, short_rows}
use Rattle.scan_exec.specs.Telling.{rows_in}
use Rattle.lake_model.proofs.CreationLemmas.{same_tests}
use Rattle.cat_view.proofs.BuildLemmas.{ordered-map}
use Rattle.scan_exec.proofs.OrderLemmas.{ordered_filter}

-- the fresh rows by their places
pub fresh_are : (columns : List Column) (next place : ℕ) (rows : List Cells)
    → fresh_rows place (next + place) (map (λ cells. Some (laid_cells columns cells)) rows) ≡ own_rows columns next place rows
fresh_are columns next place [] = refl
fresh_are columns next place (cells ∷ rows) =
    let same : next + place + 1 ≡ next + (place + 1) = omega arith in
    ap (λ l. own_row columns next place cells ∷ l)
    (ap (λ id. fresh_rows (place + 1) id (map (λ cells. Some (laid_cells columns cells)) rows)) same ∙ fresh_are columns next (place + 1) rows)

module _ (bound : Option Bound) (fields : List ℕ) where
  -- the old ones
  pub old_told : (rows : List Row) → rows_told bound fields (map old_row rows) ≡ short_rows bound fields rows
  old_told [] = refl
  old_told (r ∷ rows) = go (is_chosen bound r) (old_told rows)
    where
      go : (b : Bool) → rows_told bound fields (map old_row rows) ≡ short_rows bound fields rows
          → map (told_row fields) (cond b (old_row r ∷ filter (is_seen_chosen bound) (map old_row rows)) (filter (is_seen_chosen bound) (map old_row rows)))
          ≡ map (short_row fields) (cond b (r ∷ filter (is_chosen bound) rows) (filter (is_chosen bound) rows))
      go true more = ap (λ l. short_row fields r ∷ l) more
      go false more = more

  pub old_refs : (rows : List Row) → refs_told bound (map old_row rows) ≡ map (λ (r : Row). row_ref.Old r.id) (short_rows bound fields rows)
  old_refs [] = refl
  old_refs (r ∷ rows) = go (is_chosen bound r) (old_refs rows)
    where
      go : (b : Bool) → refs_told bound (map old_row rows) ≡ map (λ (r : Row). row_ref.Old r.id) (short_rows bound fields rows)
          → places (cond b (old_row r ∷ filter (is_seen_chosen bound) (map old_row rows)) (filter (is_seen_chosen bound) (map old_row rows)))
          ≡ map (λ (r : Row). row_ref.Old r.id) (map (short_row fields) (cond b (r ∷ filter (is_chosen bound) rows) (filter (is_chosen bound) rows)))
      go true more = ap (λ l. row_ref.Old r.id ∷ l) more
      go false more = more

  -- rows may be put in order once they are cut short
  pub order_short : (rows : List Row) → ordered id_of (short_rows bound fields rows) ≡ short_rows bound fields (ordered id_of rows)
  order_short rows =
      ordered-map id_of id_of (short_row fields) (λ r. refl) (filter (is_chosen bound) rows)
      ∙ ap (map (short_row fields)) (ordered_filter id_of (is_chosen bound) rows)

  pub short-append : (xs ys : List Row) → short_rows bound fields (xs ++ ys) ≡ short_rows bound fields xs ++ short_rows bound fields ys
  short-append xs ys =
      ap (map (short_row fields)) (filter-append (is_chosen bound) xs ys) ∙ map-append (short_row fields) (filter (is_chosen bound) xs) (filter (is_chosen bound) ys)

-- the rows of a table of the version
pub table_told : {F : Type 0} (name : F → List ℕ) (folder : Folder) (bound : Option Bound) (fields : List ℕ) (x : TableView F)
    → ordered id_of (short_rows bound fields (rows_in name folder x.columns x.files.items) ++ short_rows bound fields (map (λ r. arc_value r) x.inlined.items))
    ≡ short_rows bound fields (table_rows (files_of folder) (named_table name x))
table_told name folder bound fields x =
    let files = rows_in name folder x.columns x.files.items in
    let inlined : List Row = map (λ r. arc_value r) x.inlined.items in
    ap (ordered id_of) (sym (short-append bound fields files inlined)) ∙ order_short bound fields (files ++ inlined)
    ∙ ap (λ l. short_rows bound fields (ordered id_of (l ++ inlined))) (sym (flat_map-map (live_rows (files_of folder) x.columns) (λ f. named_file name (arc_value f)) x.files.items))

-- of a draft whose fresh rows are those of an own list
module _ (d : Draft) (test : Option Pred) (bound : Option Bound) (bind : IsBound d.columns test bound) (own : List Cells)
    (fresh : d.fresh ≡ map (λ cells. Some (laid_cells d.columns cells)) own) where
  seen : List SeenRow
  seen = map old_row d.rows ++ own_rows d.columns d.next_row 0 own

  chosen_are : filter (λ (r : SeenRow). chooses test (cell_named d.columns r.cells)) (map old_row d.rows ++ fresh_rows 0 d.next_row d.fresh)
      ≡ filter (is_seen_chosen bound) (map old_row d.rows) ++ filter (is_seen_chosen bound) (own_rows d.columns d.next_row 0 own)
  chosen_are =
      let start : d.next_row ≡ d.next_row + 0 = omega arith in
      let rows : fresh_rows 0 d.next_row d.fresh ≡ own_rows d.columns d.next_row 0 own = ap₂ (fresh_rows 0) start fresh ∙ fresh_are d.columns d.next_row 0 own in
      ap (λ l. filter (λ (r : SeenRow). chooses test (cell_named d.columns r.cells)) (map old_row d.rows ++ l)) rows
      ∙ same_tests (λ (r : SeenRow). chooses test (cell_named d.columns r.cells)) (is_seen_chosen bound) (λ r. sym (bind r.cells)) (map old_row d.rows ++ own_rows d.columns d.next_row 0 own)
      ∙ filter-append (is_seen_chosen bound) (map old_row d.rows) (own_rows d.columns d.next_row 0 own)

  pub rows_are : (names : Option (List (List ℕ))) → rows_of d test names
      ≡ short_rows bound (fields_told d.columns names) d.rows ++ rows_told bound (fields_told d.columns names) (own_rows d.columns d.next_row 0 own)
  rows_are names =
      let fields = fields_told d.columns names in
      let rest = own_rows d.columns d.next_row 0 own in
      ap (map (told_row fields)) chosen_are ∙ map-append (told_row fields) (filter (is_seen_chosen bound) (map old_row d.rows)) (filter (is_seen_chosen bound) rest)
      ∙ ap (λ l. l ++ rows_told bound fields rest) (old_told bound fields d.rows)

  pub refs_are : (fields : List ℕ) → refs_of d test ≡ map (λ (r : Row). row_ref.Old r.id) (short_rows bound fields d.rows) ++ refs_told bound (own_rows d.columns d.next_row 0 own)
  refs_are fields =
      let rest = own_rows d.columns d.next_row 0 own in
      ap places chosen_are ∙ map-append (λ (r : SeenRow). r.at) (filter (is_seen_chosen bound) (map old_row d.rows)) (filter (is_seen_chosen bound) rest)
      ∙ ap (λ l. l ++ refs_told bound rest) (old_refs bound fields d.rows)
