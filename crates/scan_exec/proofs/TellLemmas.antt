-- The rows of a data file whose bytes are told.
use Rattle.std.proofs.Common.{◌≡◌, ◌+◌, ℕ, Bool, true, false, cond, List, [], ◌∷◌, Option, Some, None, refl, sym, ap, subst, ◌∙◌}
use Rattle.std.specs.Prelude.{IfSome, option_and_then, option_map, unwrap_or}
use Rattle.std.proofs.lemmas.Option.{none-some}
use Rattle.lake_types.specs.declared.sheet.Sheet.{Sheet}
use Rattle.lake_types.specs.declared.value.Column.{Column}
use Rattle.lake_types.specs.declared.value.Row.{Row}
use Rattle.file_disk.specs.Folder.{Folder}
use Rattle.sheet_rows.specs.Live as live
use Rattle.sheet_rows.specs.Live.{StatedDeletes, deleted_in, is_as_stated, is_delete_sheet, laid_rows, left_from, live_of}
use Rattle.sheet_rows.specs.declared.live.Stated.{Stated}
use Rattle.cat_view.specs.Files.{Filed}
use Rattle.cat_view.specs.Named.{deleted, live_rows, rows_in}
use Rattle.cat_view.specs.Views.{named_deletes, named_file}
use Rattle.cat_view.specs.declared.live.LiveDelete.{LiveDelete}
use Rattle.cat_view.specs.declared.live.LiveFile.{LiveFile}
use Rattle.row_files.specs.Folders.{filed, files_of, sheet_in}
use Rattle.row_files.specs.Reading as reading
use Rattle.row_files.specs.Reading.{AreLeft, left_of, stated, stated_deletes}
use Rattle.scan_exec.specs.Telling.{Tells, TellsFile}

-- rows that could be read are those that are laid
laid : (s : Stated) (columns : List Column) (o : Option Sheet) (rows : List Row) → option_and_then (live_of s columns) o ≡ Some rows
    → unwrap_or (option_and_then (laid_rows s.first_row columns) o) [] ≡ rows
laid s columns None rows h = absurd (none-some rows h)
laid s columns (Some sheet) rows h = go (is_as_stated s columns sheet) refl
  where
    go : (b : Bool) → is_as_stated s columns sheet ≡ b → unwrap_or (laid_rows s.first_row columns sheet) [] ≡ rows
    go true e = ap (λ o. unwrap_or o []) (sym (ap (λ b. cond b (laid_rows s.first_row columns sheet) None) e) ∙ h)
    go false e = absurd (none-some rows (sym (ap (λ b. cond b (laid_rows s.first_row columns sheet) None) e) ∙ h))

-- places that could be read are those that are listed
listed : (s : StatedDeletes) (o : Option Sheet) (places : List ℕ) → option_and_then (deleted_in s) o ≡ Some places
    → unwrap_or (option_map live.places_in o) [] ≡ places
listed s None places h = absurd (none-some places h)
listed s (Some sheet) places h = go (is_delete_sheet s sheet) refl
  where
    go : (b : Bool) → is_delete_sheet s sheet ≡ b → live.places_in sheet ≡ places
    go true e = ap (λ o. unwrap_or o []) (sym (ap (λ b. cond b (Some (live.places_in sheet)) None) e) ∙ h)
    go false e = absurd (none-some places (sym (ap (λ b. cond b (Some (live.places_in sheet)) None) e) ∙ h))

none_left : {X : Type 0} (place : ℕ) (xs : List X) → left_from place [] xs ≡ xs
none_left place [] = refl
none_left place (x ∷ xs) = ap (λ l. x ∷ l) (none_left (place + 1) xs)

both_left : (places : Option (List ℕ)) (rows : Option (List Row)) (left : List Row) → left_of places rows ≡ Some left
    → (p : List ℕ) × (r : List Row) × (places ≡ Some p) × (rows ≡ Some r) × (left_from 0 p r ≡ left)
both_left None rows left h = absurd (none-some left h)
both_left (Some p) None left h = absurd (none-some left h)
both_left (Some p) (Some r) left h = (p, r, refl, refl, ap (λ o. unwrap_or o []) h)

sheet_of : (o : Option (List ℕ)) (held : List ℕ) → o ≡ Some held → option_and_then (λ (f : Filed). f.sheet) (option_map filed o) ≡ sheet_in held
sheet_of o held e = ap (λ o. option_and_then (λ (f : Filed). f.sheet) (option_map filed o)) e

module _ {F : Type 0} (name : F → List ℕ) (bytes : F → Option (List ℕ)) (folder : Folder) (f : LiveFile F) (columns : List Column) where
  -- all rows of the data file
  data_rows : (t : Tells name bytes folder f.file) (rows : List Row) → reading.rows_in (stated f) columns t.held ≡ Some rows
      → rows_in (files_of folder) columns (named_file name f) ≡ rows
  data_rows t rows h =
      ap (λ o. unwrap_or (option_and_then (laid_rows f.first_row columns) o) []) (sheet_of (folder (name f.file)) t.held t.there)
      ∙ laid (stated f) columns (sheet_in t.held) rows h

  gone_places : (d : LiveDelete F) (t : Tells name bytes folder d.file) (places : List ℕ) → reading.places_in (stated_deletes name f d) t.held ≡ Some places
      → deleted (files_of folder) (Some (named_deletes name d)) ≡ places
  gone_places d t places h =
      ap (λ o. unwrap_or (option_map live.places_in o) []) (sheet_of (folder (name d.file)) t.held t.there)
      ∙ listed (stated_deletes name f d) (sheet_in t.held) places h

  told_left : (rows : List Row) (deletes : Option (LiveDelete F)) → Tells name bytes folder f.file → IfSome deletes (λ (d : LiveDelete F). Tells name bytes folder d.file)
      → AreLeft name bytes f columns rows deletes
      → left_from 0 (deleted (files_of folder) (option_map (named_deletes name) deletes)) (rows_in (files_of folder) columns (named_file name f)) ≡ rows
  told_left rows None t more h =
      none_left 0 (rows_in (files_of folder) columns (named_file name f))
      ∙ data_rows t rows (subst (λ o. IfSome o (λ held. reading.rows_in (stated f) columns held ≡ Some rows)) t.told h)
  told_left rows (Some d) t u h =
      let read = subst (λ o. IfSome o (λ held. left_of (reading.places_in (stated_deletes name f d) held) (reading.rows_in (stated f) columns t.held) ≡ Some rows)) u.told
      (subst (λ o. IfSome o (λ data_bytes. IfSome (bytes d.file) (λ held. left_of (reading.places_in (stated_deletes name f d) held) (reading.rows_in (stated f) columns data_bytes) ≡ Some rows))) t.told h) in
      let parts = both_left (reading.places_in (stated_deletes name f d) u.held) (reading.rows_in (stated f) columns t.held) rows read in
      ap (λ l. left_from 0 l (rows_in (files_of folder) columns (named_file name f))) (gone_places d u parts.0 parts.2)
      ∙ ap (left_from 0 parts.0) (data_rows t parts.1 parts.3) ∙ parts.4

  pub live_told : (rows : List Row) → TellsFile name bytes folder f → AreLeft name bytes f columns rows f.deletes
      → rows ≡ live_rows (files_of folder) columns (named_file name f)
  live_told rows t h = sym (told_left rows f.deletes t.data_file t.delete_file h)
