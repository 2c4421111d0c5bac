-- The files of what is open tell what the folder holds, and their rows have ids within the limit.
use Rattle.std.proofs.Common.{◌≡◌, ℕ, List, [], ◌∷◌, map, refl, ◌∙◌, ap, rules}
use Rattle.std.specs.Prelude.{Option, Some, None, option_map}
use Rattle.std.specs.Arc.{arc_value}
use Rattle.std.specs.List.{AllByRecursion, flat_map}
use Rattle.std.specs.declared.sync.Arc.{Arc}
use Rattle.file_disk.specs.Folder.{Folder}
use Rattle.cat_view.specs.Files.{Filed}
use Rattle.cat_view.specs.Views.{named_file, named_tables, named_view, version_of}
use Rattle.cat_view.specs.Workable as workable
use Rattle.cat_view.specs.Workable.{IsWorkable}
use Rattle.cat_view.specs.declared.live.LiveDelete.{LiveDelete}
use Rattle.cat_view.specs.declared.live.LiveFile.{LiveFile}
use Rattle.cat_view.specs.declared.live.TableView.{TableView}
use Rattle.cat_view.specs.declared.version.View.{View}
use Rattle.lake_model.proofs.TableLemmas.{all-parts}
use Rattle.row_files.specs.Folders.{filed, files_of}
use Rattle.door.specs.Opened as opened
use Rattle.door.specs.Opened.{IsIn}
use Rattle.scan_exec.specs.Telling.{HasViewIds, HaveIds, TellFiles, Tells, TellsFile, TellsView}

module _ {F : Type 0} (name : F → List ℕ) (size : F → ℕ) (bytes : F → Option (List ℕ)) (folder : Folder) where
  -- ---- files tell what the folder holds

  tells_held : (f : F) (held : List ℕ) (o : Option (List ℕ)) → folder (name f) ≡ o → bytes f ≡ Some held → option_map (λ (x : Filed). x.bytes) (option_map filed o) ≡ Some held → Tells name bytes folder f
  tells_held f held None there told is = absurd (search (rules, is))
  tells_held f held (Some b) there told is = record { held = held; told = told; there = there ∙ is }

  tells : (f : F) → IsIn (files_of folder) (opened.carried_file name size bytes f) → Tells name bytes folder f
  tells f h = tells_held f h.filed.bytes (folder (name f)) refl h.told (ap (option_map (λ (x : Filed). x.bytes)) h.there)

  tells_file : (f : LiveFile F) (d : Option (LiveDelete F)) → f.deletes ≡ d → AllByRecursion (IsIn (files_of folder)) (opened.files_of name size bytes f) → TellsFile name bytes folder f
  tells_file f None e h = record { data_file = tells f.file h.0; delete_file = rw e tt }
  tells_file f (Some d) e h =
      let both = rw e at h in
      record { data_file = tells f.file both.0; delete_file = rw e (tells d.file both.1.0) }

  tell_files : {A : Type 0} (files : List (Arc (LiveFile F) A)) → AllByRecursion (IsIn (files_of folder)) (flat_map (λ f. opened.files_of name size bytes (arc_value f)) files)
      → TellFiles name bytes folder files
  tell_files [] h = tt
  tell_files (f ∷ files) h =
      let both = all-parts (IsIn (files_of folder)) (opened.files_of name size bytes (arc_value f)) (flat_map (λ x. opened.files_of name size bytes (arc_value x)) files) h in
      (tells_file (arc_value f) (arc_value f).deletes refl both.0, tell_files files both.1)

  tell_tables : {A : Type 0} (tables : List (Arc (TableView F) A)) → AllByRecursion (IsIn (files_of folder)) (flat_map (λ x. opened.files_of_table name size bytes (arc_value x)) tables)
      → AllByRecursion (λ x. TellFiles name bytes folder (arc_value {X = TableView F} x).files.items) tables
  tell_tables [] h = tt
  tell_tables (x ∷ tables) h =
      let both = all-parts (IsIn (files_of folder)) (opened.files_of_table name size bytes (arc_value x)) (flat_map (λ y. opened.files_of_table name size bytes (arc_value y)) tables) h in
      (tell_files (arc_value x).files.items both.0, tell_tables tables both.1)

  pub tells_view : (view : View F) → AllByRecursion (IsIn (files_of folder)) (opened.opened_of name size bytes view).files → TellsView name bytes folder view
  tells_view view h = tell_tables (version_of view).tables.items h

-- ---- ids of rows

file_ids : {F A : Type 0} (name : F → List ℕ) (files : List (Arc (LiveFile F) A)) → AllByRecursion workable.HasIds (map (λ f. named_file name (arc_value f)) files) → HaveIds files
file_ids name [] h = tt
file_ids name (f ∷ files) h = (h.0, file_ids name files h.1)

table_ids : {F A : Type 0} (name : F → List ℕ) (tables : List (Arc (TableView F) A)) → workable.HaveIds (named_tables name tables)
    → AllByRecursion (λ x. HaveIds (arc_value {X = TableView F} x).files.items) tables
table_ids name [] h = tt
table_ids name (x ∷ tables) h = (file_ids name (arc_value x).files.items h.0, table_ids name tables h.1)

pub has_ids : {F : Type 0} (name : F → List ℕ) (view : View F) → IsWorkable (named_view name view) → HasViewIds view
has_ids name view h = table_ids name (version_of view).tables.items h.ids
