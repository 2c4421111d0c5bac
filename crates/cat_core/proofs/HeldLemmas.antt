-- The files of a version that was made are held.
use Rattle.std.proofs.Common.{◌≡◌, ℕ, List, [], ◌∷◌, sym, ap, ◌∙◌}
use Rattle.std.specs.Prelude.{Option, Some, None, IfSome, option_map, unwrap_or, flat_map}
use Rattle.std.specs.Arc.{arc_value}
use Rattle.std.specs.List.{AllByRecursion}
use Rattle.std.specs.declared.sync.Arc.{Arc}
use Rattle.lake_model.specs.History.{CarriedFile}
use Rattle.lake_model.proofs.TableLemmas.{all-joined}
use Rattle.cat_view.specs.Held.{AreCopies, IsCopyOf, held_in}
use Rattle.cat_view.specs.Reading.{AreHeld, HasHeld}
use Rattle.cat_view.specs.declared.held.HeldFiles.{HeldFiles}
use Rattle.cat_view.specs.declared.live.LiveDelete.{LiveDelete}
use Rattle.cat_view.specs.declared.live.LiveFile.{LiveFile}
use Rattle.cat_view.specs.declared.live.TableView.{TableView}
use Rattle.cat_view.specs.declared.version.Version.{Version}
use Rattle.door.specs.Opened.{carried_file, files_of, files_of_table, files_of_version}
use Rattle.cat_core.specs.Shown.{held_at}

module _ {F : Type 0} (name : F → List ℕ) (size part : F → ℕ) (bytes : F → Option (List ℕ)) (h : HeldFiles F) where
  abbrev IsHeldAs : CarriedFile → Type 0
  IsHeldAs f = held_at name size bytes h f.name ≡ Some f

  copy : (file : F) → IsCopyOf name size part bytes (held_in h).rows file → IsHeldAs (carried_file name size bytes file)
  copy file c =
      ap (option_map (λ f. carried_file name size bytes f.file)) c.there
      ∙ (λ i. Some (record { name = sym c.same.name_is i; size = sym c.same.size_is i; bytes = sym c.same.bytes_are i }))

  behind : (d : Option (LiveDelete F)) → IfSome d (λ e. IsCopyOf name size part bytes (held_in h).rows e.file)
      → AllByRecursion IsHeldAs (unwrap_or (option_map (λ (e : LiveDelete F). carried_file name size bytes e.file ∷ []) d) [])
  behind None c = tt
  behind (Some d) c = (copy d.file c, tt)

  of_file : (f : LiveFile F) → AreCopies name size part bytes (held_in h).rows f → AllByRecursion IsHeldAs (files_of name size bytes f)
  of_file f c = (copy f.file c.file, behind f.deletes c.deletes)

  of_files : {A : Type 0} (fs : List (Arc (LiveFile F) A)) → AllByRecursion (λ f. AreCopies name size part bytes (held_in h).rows (arc_value f)) fs
      → AllByRecursion IsHeldAs (flat_map (λ f. files_of name size bytes (arc_value f)) fs)
  of_files [] c = tt
  of_files (f ∷ fs) c = all-joined IsHeldAs (files_of name size bytes (arc_value f)) (flat_map (λ f. files_of name size bytes (arc_value f)) fs) (of_file (arc_value f) c.0) (of_files fs c.1)

  of_tables : {A : Type 0} (xs : List (Arc (TableView F) A)) → AllByRecursion (λ x. HasHeld name size part bytes (held_in h).rows (arc_value x)) xs
      → AllByRecursion IsHeldAs (flat_map (λ x. files_of_table name size bytes (arc_value x)) xs)
  of_tables [] c = tt
  of_tables (x ∷ xs) c =
      all-joined IsHeldAs (files_of_table name size bytes (arc_value x)) (flat_map (λ x. files_of_table name size bytes (arc_value x)) xs)
      (of_files (arc_value x).files.items c.0) (of_tables xs c.1)

  pub are_held : (v : Version F) → AreHeld name size part bytes (held_in h).rows v → AllByRecursion IsHeldAs (files_of_version name size bytes v)
  are_held v c = of_tables v.tables.items c
