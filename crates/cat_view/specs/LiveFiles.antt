-- The live files of a table, each with the row that it is of.
use Rattle.std.specs.Prelude.{◌≡◌, ℕ, List, map, Option, IfSome}
use Rattle.std.specs.Arc.{arc_value}
use Rattle.std.specs.List.{AllZip, slice_get}
use Rattle.std.specs.declared.sync.Arc.{Arc}
use Rattle.lake_types.specs.declared.value.Column.{Column}
use Rattle.cat_rows.specs.Tables.{Tables}
use Rattle.cat_rows.specs.declared.files.DataFileRow.{DataFileRow}
use Rattle.cat_rows.specs.declared.files.DeleteFileRow.{DeleteFileRow}
use Rattle.cat_tables.specs.Table.{RisesByKey}
use Rattle.cat_view.specs.Groups.{IsGroup, id_key, rows_of}
use Rattle.cat_view.specs.Held.{AreCopies, IsHeld}
use Rattle.cat_view.specs.Owners.{delete_file_owner, stats_owner}
use Rattle.cat_view.specs.Sight.{file_with}
use Rattle.cat_view.specs.Stats.{AreRead}
use Rattle.cat_view.specs.Views.{named_file}
use Rattle.cat_view.specs.declared.files.FilePlaces.{FilePlaces}
use Rattle.cat_view.specs.declared.held.HeldFile.{HeldFile}
use Rattle.cat_view.specs.declared.live.LiveFile.{LiveFile}

-- the delete file of a data file at a snapshot
abbrev pub delete_at : ℕ → List DeleteFileRow → ℕ → Option DeleteFileRow
delete_at s deletes id = slice_get (rows_of (delete_file_owner s) id deletes) 0

abbrev pub file_ids : List DataFileRow → List ℕ
file_ids rows = map (λ (f : DataFileRow). f.data_file_id) rows

-- for each data file the places of its delete files and of its statistics
pub record AreFilePlaces (t : Tables) (p : FilePlaces) : Type 0 where
  pub rises : RisesByKey id_key p.ids.items
  pub ids_are : p.ids.items ≡ file_ids t.data_file
  pub deletes_are : AllZip (IsGroup (delete_file_owner p.snapshot) t.delete_file) p.ids.items p.deletes.items
  pub stats_are : AllZip (IsGroup (stats_owner p.snapshot) t.file_column_stats) p.ids.items p.stats.items

module _ {F : Type 0} (name : F → List ℕ) (held : List (HeldFile F)) (s : ℕ) (t : Tables) (columns : List Column) where
  -- the files of a data file's row are held
  pub record CanBeLive (f : DataFileRow) : Type 0 where
    pub file : IsHeld name held f.path
    pub deletes : IfSome (delete_at s t.delete_file f.data_file_id) (λ (d : DeleteFileRow). IsHeld name held d.path)

  -- a live file is that of a data file's row
  pub record IsLive (size part : F → ℕ) (bytes : F → Option (List ℕ)) (f : DataFileRow) (x : LiveFile F) : Type 0 where
    pub named : named_file name x ≡ file_with (delete_at s t.delete_file f.data_file_id) f
    pub stats : AreRead columns f.record_count (rows_of (stats_owner s) f.data_file_id t.file_column_stats) x.stats
    pub copies : AreCopies name size part bytes held x

  abbrev pub AreLive : {A : Type 0} → (F → ℕ) → (F → ℕ) → (F → Option (List ℕ)) → List DataFileRow → List (Arc (LiveFile F) A) → Type 0
  AreLive size part bytes rows files = AllZip (IsLive size part bytes) rows (map (λ f. arc_value f) files)
