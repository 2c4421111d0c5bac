-- Which file of a table is damaged: the first that is gone, or that doesn't hold what the catalogue says of it. And when
-- none is.
use Rattle.std.specs.Prelude.{◌≡◌, ◌⊎◌, ℕ, List, [], ◌∷◌, map, Option, Some, None, IfSome, option_map}
use Rattle.std.specs.Arc.{arc_value}
use Rattle.std.specs.List.{AllByRecursion, Contains}
use Rattle.std.specs.declared.sync.Arc.{Arc}
use Rattle.lake_types.specs.declared.stmt.TableName.{TableName}
use Rattle.lake_types.specs.declared.value.Column.{Column}
use Rattle.lake_types.specs.declared.value.Row.{Row}
use Rattle.lake_model.specs.declared.change.Change.{Change}
use Rattle.file_disk.specs.Calls.{IsGone}
use Rattle.file_disk.specs.Folder.{Folder}
use Rattle.cat_view.specs.Views.{named_table, named_view, version_of}
use Rattle.cat_view.specs.declared.live.LiveDelete.{LiveDelete}
use Rattle.cat_view.specs.declared.live.LiveFile.{LiveFile}
use Rattle.cat_view.specs.declared.live.TableView.{TableView}
use Rattle.cat_view.specs.declared.version.View.{View}
use Rattle.row_files.specs.Reading.{AreLeft, IsDamagedData, IsDamagedDelete}
use Rattle.scan_exec.specs.Finding.{old_named}
use Rattle.scan_exec.specs.declared.fault.ScanFault.{ScanFault}
use Rattle.scan_exec.specs.declared.fault.ScanFault.TheVariants as fault

-- this of the name of the damaged file that is told
abbrev pub IfDamage : ScanFault → (List ℕ → Type 0) → Type 0
IfDamage (fault.Damaged name) P = P name
IfDamage why P = Unit {0}

module _ {F : Type 0} (name : F → List ℕ) (part : F → ℕ) (bytes : F → Option (List ℕ)) (own : ℕ) (files : Option Folder) where
  -- a data file is damaged, or else its delete file is
  abbrev pub IsDamaged : List Column → LiveFile F → List ℕ → Type 0
  IsDamaged columns f told = IsDamagedData name part bytes own files f columns told ⊎ IsDamagedDelete name part bytes own files f columns told

  -- neither is gone, and both hold what the catalogue says
  pub record IsRead (columns : List Column) (f : LiveFile F) : Type 0 where
    pub rows : List Row
    pub left : AreLeft name bytes f columns rows f.deletes
    pub there : IfSome files (λ (folder : Folder). IsGone own folder (part f.file) (name f.file) → ⊥)
    pub deletes_there : IfSome files (λ (folder : Folder). IfSome f.deletes (λ (d : LiveDelete F). IsGone own folder (part d.file) (name d.file) → ⊥))

  -- the files before the damaged one are read
  abbrev pub IsFirstDamaged : {A : Type 0} → List Column → List (Arc (LiveFile F) A) → List ℕ → Type 0
  IsFirstDamaged columns [] told = ⊥
  IsFirstDamaged columns (f ∷ fs) told =
      IsDamaged columns (arc_value f) told ⊎ (IsRead columns (arc_value f) × IsFirstDamaged columns fs told)

  abbrev pub IsDamagedOf : Option (TableView F) → List ℕ → Type 0
  IsDamagedOf None told = ⊥
  IsDamagedOf (Some x) told = IsFirstDamaged x.columns x.files.items told

  -- all files are read
  abbrev pub AreRead : {A : Type 0} → List Column → List (Arc (LiveFile F) A) → Type 0
  AreRead columns files = AllByRecursion (λ f. IsRead columns (arc_value f)) files

  abbrev pub AreReadOf : Option (TableView F) → Type 0
  AreReadOf None = Unit {0}
  AreReadOf (Some x) = AreRead x.columns x.files.items

  -- the same of the version's table that a statement names, if there is one
  pub record AreReadIn (v : View F) (list : List Change) (table : TableName) : Type 0 where
    pub view : Option (TableView F)
    pub held : IfSome view (Contains (map (λ x. arc_value x) (version_of v).tables.items))
    pub named : old_named list (named_view name v) table ≡ option_map (named_table name) view
    pub read : AreReadOf view

  pub record IsDamagedIn (v : View F) (list : List Change) (table : TableName) (told : List ℕ) : Type 0 where
    pub view : TableView F
    pub held : Contains (map (λ x. arc_value x) (version_of v).tables.items) view
    pub named : old_named list (named_view name v) table ≡ Some (named_table name view)
    pub first : IsFirstDamaged view.columns view.files.items told
