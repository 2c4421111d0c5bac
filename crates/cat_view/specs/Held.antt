-- The files that are held, by name.
use Rattle.std.specs.Prelude.{◌≡◌, ℕ, List, Option, Some, IfSome, IsSome}
use Rattle.cat_tables.specs.Table.{Stored, row_of}
use Rattle.cat_view.specs.declared.held.HeldFile.{HeldFile}
use Rattle.cat_view.specs.declared.held.HeldFiles.{HeldFiles}
use Rattle.cat_view.specs.declared.live.LiveFile.{LiveFile}

abbrev pub held_in : {F : Type 0} → HeldFiles F → Stored (HeldFile F)
held_in h = h.files

abbrev pub name_by : {F : Type 0} → (F → List ℕ) → HeldFile F → List ℕ
name_by name h = name h.file

-- a file of this name is held
abbrev pub IsHeld : {F : Type 0} → (F → List ℕ) → List (HeldFile F) → List ℕ → Type 0
IsHeld name held path = IsSome (row_of (name_by name) path held)

module _ {F : Type 0} (name : F → List ℕ) (size part : F → ℕ) (bytes : F → Option (List ℕ)) where
  -- two values of one file
  pub record IsSameFile (a b : F) : Type 0 where
    pub name_is : name a ≡ name b
    pub size_is : size a ≡ size b
    pub part_is : part a ≡ part b
    pub bytes_are : bytes a ≡ bytes b

  -- a further value of a file that is held
  pub record IsCopyOf (held : List (HeldFile F)) (file : F) : Type 0 where
    pub original : HeldFile F
    pub there : row_of (name_by name) (name file) held ≡ Some original
    pub same : IsSameFile file original.file

  -- the files of a live file are
  pub record AreCopies (held : List (HeldFile F)) (f : LiveFile F) : Type 0 where
    pub file : IsCopyOf held f.file
    pub deletes : IfSome f.deletes (λ d. IsCopyOf held d.file)
