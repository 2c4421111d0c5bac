-- Files under the names of numbers that are drawn.
use Rattle.std.specs.Prelude.{◌≡◌, ◌<◌, ◌^◌, ℕ, Bool, List, Option, IsSome, IfSome, Result, Err}
use Rattle.lake_io.specs.Names.{Draws}
use Rattle.file_disk.specs.Folder.{Changes, Folder, MayBecomeAny, SameBut, Touches}
use Rattle.file_disk.specs.declared.fault.DiskNo.{DiskNo}
use Rattle.file_disk.specs.declared.fault.DiskNo.TheVariants as disk_no
use Rattle.new_files.specs.Names.{name_of}
use Rattle.new_files.specs.declared.fault.NewFileNo.{NewFileNo}
use Rattle.new_files.specs.declared.fault.NewFileNo.TheVariants as new_file_no

-- the answer where the disk refused to write a file under a name
abbrev pub refusal : DiskNo → List ℕ → NewFileNo
refusal disk_no.Exists name = new_file_no.Taken name
refusal disk_no.Failed name = new_file_no.DiskFault
refusal disk_no.Memory name = new_file_no.Memory

-- this of the name that is told to be there
abbrev pub IfTaken : {T : Type 0} → Result T NewFileNo → (List ℕ → Type 0) → Type 0
IfTaken (Err (new_file_no.Taken name)) P = P name
IfTaken result P = Unit {0}

-- where the name was there, the answer tells so, unless memory was wanting
abbrev pub TellsTaken : {T : Type 0} → List ℕ → Result T NewFileNo → Type 0
TellsTaken name (Err (new_file_no.Taken told)) = told ≡ name
TellsTaken name (Err new_file_no.Memory) = Unit {0}
TellsTaken name result = ⊥

-- the name is that of a number, and this one number was drawn, the last of those that are told
pub record Drew (deletes : Bool) (before now : Option (List ℕ)) (name : List ℕ) : Type 0 where
  pub number : ℕ
  pub small : number < 2 ^ 128
  pub drawn : Draws before now number
  pub spells : name ≡ name_of number deletes

-- One number was drawn. The folder and its images changed at most under its name, and where the name was
-- there, the answer tells so.
pub record Wrote {T : Type 0} (deletes : Bool) (before now : Option (List ℕ)) (old new : Option Folder)
    (could can : Folder → Type 0) (result : Result T NewFileNo) : Type 0 where
  pub name : List ℕ
  pub drew : Drew deletes before now name
  pub files : Changes (SameBut name) old new
  pub images : Touches MayBecomeAny name could can
  pub taken : IfSome old (λ folder. IsSome (folder name) → TellsTaken name result)
