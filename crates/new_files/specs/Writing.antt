-- What writing a whole file under a name does to a folder, by the answer.
use Rattle.std.specs.Prelude.{◌≡◌, ℕ, List, Option, Some, None, Result, Ok, Err}
use Rattle.file_disk.specs.Folder.{Folder, MayBecomeAny, Same, SameBut, StaysIfThere}
use Rattle.file_disk.specs.declared.fault.DiskNo.{DiskNo}
use Rattle.file_disk.specs.declared.fault.DiskNo.TheVariants.{Exists}

-- what was there stays
abbrev pub Stays : Folder → Folder → Type 0
Stays old new = (name : List ℕ) → StaysIfThere (old name) (new name)

-- a name that wasn't there has these bytes now, and each other name has what it had
pub record AddsBytes (name bytes : List ℕ) (old new : Folder) : Type 0 where
  pub fresh : old name ≡ None
  pub there : new name ≡ Some bytes
  pub others : SameBut name old new

-- The whole file was added. Where its name is there already, nothing changed, and after another refusal at
-- most what stands under the name.
abbrev pub Writes : {T : Type 0} → List ℕ → List ℕ → Result T DiskNo → Folder → Folder → Type 0
Writes name bytes (Ok file) old new = AddsBytes name bytes old new
Writes name bytes (Err Exists) old new = Same old new
Writes name bytes (Err why) old new = SameBut name old new

-- what a crash may leave under the name: what was there stays where the answer is that it is there
abbrev pub MayLeave : {T : Type 0} → Result T DiskNo → Option (List ℕ) → Option (List ℕ) → Type 0
MayLeave (Err Exists) old new = StaysIfThere old new
MayLeave result old new = MayBecomeAny old new
