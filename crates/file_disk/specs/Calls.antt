-- What the calls of a disk do to its files, by their answers.
use Rattle.std.specs.Prelude.{◌≡◌, ◌≤◌, ◌↔◌, ℕ, Bool, true, false, List, Option, Some, None, IsSome, Result, Ok, Err, OnErr, IsErrOf, Contains, option_map}
use Rattle.lake_io.specs.Causes.{Rose}
use Rattle.file_disk.specs.declared.fault.DiskNo.{DiskNo}
use Rattle.file_disk.specs.declared.fault.DiskNo.TheVariants.{Failed}
use Rattle.file_disk.specs.Folder.{Folder, Same, SameBut, Rises}

-- the faults didn't fall, and they rose where the call answered `Failed`
pub record HasCause {T : Type 0} (before now : ℕ) (result : Result T DiskNo) : Type 0 where
  pub later : before ≤ now
  pub failed : IsErrOf result Failed → Rose before now

-- the same of a call that answers an error only by a fault
pub record FailsByFault {T E : Type 0} (before now : ℕ) (result : Result T E) : Type 0 where
  pub later : before ≤ now
  pub failed : OnErr result (Rose before now)

-- `create` adds a name that wasn't there, with some bytes
abbrev pub Creates : {T : Type 0} → List ℕ → Result T DiskNo → Folder → Folder → Type 0
Creates name (Ok draft) old new = (old name ≡ None) × IsSome (new name) × SameBut name old new
Creates name (Err why) old new = Same old new

-- `append` changes at most the bytes of the draft's name, and makes or takes away no name
abbrev pub Appends : {T : Type 0} → List ℕ → Result T DiskNo → Folder → Folder → Type 0
Appends name (Ok done) old new = (IsSome (new name) ↔ IsSome (old name)) × SameBut name old new
Appends name (Err why) old new = Same old new

-- `sync` leaves the appended bytes under the draft's name, where that is there, whatever stood there before
abbrev pub Seals : {T E : Type 0} → List ℕ → List ℕ → Result T E → Folder → Folder → Type 0
Seals name bytes (Ok file) old new = (new name ≡ option_map (λ _. bytes) (old name)) × SameBut name old new
Seals name bytes (Err back) old new = Same old new

-- a whole file stands under the name, at once
abbrev pub Plants : {T E : Type 0} → List ℕ → List ℕ → Result T E → Folder → Folder → Type 0
Plants name bytes (Ok done) old new = (new name ≡ Some bytes) × SameBut name old new
Plants name bytes (Err why) old new = Same old new

-- every image holds these bytes under the name
abbrev pub AllHold : List ℕ → List ℕ → (Folder → Type 0) → Type 0
AllHold name bytes images = (image : Folder) → images image → image name ≡ Some bytes

-- the same, where the name is told to be there
abbrev pub IsDurable : List ℕ → List ℕ → Option Folder → (Folder → Type 0) → Type 0
IsDurable name bytes None images = Unit {0}
IsDurable name bytes (Some folder) images = IsSome (folder name) → AllHold name bytes images

-- `find` answers a file with the bytes of its name, and none exactly where the name isn't there
abbrev pub Finds : {F : Type 0} → (F → Option (List ℕ)) → Option F → Option (List ℕ) → Type 0
Finds bytes None held = held ≡ None
Finds bytes (Some file) held = IsSome held × (bytes file ≡ held)

-- a file of this part and name is one of the disk's own part, and its name isn't there
abbrev pub IsGone : ℕ → Folder → ℕ → List ℕ → Type 0
IsGone own folder part name = (part ≡ own) × (folder name ≡ None)

-- `remove` takes the name out, and answers whether it was there
abbrev pub Removes : List ℕ → Result Bool DiskNo → Folder → Folder → Type 0
Removes name (Ok true) old new = IsSome (old name) × (new name ≡ None) × SameBut name old new
Removes name (Ok false) old new = (old name ≡ None) × Same old new
Removes name (Err why) old new = Same old new

-- the names that are there, each once, in the order of their bytes
pub record ListsNames (folder : Folder) (names : List (List ℕ)) : Type 0 where
  pub in_order : Rises names
  pub all : (name : List ℕ) → Contains names name ↔ IsSome (folder name)
