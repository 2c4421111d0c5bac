-- What a disk in memory holds, and what its calls make of that.
use Rattle.std.specs.Prelude.{◌≡◌, ◌≢◌, ℕ, Bool, false, not, List, [], ◌∷◌, filter, map, find, Option, Some, None, option_map, if◌then◌else◌}
use Rattle.std.specs.Cmp.Lexicographic.{slice_cmp}
use Rattle.std.specs.Ordering.{is_lt, nat_cmp}
use Rattle.std.specs.Str.{bytes_eq}
use Rattle.lake_io.specs.FailList.{Injected}
use Rattle.file_disk.specs.Folder.{Folder}

-- a name in the folder: its bytes so far, and whether it is a draft
pub record Kept : Type 0 where
  pub name : List ℕ
  pub bytes : List ℕ
  pub draft : Bool

abbrev pub is_named : List ℕ → Kept → Bool
is_named name kept = bytes_eq kept.name name

-- what is kept under a name
abbrev pub kept_at : List Kept → List ℕ → Option Kept
kept_at all name = find (is_named name) all

-- a name has this kept under it now, and every other name has what it had
pub record Sets (name : List ℕ) (now : Option Kept) (old new : List Kept) : Type 0 where
  pub here : kept_at new name ≡ now
  pub others : (other : List ℕ) → other ≢ name → kept_at new other ≡ kept_at old other

-- a draft with these bytes, and what isn't one as it is
abbrev pub shown : List ℕ → Kept → Kept
shown bytes kept = if kept.draft then record kept { bytes = bytes } else kept

-- a whole file with these bytes
abbrev pub sealed : List ℕ → Kept → Kept
sealed bytes kept = record { name = kept.name; bytes = bytes; draft = false }

-- the folder that is told
abbrev pub folder_of : List Kept → Folder
folder_of all name = option_map (λ kept. kept.bytes) (kept_at all name)

-- what a crash may leave of a name: of a draft any bytes or nothing, a whole file as it is, and nothing else
abbrev pub MayLeave : Option Kept → Option (List ℕ) → Type 0
MayLeave None left = left ≡ None
MayLeave (Some kept) left = kept.draft ≡ false → left ≡ Some kept.bytes

-- the folders that a crash may leave
abbrev pub IsImage : List Kept → Folder → Type 0
IsImage all image = (name : List ℕ) → MayLeave (kept_at all name) (image name)

abbrev pub names_of : List Kept → List (List ℕ)
names_of = map (λ kept. kept.name)

-- all that is kept, with one more at its place
abbrev pub put : Kept → List Kept → List Kept
put new [] = new ∷ []
put new (kept ∷ rest) = if is_lt (slice_cmp nat_cmp kept.name new.name) then kept ∷ put new rest else new ∷ kept ∷ rest

-- all that is kept under other names
abbrev pub without : List ℕ → List Kept → List Kept
without name = filter (λ kept. not (is_named name kept))

-- a file that was found or sealed
pub record StoredFile : Type 0 where
  pub name : List ℕ
  pub part : ℕ
  pub bytes : List ℕ

-- a file that is being written
pub record StoredDraft : Type 0 where
  pub name : List ℕ
  pub bytes : List ℕ

-- a disk: its part of the folder, what it keeps there, and how many reads were asked for
pub record StoredPart : Type 0 where
  pub part : ℕ
  pub all : List Kept
  pub opens : ℕ

-- a disk that fails at the calls of a list
pub record FailingPart : Type 0 where
  pub part : ℕ
  pub all : List Kept
  pub opens : ℕ
  pub injected : Injected

-- a part of a family's folder before its first call: empty, and no call fails
pub record IsNewPart (part : ℕ) (disk : FailingPart) : Type 0 where
  pub own : disk.part ≡ part
  pub empty : disk.all ≡ []
  pub opens : disk.opens ≡ 0
  pub calls : disk.injected.calls ≡ 0
  pub faults : disk.injected.faults ≡ 0
  pub fails : disk.injected.fails.calls.items ≡ []
  pub from : disk.injected.fails.from ≡ None
