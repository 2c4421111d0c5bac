-- What the laws of the disks in memory rest on.
use Rattle.std.specs.Prelude.{List, Option, Some, None, option_map, refl}
use Rattle.file_disk.specs.Memory.{Kept, kept_at, folder_of, MayLeave, IsImage}

-- of each name the folder that is told has something that a crash may leave
pub MayLeave-told : (kept : Option Kept) → MayLeave kept (option_map (λ k. k.bytes) kept)
MayLeave-told None = refl
MayLeave-told (Some kept) = λ whole. refl

-- the folder that is told is an image
pub IsImage-told : (all : List Kept) → IsImage all (folder_of all)
IsImage-told all name = MayLeave-told (kept_at all name)
