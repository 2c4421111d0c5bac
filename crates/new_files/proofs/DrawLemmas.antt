-- What a number that was drawn has to do with a folder.
use Rattle.std.proofs.Common.{◌≡◌, ◌<◌, ◌^◌, ℕ, Bool, List, Option, Some, None, IfSome, IsSome, Result, Err, refl}
use Rattle.lake_io.specs.Names.{Draws}
use Rattle.file_disk.specs.Folder.{Changes, Folder, SameBut}
use Rattle.new_files.specs.Drawing.{Drew, TellsTaken, Wrote}
use Rattle.new_files.specs.Names.{name_of}
use Rattle.new_files.specs.declared.fault.NewFileNo.{NewFileNo}
use Rattle.new_files.specs.declared.fault.NewFileNo.TheVariants.{Memory}

pub drew : (deletes : Bool) (before now : Option (List ℕ)) (name : List ℕ) (number : ℕ)
    → number < 2 ^ 128 → Draws before now number → name ≡ name_of number deletes → Drew deletes before now name
drew deletes before now name number small drawn spells =
    record { number = number; small = small; drawn = drawn; spells = spells }

-- memory was wanting before the disk was asked
pub wrote_nothing : {T : Type 0} (deletes : Bool) (before now : Option (List ℕ)) (number : ℕ) (files : Option Folder) (images : Folder → Type 0) (result : Result T NewFileNo)
    → number < 2 ^ 128 → Draws before now number → result ≡ Err Memory → Wrote deletes before now files files images images result
wrote_nothing deletes before now number files images result small drawn memory = record {
  name = name_of number deletes;
  drew = drew deletes before now (name_of number deletes) number small drawn refl;
  files = same files;
  images = λ image may. record { old = image; was = may; others = λ other apart. refl; at_name = tt };
  taken = lacks files;
}
  where
    same : (f : Option Folder) → Changes (SameBut (name_of number deletes)) f f
    same None = tt
    same (Some f) = λ other apart. refl

    lacks : (f : Option Folder) → IfSome f (λ folder. IsSome (folder (name_of number deletes)) → TellsTaken (name_of number deletes) result)
    lacks None = tt
    lacks (Some f) = λ there. rw memory tt

pub ruleset drawing = (drew)
