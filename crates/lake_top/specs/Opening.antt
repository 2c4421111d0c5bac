-- What opening a lake does with a keeper and a disk.
use Rattle.std.specs.Prelude.{◌≡◌, ℕ, [], Option, Some, None, IfSome, replicate}
use Rattle.lake_io.specs.Causes.{Rose}
use Rattle.lake_types.specs.declared.limits.TheConstants.{MAX_SESSIONS}
use Rattle.lake_model.specs.Replay.{Lake}
use Rattle.file_disk.specs.Folder.{Folder}
use Rattle.cat_rows.specs.Tables.{Tables}
use Rattle.cat_rules.specs.Sane.{IsFirstBadRow}
use Rattle.cat_stands.specs.Stands.{StandsFor}
use Rattle.row_files.specs.Folders.{files_of}
use Rattle.recover.specs.Holding.{FirstIs, HasOtherSize, IsMissing, IsThere, named_files}
use Rattle.recover.specs.declared.no.OpenNo.{OpenNo}
use Rattle.recover.specs.declared.no.OpenNo.TheVariants as open_no

-- The rows that a keeper tells, with the files of a folder, stand for this lake, on which nothing is open.
pub record IsLakeOf (content : Option Tables) (folder : Folder) (lake : Lake) : Type 0 where
  pub rows : Tables
  pub told : content ≡ Some rows
  pub stands : StandsFor rows (files_of folder) lake.core.first lake.core.versions
  pub opens : lake.core.opens ≡ replicate MAX_SESSIONS None
  pub owns : lake.owns ≡ replicate MAX_SESSIONS []

-- Why a lake wasn't opened: a count rose, a row of what is told breaks a rule, or a file isn't there as its row says.
abbrev pub WhyNotOpen : ℕ → ℕ → ℕ → ℕ → Option Tables → Option Folder → OpenNo → Type 0
WhyNotOpen k k' d d' content files open_no.KeeperFault = Rose k k'
WhyNotOpen k k' d d' content files open_no.DiskFault = Rose d d'
WhyNotOpen k k' d d' content files (open_no.BadRow bad) = IfSome content (λ t. IsFirstBadRow t (Some bad))
WhyNotOpen k k' d d' content files (open_no.FileMissing name) = IfSome content (λ t. FirstIs (IsThere files) (IsMissing files name) (named_files t))
WhyNotOpen k k' d d' content files (open_no.FileSize name want got) = IfSome content (λ t. FirstIs (IsThere files) (HasOtherSize files name want got) (named_files t))
WhyNotOpen k k' d d' content files open_no.Memory = Unit {0}
