-- What opening a lake does to the rows that its keeper keeps.
use Rattle.std.specs.Prelude.{◌≡◌, ◌≢◌, ◌⊎◌, ℕ, ℤ, Option, Some, IfSome}
use Rattle.lake_io.specs.Causes.{Rose}
use Rattle.cat_rows.specs.Tables.{Tables, no_rows}
use Rattle.keeper.specs.declared.fault.KeepNo.{KeepNo}
use Rattle.keeper.specs.declared.fault.KeepNo.TheVariants as keep_no
use Rattle.cat_rules.specs.Sane.{IsFirstBadRow}
use Rattle.cat_stands.specs.New.{new_tables}
use Rattle.recover.specs.declared.no.OpenNo.{OpenNo}
use Rattle.recover.specs.declared.no.OpenNo.TheVariants as open_no

-- an empty content becomes that of snapshot 0, and any other stays
abbrev pub IsOpened : ℤ → Tables → Tables → Type 0
IsOpened time before now = ((before ≡ no_rows) × (now ≡ new_tables time)) ⊎ ((before ≢ no_rows) × (now ≡ before))

-- what a keeper keeps stays, or it was empty and is that of snapshot 0
abbrev pub MayBegin : ℤ → Option Tables → Option Tables → Type 0
MayBegin time before now = (now ≡ before) ⊎ ((before ≡ Some no_rows) × (now ≡ Some (new_tables time)))

-- A crash finds no more than before, and beside that snapshot 0 where the content that is told is empty.
abbrev pub MayFind : ℤ → Tables → (Tables → Type 0) → (Tables → Type 0) → Type 0
MayFind time told before after = (image : Tables) → after image → before image ⊎ ((told ≡ no_rows) × (image ≡ new_tables time))

-- a crash finds no more than before
abbrev pub FindsNoMore : (Tables → Type 0) → (Tables → Type 0) → Type 0
FindsNoMore before after = (image : Tables) → after image → before image

-- a crash finds these rows and nothing else
abbrev pub FindsOnly : Tables → (Tables → Type 0) → Type 0
FindsOnly rows images = (image : Tables) → images image → image ≡ rows

-- the answer where a keeper refused a call
abbrev pub refusal : KeepNo → OpenNo
refusal keep_no.Failed = open_no.KeeperFault
refusal keep_no.Memory = open_no.Memory

-- Why no rows were opened: the keeper's count of faults rose, or the content, where it is told, has this bad row.
abbrev pub WhyNoRows : ℕ → ℕ → Option Tables → OpenNo → Type 0
WhyNoRows before now told open_no.KeeperFault = Rose before now
WhyNoRows before now told (open_no.BadRow bad) = IfSome told (λ t. IsFirstBadRow t (Some bad))
WhyNoRows before now told open_no.DiskFault = ⊥
WhyNoRows before now told (open_no.FileMissing name) = ⊥
WhyNoRows before now told (open_no.FileSize name want got) = ⊥
WhyNoRows before now told open_no.Memory = Unit {0}
