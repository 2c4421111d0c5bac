-- What the calls of a keeper do to its content, and to what a crash may find.
use Rattle.std.specs.Prelude.{◌≡◌, ◌≤◌, ◌↔◌, ◌⊎◌, ℕ, Option, Some, None, Result, Ok, Err, IsErrOf, option_map}
use Rattle.lake_io.specs.Causes.{Rose}
use Rattle.cat_rows.specs.Batches.{Fits, applied}
use Rattle.cat_rows.specs.Tables.{Tables}
use Rattle.cat_rows.specs.declared.batch.Batch.{Batch}
use Rattle.keeper.specs.declared.fault.KeepNo.{KeepNo}
use Rattle.keeper.specs.declared.fault.KeepNo.TheVariants.{Failed, Memory}

-- the faults didn't fall, and they rose where the call answered `Failed`
pub record HasCause {T : Type 0} (before now : ℕ) (result : Result T KeepNo) : Type 0 where
  pub later : before ≤ now
  pub failed : IsErrOf result Failed → Rose before now

-- the batch fits the content, where that is told
abbrev pub FitsContent : Option Tables → Batch → Type 0
FitsContent None batch = Unit {0}
FitsContent (Some content) batch = Fits content batch

-- the content after a batch was offered: the batch as a whole, or nothing of it
abbrev pub content_after : {T : Type 0} → Result T KeepNo → Batch → Option Tables → Option Tables
content_after (Ok done) batch content = option_map (applied batch) content
content_after (Err why) batch content = content

-- a crash may find what it might have found before, and nothing else
abbrev pub Same : (Tables → Type 0) → (Tables → Type 0) → Type 0
Same before after = (image : Tables) → after image ↔ before image

-- a crash may still find all that it might have found before
abbrev pub Stay : (Tables → Type 0) → (Tables → Type 0) → Type 0
Stay before after = (image : Tables) → before image → after image

-- and besides at most this content
abbrev pub Gains : Tables → (Tables → Type 0) → (Tables → Type 0) → Type 0
Gains content before after = (image : Tables) → after image → before image ⊎ (image ≡ content)

-- What a crash may find once a batch was offered to a content. Ok: the content with the batch, and nothing else.
-- Failed: what it might have found before, and besides at most the content with the batch.
abbrev pub Offers : {T : Type 0} → Result T KeepNo → Batch → Tables → (Tables → Type 0) → (Tables → Type 0) → Type 0
Offers (Ok done) batch content before after = (image : Tables) → after image → image ≡ applied batch content
Offers (Err Failed) batch content before after = Stay before after × Gains (applied batch content) before after
Offers (Err Memory) batch content before after = Same before after
