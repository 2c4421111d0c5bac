-- What a keeper in memory holds.
use Rattle.std.specs.Prelude.{◌≡◌, ◌⊎◌, ℕ, List, [], ◌∷◌, ◌++◌}
use Rattle.std.specs.List.{Contains}
use Rattle.lake_io.specs.Causes.{raised}
use Rattle.lake_io.specs.FailList.{Injected}
use Rattle.cat_rows.specs.Batches.{applied}
use Rattle.cat_rows.specs.Tables.{Tables}
use Rattle.cat_rows.specs.declared.batch.Batch.{Batch}

-- a keeper that fails at the calls of a list: its content, the contents with the batches that failed since the last
-- one that was kept, the newest one last, and how many batches failed that aren't among these
pub record FailingKeeper : Type 0 where
  pub content : Tables
  pub offered : List Tables
  pub unoffered : ℕ
  pub injected : Injected

-- what a crash may find of it
abbrev pub IsImage : FailingKeeper → Tables → Type 0
IsImage keeper image = (image ≡ keeper.content) ⊎ Contains keeper.offered image

-- the content with the batch is the newest one that is offered, or it is counted as one that isn't
abbrev pub HoldsOffer : Batch → FailingKeeper → FailingKeeper → Type 0
HoldsOffer batch old new =
    ((new.offered ≡ old.offered ++ applied batch old.content ∷ []) × (new.unoffered ≡ old.unoffered))
    ⊎ ((new.offered ≡ old.offered) × (new.unoffered ≡ raised old.unoffered))
