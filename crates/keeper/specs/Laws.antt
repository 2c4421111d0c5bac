-- What the laws of the keepers in memory rest on.
use Rattle.std.specs.Prelude.{refl}
use Rattle.std.proofs.Common.{inl}
use Rattle.keeper.specs.Memory.{FailingKeeper, IsImage}

-- the content that is told is an image
pub IsImage-content : (keeper : FailingKeeper) → IsImage keeper keeper.content
IsImage-content keeper = inl refl
