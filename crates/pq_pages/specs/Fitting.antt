-- Cells that fit what a footer says of their chunk.
use Rattle.std.specs.Prelude.{◌≡◌, length, All, true, false}
use Rattle.std.specs.List.{count_by}
use Rattle.pq_encodings.specs.Values.{AreShort, count_of, kind_of}
use Rattle.pq_pages.specs.declared.chunk.ChunkSpec.{ChunkSpec}
use Rattle.pq_pages.specs.Pages.{Cells}
use Rattle.pq_pages.specs.Writing.{AreTexts}

-- As many cells as are said, and a value of the type for each that is none of the NULLs, which only an OPTIONAL column has.
pub record FitSpec (spec : ChunkSpec) (cells : Cells) : Type 0 where
  pub counted : length cells.defined ≡ spec.num_values
  pub kind : kind_of cells.values ≡ spec.kind
  pub matched : count_of cells.values ≡ count_by (λ flag. flag) cells.defined
  pub required : spec.optional ≡ false → All (λ flag. flag ≡ true) cells.defined
  pub short : AreShort cells.values
  pub texts : spec.text ≡ true → AreTexts cells.values
