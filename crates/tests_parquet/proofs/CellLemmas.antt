-- The cells of the tests can be written.
use Rattle.std.proofs.Common.{◌≡◌, pos, true, false, [], ◌∷◌, length, refl, arith}
use Rattle.pq_encodings.specs.Levels.{runs_of}
use Rattle.pq_encodings.specs.Values.{i64s}
use Rattle.pq_pages.specs.Pages.{Cells}
use Rattle.pq_pages.specs.Writing.{AreWritable, body_bytes}

abbrev two : Cells
two = record { defined = true ∷ false ∷ []; values = i64s (pos 7 ∷ []) }

short : length (body_bytes true two) ≡ 16
unfolding runs_of
short = refl

pub two_writable : (cells : Cells) → cells ≡ record { defined = true ∷ false ∷ []; values = i64s (pos 7 ∷ []) } → AreWritable true cells
two_writable cells same =
    rw same (record { matched = refl; required = λ e. cc; short = tt; few = omega arith; small = omega (arith, short) })
