use Rattle.std.proofs.Common.{◌++◌, length, map}
use Rattle.pq_encodings.specs.Levels.{level_bytes, level_of}
use Rattle.pq_encodings.proofs.GrammarLemmas.{levels_in-of_held}
use Rattle.pq_encodings.proofs.LevelLemmas.{level_bytes-held}
use Rattle.pq_encodings.proofs.RoundTripLemmas.{values_in-bytes}
use Rattle.pq_encodings.proofs.laws.reads_back.Goals as goal

pub returns-clause-levels : goal.returns-clause-levels
returns-clause-levels c = λ flags rest few.
    levels_in-of_held 1 (level_bytes flags ++ rest) (length flags) (map level_of flags) (level_bytes-held flags rest few)

pub returns-clause-values : goal.returns-clause-values
returns-clause-values c = λ vs rest short fits. values_in-bytes vs rest short fits
