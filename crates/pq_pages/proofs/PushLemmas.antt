-- Bytes that are appended, and taken back.
use Rattle.std.proofs.Common.{◌≡◌, ℕ, List, ◌++◌, length, take, append_assoc}
use Rattle.std.proofs.Math.Seq.{take-append_seam}

-- what was there before an appended slice
pub taken_back : (had front : List ℕ) → take (length had) (had ++ front) ≡ had
taken_back had front = take-append_seam had front

pub regrouped : (header levels values : List ℕ) → (header ++ levels) ++ values ≡ header ++ (levels ++ values)
regrouped header levels values = append_assoc header levels values
