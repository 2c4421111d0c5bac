use Rattle.std.proofs.Common.{◌≡◌, ℕ, ◌+◌, ◌-◌, ◌≤◌, List, length}
use Rattle.pq_encodings.specs.Runs.{in_front, runs_in}
use Rattle.pq_encodings.proofs.runs.read_runs.Given as goal

-- the values so far before those of the runs that are left are all the values
pub record Turns (width : ℕ) (bytes : List ℕ) (count first turn at : ℕ) (rest out : List ℕ) : Type 0 where
  pub values : in_front out (runs_in (count - turn) width rest (count - length out) at) ≡ runs_in count width bytes count first
  pub turns : turn ≤ length out
  pub most : length out ≤ count
  pub within : at + length rest ≡ first + length bytes

abbrev pub invariant-loop-turn : goal.invariant-loop-turn
invariant-loop-turn l = Turns l.width l.bytes l.count l.first l._turn l.at l.rest l.out.items
