use Rattle.std.proofs.Common.{◌≡◌, ◌-◌, ◌≤◌, ◌++◌, length, map}
use Rattle.pq_encodings.specs.Plain.{strings_before}
use Rattle.pq_encodings.proofs.fronts.strings_before_fault.Given as goal

abbrev pub invariant-loop-turn : goal.invariant-loop-turn
invariant-loop-turn l = (map (λ x. x.items) l.out.items ++ strings_before (l.count - l._turn) l.bytes l.at ≡ strings_before l.count l.bytes 0) × (l.at ≤ length l.bytes)
