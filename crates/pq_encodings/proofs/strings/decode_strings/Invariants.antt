use Rattle.std.proofs.Common.{◌≡◌, ◌-◌, ◌≤◌, length, map}
use Rattle.pq_encodings.specs.Plain.{behind, strings_at}
use Rattle.pq_encodings.proofs.strings.decode_strings.Given as goal

abbrev pub invariant-loop-turn : goal.invariant-loop-turn
invariant-loop-turn l = (behind (map (λ x. x.items) l.out.items) (strings_at (l.count - l._turn) l.bytes l.at) ≡ strings_at l.count l.bytes 0) × (l.at ≤ length l.bytes)
