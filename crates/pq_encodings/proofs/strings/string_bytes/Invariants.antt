use Rattle.std.proofs.Common.{◌≡◌, map, take}
use Rattle.pq_encodings.specs.Plain.{strings_bytes}
use Rattle.pq_encodings.proofs.strings.string_bytes.Given as goal

abbrev pub invariant-loop-string : goal.invariant-loop-string
invariant-loop-string l = l.out.items ≡ strings_bytes (map (λ x. x.items) (take l.string-index l.strings))
