use Rattle.std.proofs.Common.{◌≡◌, ◌++◌, ◌∷◌, length}
use Rattle.std.specs.Str.{IsUtf8}
use Rattle.std.specs.String.{string_bytes}
use Rattle.lake_types.specs.Texts.{all_doubled}
use Rattle.session.proofs.literals.push_quoted.Given as goal

-- the text so far, and what is left of the value
abbrev pub invariant-loop-before : goal.invariant-loop-before
invariant-loop-before l = (string_bytes l.text ++ all_doubled 39 l.rest ≡ string_bytes l.fn.text ++ 39 ∷ all_doubled 39 l.fn.value) × IsUtf8 l.rest

abbrev pub decreases-loop-before : goal.decreases-loop-before
decreases-loop-before l = length l.rest
