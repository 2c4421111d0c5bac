use Rattle.std.proofs.Common.{◌≡◌, ◌++◌, ◌∷◌, length}
use Rattle.std.specs.Str.{IsUtf8}
use Rattle.std.specs.String.{string_bytes}
use Rattle.lake_types.specs.Texts.{all_doubled}
use Rattle.lake_types.proofs.texts.text_literal.Given as goal

abbrev pub invariant-loop-before : goal.invariant-loop-before
invariant-loop-before l = (string_bytes l.literal ++ all_doubled 39 l.rest ≡ 39 ∷ all_doubled 39 l.fn.text) × IsUtf8 l.rest

abbrev pub decreases-loop-before : goal.decreases-loop-before
decreases-loop-before l = length l.rest
