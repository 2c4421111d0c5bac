use Rattle.std.proofs.Common.{◌≡◌, ◌++◌, ◌∷◌, length}
use Rattle.std.specs.Str.{IsUtf8}
use Rattle.std.specs.String.{string_bytes}
use Rattle.lake_types.specs.Texts.{all_doubled}
use Rattle.cat_changes.proofs.quotes.push_quoted.Given as goal

abbrev pub invariant-loop-before : goal.invariant-loop-before
invariant-loop-before l =
    (string_bytes l.text ++ all_doubled 34 l.rest ≡ string_bytes l.fn.text ++ 34 ∷ all_doubled 34 l.fn.name) × IsUtf8 l.rest

abbrev pub decreases-loop-before : goal.decreases-loop-before
decreases-loop-before l = length l.rest
