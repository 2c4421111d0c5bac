use Rattle.std.proofs.Common.{◌≡◌, ◌++◌, length}
use Rattle.std.specs.Str.{IsUtf8}
use Rattle.std.specs.String.{string_bytes}
use Rattle.lake_types.specs.Texts.{all_doubled}
use Rattle.stmt_tokens.proofs.spelling.put_doubled.Given as goal

-- what is put so far and what is to come are all
abbrev pub invariant-loop-before : goal.invariant-loop-before
invariant-loop-before l =
    (string_bytes l.line ++ all_doubled l.mark l.rest ≡ string_bytes l.fn.line ++ all_doubled l.mark l.text) × IsUtf8 l.rest

abbrev pub decreases-loop-before : goal.decreases-loop-before
decreases-loop-before l = length l.rest
