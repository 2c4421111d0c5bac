use Rattle.std.proofs.Common.{◌≡◌, ◌++◌, length}
use Rattle.std.specs.String.{string_bytes}
use Rattle.stmt_tokens.specs.Spelled.{spelled}
use Rattle.stmt_tokens.proofs.spelling.spell.Given as goal

-- what is spelled so far and what is to come are all
abbrev pub invariant-loop-rest : goal.invariant-loop-rest
invariant-loop-rest l = string_bytes l.line ++ spelled l.rest ≡ spelled l.tokens

abbrev pub decreases-loop-rest : goal.decreases-loop-rest
decreases-loop-rest l = length l.rest
