use Rattle.std.proofs.Common.{◌≡◌, length}
use Rattle.stmt_tokens.specs.Tokens.{tokens_in, first_of}
use Rattle.stmt_tokens.proofs.cut.first_number.Given as goal

-- the first token of the rest is the line's
abbrev pub invariant-loop-rest : goal.invariant-loop-rest
invariant-loop-rest l = first_of (tokens_in (length l.rest) l.rest) ≡ first_of (tokens_in (length l.line) l.line)

abbrev pub decreases-loop-rest : goal.decreases-loop-rest
decreases-loop-rest l = length l.rest
