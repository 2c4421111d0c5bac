use Rattle.std.proofs.Common.{◌≡◌, ◌+◌, length, false}
use Rattle.stmt_tokens.specs.Tokens.{closing}
use Rattle.stmt_tokens.proofs.lex.closing.Given as goal

abbrev pub invariant-loop-rest : goal.invariant-loop-rest
invariant-loop-rest l = record { all : closing l.quote l.second l.n l.rest ≡ closing l.quote false 0 l.text; count : l.n + length l.rest ≡ length l.text }

abbrev pub decreases-loop-rest : goal.decreases-loop-rest
decreases-loop-rest l = length l.rest
