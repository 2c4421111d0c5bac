use Rattle.std.proofs.Common.{◌≡◌, ◌-◌, ◌≤◌, length}
use Rattle.stmt_tokens.specs.Tokens.{cut_in, ◌then◌}
use Rattle.stmt_tokens.proofs.cut.cut_of.Given as goal

-- the tokens so far and those of the rest are all
abbrev pub invariant-loop-turn : goal.invariant-loop-turn
invariant-loop-turn l = record {
  all : (l.tokens then cut_in (length l.line) (length l.line - l._turn) l.rest) ≡ cut_in (length l.line) (length l.line) l.line;
  within : length l.rest ≤ length l.line;
}
