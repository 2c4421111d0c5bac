use Rattle.std.proofs.Common.{◌≡◌, length, map}
use Rattle.stmt_tokens.specs.Tokens.{word_in}
use Rattle.stmt_tokens.proofs.keywords.word_in.Given as goal

abbrev pub invariant-loop-table : goal.invariant-loop-table
invariant-loop-table l = word_in (map (λ k. (k.0.now, k.1)) l.table) l.keyword ≡ word_in (map (λ k. (k.0.now, k.1)) l.initial.table) l.keyword

abbrev pub decreases-loop-table : goal.decreases-loop-table
decreases-loop-table l = length l.table
