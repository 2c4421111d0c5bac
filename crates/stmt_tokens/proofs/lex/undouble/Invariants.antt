use Rattle.std.proofs.Common.{◌≡◌, ◌++◌, length, false}
use Rattle.stmt_tokens.specs.Tokens.{undouble}
use Rattle.stmt_tokens.proofs.lex.undouble.Given as goal

abbrev pub invariant-loop-text : goal.invariant-loop-text
invariant-loop-text l = l.plain.items ++ undouble l.quote l.second l.text ≡ undouble l.quote false l.initial.text

abbrev pub decreases-loop-text : goal.decreases-loop-text
decreases-loop-text l = length l.text
