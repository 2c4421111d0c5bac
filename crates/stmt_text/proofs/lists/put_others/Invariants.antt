use Rattle.std.proofs.Common.{◌≡◌, ◌++◌, length}
use Rattle.stmt_tokens.specs.declared.token.Kind.TheVariants as k
use Rattle.stmt_tokens.specs.declared.token.Sign.TheVariants.{Comma}
use Rattle.stmt_text.specs.Printed.{others}
use Rattle.stmt_text.proofs.lists.put_others.Given as goal

-- what is put so far and what is to come are all
abbrev pub invariant-loop-items : goal.invariant-loop-items
invariant-loop-items g l = l.line.tokens ++ others (k.Sign Comma) g.T.Put.tokens l.items ≡ l.fn.line.tokens ++ others (k.Sign Comma) g.T.Put.tokens l.initial.items

abbrev pub decreases-loop-items : goal.decreases-loop-items
decreases-loop-items g l = length l.items
