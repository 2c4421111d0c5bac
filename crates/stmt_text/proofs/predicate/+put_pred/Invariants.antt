use Rattle.std.proofs.Common.{◌≡◌, ◌++◌, drop, map}
use Rattle.stmt_tokens.specs.declared.token.Kind.TheVariants as k
use Rattle.stmt_text.specs.Printed.{chain_tokens, shown, within}
use Rattle.stmt_text.proofs.ChainLemmas.{pending}
use Rattle.stmt_text.proofs.predicate.+put_pred.Given as goal

-- what is put so far and what is to come are all
abbrev pub invariant-put_parts-loop-test : goal.invariant-put_parts-loop-test
invariant-put_parts-loop-test l =
    l.line.tokens ++ pending (k.Keyword l.sep) l.is_first (map (within l.most) (map shown (drop l.test-index l.tests)))
    ≡ l.fn.line.tokens ++ chain_tokens (k.Keyword l.sep) (map (within l.most) (map shown l.tests))
