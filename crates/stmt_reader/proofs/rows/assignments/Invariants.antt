use Rattle.std.proofs.Common.{◌≡◌, ◌-◌}
use Rattle.stmt_tokens.specs.declared.token.Kind.TheVariants as k
use Rattle.stmt_tokens.specs.declared.token.Sign.TheVariants.{Comma}
use Rattle.stmt_grammar.specs.Grammar.{read}
use Rattle.stmt_grammar.specs.Phrases.{list}
use Rattle.stmt_grammar.specs.Reads.{with_front, others}
use Rattle.stmt_reader.specs.Rules.{assignment}
use Rattle.stmt_reader.proofs.rows.assignments.Given as goal

-- those so far and those to come are all
abbrev pub invariant-loop-turn : goal.invariant-loop-turn
invariant-loop-turn l =
    with_front l.set (others (k.Sign Comma) assignment (l._turn-end - l._turn) l.tokens.rest.now) ≡ read (list assignment) l.fn.tokens.rest.now
