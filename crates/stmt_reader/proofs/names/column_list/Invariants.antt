use Rattle.std.proofs.Common.{◌≡◌, ◌-◌}
use Rattle.stmt_tokens.specs.declared.token.Kind.TheVariants as k
use Rattle.stmt_tokens.specs.declared.token.Sign.TheVariants.{Comma}
use Rattle.stmt_grammar.specs.Grammar.{read}
use Rattle.stmt_grammar.specs.Phrases.{list}
use Rattle.stmt_grammar.specs.Reads.{with_front, others}
use Rattle.stmt_reader.specs.Rules.{column}
use Rattle.stmt_reader.proofs.names.column_list.Given as goal

-- those so far and those to come are all
abbrev pub invariant-loop-turn : goal.invariant-loop-turn
invariant-loop-turn l =
    with_front l.columns (others (k.Sign Comma) column (l._turn-end - l._turn) l.tokens.rest.now) ≡ read (list column) l.fn.tokens.rest.now
