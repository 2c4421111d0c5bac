use Rattle.std.proofs.Common.{◌≡◌, ◌-◌, ◌+◌, ◌*◌}
use Rattle.stmt_grammar.specs.Grammar.{read}
use Rattle.stmt_grammar.specs.Reads.{with_front, others}
use Rattle.stmt_tokens.specs.declared.token.Keyword.TheVariants as words
use Rattle.stmt_tokens.specs.declared.token.Kind.TheVariants as k
use Rattle.stmt_grammar.specs.Phrases.{chain}
use Rattle.stmt_reader.specs.Rules.{unary, ands}
use Rattle.stmt_reader.proofs.predicate.+predicate.Given as goal

abbrev pub decreases-unary : goal.decreases-unary
decreases-unary l = 5 * l.depth

abbrev pub decreases-and_parts : goal.decreases-and_parts
decreases-and_parts l = 5 * l.depth + 1

abbrev pub decreases-all : goal.decreases-all
decreases-all l = 5 * l.depth + 2

abbrev pub decreases-or_parts : goal.decreases-or_parts
decreases-or_parts l = 5 * l.depth + 3

abbrev pub decreases-any : goal.decreases-any
decreases-any l = 5 * l.depth + 4

-- the parts so far and those to come are all
abbrev pub invariant-and_parts-loop-turn : goal.invariant-and_parts-loop-turn
invariant-and_parts-loop-turn l = with_front l.parts (others (k.Keyword words.And) (unary l.depth) (l._turn-end - l._turn) l.tokens.rest.now) ≡ read (chain (k.Keyword words.And) (unary l.depth)) l.fn.tokens.rest.now

abbrev pub invariant-or_parts-loop-turn : goal.invariant-or_parts-loop-turn
invariant-or_parts-loop-turn l = with_front l.parts (others (k.Keyword words.Or) (ands (unary l.depth)) (l._turn-end - l._turn) l.tokens.rest.now) ≡ read (chain (k.Keyword words.Or) (ands (unary l.depth))) l.fn.tokens.rest.now
