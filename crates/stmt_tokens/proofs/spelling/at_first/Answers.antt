use Rattle.std.proofs.Common.{rules}
use Rattle.lake_types.proofs.TextLemmas.{doubled_first, doubled_none}
use Rattle.stmt_tokens.proofs.spelling.at_first.Goals as goal

pub returns-clause-doubled : goal.returns-clause-doubled
returns-clause-doubled c =
    let split = c.split_once.ensures.byte c.requires (λ w o f. f) in
    grind (rules, split, doubled_first c.args.mark c.args.text.now)

pub returns-clause-none : goal.returns-clause-none
returns-clause-none c =
    let split = c.split_once.ensures.byte c.requires (λ w o f. f) in
    grind (rules, split, doubled_none c.args.mark c.args.text.now)
