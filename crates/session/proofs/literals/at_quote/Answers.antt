use Rattle.std.proofs.Common.{arith, rules}
use Rattle.lake_types.proofs.TextLemmas.{doubled_first, doubled_none}
use Rattle.session.proofs.literals.at_quote.Goals as goal

pub returns-clause-doubled : goal.returns-clause-doubled
returns-clause-doubled c =
    let split = c.split_once.ensures.byte (omega arith) (λ w o f. f) in
    grind (rules, split, doubled_first 39 c.args.text.now)

pub returns-clause-none : goal.returns-clause-none
returns-clause-none c =
    let split = c.split_once.ensures.byte (omega arith) (λ w o f. f) in
    grind (rules, split, doubled_none 39 c.args.text.now)
