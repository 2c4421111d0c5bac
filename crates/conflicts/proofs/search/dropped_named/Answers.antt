use Rattle.std.proofs.Common.{ap, ◌∙◌, rules, tests}
use Rattle.std.specs.Prelude.{find}
use Rattle.std.proofs.lemmas.Iterator.{YieldsList-from_slice}
use Rattle.std.proofs.lemmas.Iterator.Search.{find_from_yields_List}
use Rattle.conflicts.specs.Search.{is_drop_of}
use Rattle.conflicts.proofs.PairLemmas.{among_dropped}
use Rattle.conflicts.proofs.search.dropped_named.Goals as goal

pub returns : goal.returns
returns c =
    let name = c.args.name.now in
    let dropped = c.dropped_schemas.result.now in
    find_from_yields_List (is_drop_of name) _ _ c.find.result c.find.ensures.ran (YieldsList-from_slice dropped (cc)) (λ x b q k. search (rules, tests))
    ∙ ap (find (is_drop_of name)) c.dropped_schemas.ensures ∙ among_dropped name c.args.kinds.now
