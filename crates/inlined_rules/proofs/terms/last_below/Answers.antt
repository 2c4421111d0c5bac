use Rattle.std.proofs.Common.{take, ap, ◌∙◌}
use Rattle.cat_rules.specs.Lookups.{last}
use Rattle.cat_rules.proofs.LookupLemmas.{last_is}
use Rattle.inlined_rules.proofs.TermLemmas.{first_are}
use Rattle.inlined_rules.proofs.terms.last_below.Goals as goal

pub returns : goal.returns
returns c =
    let terms = c.args.terms.now in
    c.last.ensures.value ∙ last_is c.first_ones.result.now
    ∙ ap last (c.first_ones.ensures ∙ ap (λ n. take n terms) c.count_below-count.ensures.count ∙ first_are c.args.limit.now terms c.requires)
