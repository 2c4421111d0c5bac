use Rattle.std.proofs.Common.{is_none}
use Rattle.cat_rows.specs.Batches.{tables_of}
use Rattle.cat_rules.specs.Rows.{NamesIf}
use Rattle.cat_rules.specs.Sight.{outlasts_other}
use Rattle.cat_rules.proofs.FirstLemmas.{first_or}
use Rattle.cat_rules.proofs.refer.first_unmatched.Goals as goal

pub returns : goal.returns
returns g c =
    let other = g.R.Refers.other (tables_of c.args.rows.now) in
    first_or (NamesIf g.R.Refers.other_name (λ r. is_none (other r)) c.args.own.now)
    (NamesIf g.R.Dated.name (λ r. outlasts_other c.args.kept.first g.R.Dated.validity g.R.Other.Dated.validity r (other r)) c.args.own.now)
    _ _ _ c.sooner.ensures c.first_bad-lacking.ensures c.first_bad-outlasting.ensures
