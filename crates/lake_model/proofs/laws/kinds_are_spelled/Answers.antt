use Rattle.lake_model.proofs.SpellLemmas.{fits_known, kinds_spelled, versions_have_kinds}
use Rattle.lake_model.proofs.laws.kinds_are_spelled.Goals as goal

pub returns-clause-spelled : goal.returns-clause-spelled
returns-clause-spelled c = kinds_spelled

pub returns-clause-versions : goal.returns-clause-versions
returns-clause-versions c = versions_have_kinds

pub returns-clause-fits : goal.returns-clause-fits
returns-clause-fits c = fits_known
