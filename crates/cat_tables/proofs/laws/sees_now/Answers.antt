use Rattle.cat_tables.proofs.SightLemmas.{sees-now}
use Rattle.cat_tables.proofs.laws.sees_now.Goals as goal

pub returns : goal.returns
returns g c = sees-now g.R.Keyed.key g.R.Versioned.validity g.met.R.Versioned.laws
