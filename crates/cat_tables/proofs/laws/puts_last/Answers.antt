use Rattle.cat_tables.proofs.SightLemmas.{put_all-last}
use Rattle.cat_tables.proofs.laws.puts_last.Goals as goal

pub returns : goal.returns
returns g c = put_all-last g.R.Keyed.key
