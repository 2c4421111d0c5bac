use Rattle.sheet_rows.proofs.DeleteLemmas.{places_rise}
use Rattle.sheet_rows.proofs.laws.places_rise.Goals as goal

pub returns : goal.returns
returns c = places_rise
