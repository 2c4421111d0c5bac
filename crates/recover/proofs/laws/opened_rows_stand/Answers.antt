use Rattle.recover.proofs.LawLemmas.{opened_rows-stand}
use Rattle.recover.proofs.laws.opened_rows_stand.Goals as goal

pub returns : goal.returns
returns c = opened_rows-stand
