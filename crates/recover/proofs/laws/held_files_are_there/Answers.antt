use Rattle.recover.proofs.LawLemmas.{held_files-there}
use Rattle.recover.proofs.laws.held_files_are_there.Goals as goal

pub returns : goal.returns
returns g c = let h = g.F.Held in held_files-there h.name h.size h.bytes
