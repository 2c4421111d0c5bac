use Rattle.recover.proofs.LawLemmas.{named_paths-held}
use Rattle.recover.proofs.laws.named_paths_are_held.Goals as goal

pub returns : goal.returns
returns g c = let h = g.F.Held in named_paths-held h.name h.size h.bytes
