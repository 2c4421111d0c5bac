use Rattle.commit_laws.proofs.TidyLemmas.{sound-tidy}
use Rattle.commit_laws.proofs.again.sound_states_are_tidy.Goals as goal

pub returns : goal.returns
returns c = sound-tidy
