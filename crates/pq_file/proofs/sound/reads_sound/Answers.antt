use Rattle.pq_file.proofs.SoundLemmas.{file_sound}
use Rattle.pq_file.proofs.sound.reads_sound.Goals as goal

pub returns : goal.returns
returns c = file_sound c.reads_as_said.ensures c.reads_consistent.ensures
