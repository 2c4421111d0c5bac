use Rattle.std.proofs.Common.{None}
use Rattle.pq_file.specs.Reading.{file_of}
use Rattle.pq_file.proofs.HoldingLemmas.{answer_held}
use Rattle.pq_file.proofs.SoundLemmas.{answer_sound}
use Rattle.pq_file.proofs.reading.read_file.Goals as goal

pub returns-clause-holds : goal.returns-clause-holds
returns-clause-holds c =
    answer_held None c.args.bytes.now c.file_of.result (file_of None c.args.bytes.now) (c.reads_what_is_held.ensures None c.args.bytes.now) c.file_of.ensures

pub returns-clause-sound : goal.returns-clause-sound
returns-clause-sound c =
    answer_sound c.file_of.result (file_of None c.args.bytes.now) (c.reads_sound.ensures None c.args.bytes.now) c.file_of.ensures
