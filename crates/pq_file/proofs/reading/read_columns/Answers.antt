use Rattle.std.proofs.Common.{Some}
use Rattle.pq_file.specs.Holding.{AnswersReading}
use Rattle.pq_file.specs.Reading.{file_of}
use Rattle.pq_file.proofs.HoldingLemmas.{answer_held, answer_named}
use Rattle.pq_file.proofs.SoundLemmas.{answer_sound}
use Rattle.pq_file.proofs.reading.read_columns.Goals as goal

pub returns-clause-holds : goal.returns-clause-holds
returns-clause-holds c =
    answer_held (Some c.args.fields.now) c.args.bytes.now c.file_of.result (file_of (Some c.args.fields.now) c.args.bytes.now)
    (c.reads_what_is_held.ensures (Some c.args.fields.now) c.args.bytes.now) c.file_of.ensures

pub returns-clause-named : goal.returns-clause-named
returns-clause-named c =
    let held : AnswersReading (Some c.args.fields.now) c.args.bytes.now c.file_of.result =
    answer_held (Some c.args.fields.now) c.args.bytes.now c.file_of.result (file_of (Some c.args.fields.now) c.args.bytes.now)
    (c.reads_what_is_held.ensures (Some c.args.fields.now) c.args.bytes.now) c.file_of.ensures in
    answer_named c.args.fields.now c.args.bytes.now c.file_of.result (c.reads_named.ensures c.args.fields.now c.args.bytes.now) held

pub returns-clause-sound : goal.returns-clause-sound
returns-clause-sound c =
    answer_sound c.file_of.result (file_of (Some c.args.fields.now) c.args.bytes.now) (c.reads_sound.ensures (Some c.args.fields.now) c.args.bytes.now) c.file_of.ensures
