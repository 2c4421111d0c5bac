use Rattle.std.proofs.Common.{◌≡◌, ◌-◌, ◌<◌, length, slice_index_or, ◌∙◌, arith}
use Rattle.row_files.specs.Folders.{files_of}
use Rattle.session.specs.Held.{number_of}
use Rattle.lake_top.proofs.SixteenLemmas.{place-of, said_among}
use Rattle.lake_top.proofs.sixteen.answer_line.Goals as goal

pub returns-clause-said : goal.returns-clause-said
returns-clause-said g c = λ number.
    let door = g.R.Door in
    let disk = g.D.FileDisk in
    let place = place-of c.args.session c.requires.session in
    let within : c.args.session - 1 < length c.args.sessions.now = omega (arith, place.1, c.requires.sixteen) in
    let there = slice_index_or c.args.sessions.now (c.args.session - 1) c.index-sessions-place.result in
    let same : number_of there ≡ c.args.session = (c.requires.ready (c.args.session - 1) c.index-sessions-place.result place.1).number ∙ place.0 in
    said_among (door.serves c.args.door.now) c.requires.all c.args.session number (number_of there) c.args.stmt.now c.answer.result c.args.sessions.now c.index-sessions-place.result c.answer.new.self
    (λ folder. door.stands c.args.door.now (files_of folder)) (λ folder. door.stands c.answer.new.door (files_of folder)) (disk.files c.args.disk.now) (disk.files c.answer.new.disk) within same c.answer.ensures.line
