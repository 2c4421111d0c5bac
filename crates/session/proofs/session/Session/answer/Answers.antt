use Rattle.std.proofs.Common.{rules, ◌≡◌, refl, sym, subst}
use Rattle.std.specs.Option.{option_copied}
use Rattle.lake_types.specs.declared.stmt.Stmt.{Stmt}
use Rattle.lake_types.specs.declared.stmt.Stmt.TheVariants as stmt
use Rattle.lake_model.specs.Calls.{Ground}
use Rattle.file_disk.specs.Folder.{Same}
use Rattle.row_files.specs.Folders.{files_of}
use Rattle.session.specs.Held.{number_of, open_of, opened_in, own_of}
use Rattle.session.specs.Line.{Answers}
use Rattle.session.specs.Turns.{IsTurnOver}
use Rattle.session.proofs.StagingLemmas.{changes_from, extends_same}
use Rattle.session.proofs.StillLemmas.{line_held}
use Rattle.session.proofs.session.Session.answer.Goals as goal

pub returns-in-Select-clause-line : goal.returns-in-Select-clause-line
returns-in-Select-clause-line g c =
    let h = g.F.Held in
    let s = c.args.self.now in
    let door = c.args.door.now in
    let stands = g.R.Door.stands door in
    let serves = g.R.Door.serves door in
    let asked : Stmt = stmt.Select c.in-Select.table c.as_slice.result.now (option_copied c.as_ref.result) in
    let is : c.args.stmt.now ≡ stmt.Select c.in-Select.table c.as_slice.result.now (option_copied c.as_ref.result) = search rules in
    changes_from Same
    (λ folder folder'. (ground : Ground) → stands (files_of folder) ground → Answers serves (number_of s) c.args.stmt.now c.select.result (own_of s) (own_of s) (stands (files_of folder')) ground)
    (λ folder. IsTurnOver (files_of folder) (opened_in h.name h.size h.bytes (open_of s)) (own_of s) (number_of s) asked c.select.result (own_of s))
    (λ folder folder' same turn ground stood. subst (λ x. Answers serves (number_of s) x c.select.result (own_of s) (own_of s) (stands (files_of folder')) ground) (sym is)
    (line_held h.name h.size h.bytes serves (g.R.Door.opened door) s asked c.select.result (own_of s) (files_of folder) (stands (files_of folder')) ground
    refl c.requires.ready c.requires.served (g.met.R.Door.agrees door (files_of folder) ground stood)
    (g.met.R.Door.more_files door (files_of folder) (files_of folder') ground (extends_same folder folder' same) stood) turn))
    (g.D.FileDisk.files c.args.disk.now) (g.D.FileDisk.files c.select.new.disk) c.select.ensures.files c.select.ensures.turn
