use Rattle.std.proofs.Common.{rules, ◌≡◌, true, false, refl}
use Rattle.session.specs.Held.{number_of, own_of}
use Rattle.session.specs.Line.{is_built}
use Rattle.session.specs.Turns.{is_written}
use Rattle.session.proofs.LineLemmas.{line_unbuilt}
use Rattle.session.proofs.StillLemmas.{line_still}
use Rattle.session.proofs.WriteLemmas.{written_built}
use Rattle.session.proofs.session.Session.answer_without_files.Goals as goal

pub returns-in_default-clause-line : goal.returns-in_default-clause-line
returns-in_default-clause-line g c = λ files ground h.
    let s = c.args.self.now in
    let unbuilt : is_built c.args.stmt.now ≡ false = search rules in
    line_unbuilt (g.R.Door.serves c.args.door.now) (number_of s) c.args.stmt.now c.only.result (own_of s) (g.R.Door.stands c.args.door.now files) ground unbuilt h c.only.ensures

pub returns-in-CreateSchema-clause-line : goal.returns-in-CreateSchema-clause-line
returns-in-CreateSchema-clause-line g c = λ files ground h.
    let s = c.args.self.now in
    let door = c.args.door.now in
    let writes : is_written c.args.stmt.now ≡ true = search rules in
    line_still g.F.Held.name g.F.Held.size g.F.Held.bytes (g.R.Door.serves door) (g.R.Door.opened door) s c.args.stmt.now c.write.result c.write.result (own_of c.write.new.self) files (g.R.Door.stands door files) ground
    (written_built c.args.stmt.now writes) c.requires.ready c.requires.served (g.met.R.Door.agrees door files ground h) h c.write.ensures.turn refl
