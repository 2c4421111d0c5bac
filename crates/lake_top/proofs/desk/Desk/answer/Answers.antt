use Rattle.std.proofs.Common.{◌≡◌, [], ◌∷◌, ◌++◌, length, take, drop, rules, sym}
use Rattle.lake_top.proofs.RunningLemmas.{goes_as, written_back}
use Rattle.lake_top.specs.Script.{numbered}
use Rattle.lake_top.proofs.desk.Desk.answer.Goals as goal

pub returns-clause-goes : goal.returns-clause-goes
returns-clause-goes g c = λ number.
    let door = g.R.Door in
    let disk = g.D.FileDisk in
    let old = c.args.self.now.sessions.items in
    let left = take c.args.self.now.sessions.len (c.answer.new.sessions ++ drop (length c.answer.new.sessions) old) in
    let same : length c.answer.new.sessions ≡ c.args.self.now.sessions.len = search (rules, c.answer.ensures.set.sixteen, c.requires.set.sixteen) in
    let back : left ≡ c.answer.new.sessions = written_back c.answer.new.sessions (drop (length c.answer.new.sessions) old) c.args.self.now.sessions.len same in
    goes_as (door.stands c.args.door.now) (door.stands c.answer.new.door) c.as_mut_slice.result.now old c.answer.new.sessions left (disk.files c.args.disk.now) (disk.files c.answer.new.disk)
    (door.keeper_faults c.args.door.now) (door.keeper_faults c.answer.new.door) (disk.faults c.args.disk.now) (disk.faults c.answer.new.disk) (numbered number c.args.line.now ∷ []) (c.answer.result ∷ [])
    (sym c.as_mut_slice.ensures.value) back (c.answer.ensures.goes number)
