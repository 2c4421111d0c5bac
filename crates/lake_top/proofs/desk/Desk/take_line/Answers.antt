use Rattle.std.proofs.Common.{◌≡◌, [], ◌∷◌, ◌++◌, rules}
use Rattle.lake_top.proofs.DeskLemmas.{answers_hold, stops_none, stops_then}
use Rattle.lake_top.proofs.RunningLemmas.{goes_same}
use Rattle.lake_top.specs.declared.desk.Stop.TheVariants.{Memory}
use Rattle.lake_top.proofs.desk.Desk.take_line.Goals as goal

pub returns-in-Err-end_line-clause-stop : goal.returns-in-Err-end_line-clause-stop
returns-in-Err-end_line-clause-stop g c =
    let taken = g.O.Sink.taken in
    let counts : c.hold.new.self.counts.items ≡ c.args.self.now.counts.items = search rules in
    let sessions : c.hold.new.self.sessions.items ≡ c.args.self.now.sessions.items = search rules in
    stops_then c.in-Err-end_line.stop c.args.self.now c.hold.new.self _ _ _ c.args.part.now (10 ∷ []) (taken c.args.sink.now) (taken c.args.sink.now) (taken c.end_line.new.sink)
    (answers_hold c.args.self.now c.hold.new.self _ _ c.args.part.now (taken c.args.sink.now) counts c.in-Ok.ensures.pending c.hold.ensures.begun (goes_same (g.R.Door.stands c.args.door.now) c.args.self.now.sessions.items c.hold.new.self.sessions.items (g.D.FileDisk.files c.args.disk.now) (g.R.Door.keeper_faults c.args.door.now) (g.D.FileDisk.faults c.args.disk.now) sessions)) c.in-Err-end_line.ensures.stop

pub returns-in-Err-clause-stop : goal.returns-in-Err-clause-stop
returns-in-Err-clause-stop g c =
    let sessions : c.hold.new.self.sessions.items ≡ c.args.self.now.sessions.items = search rules in
    stops_none Memory c.args.self.now _ _ (c.args.part.now ++ 10 ∷ []) (g.O.Sink.taken c.args.sink.now) c.requires.begun (goes_same (g.R.Door.stands c.args.door.now) c.args.self.now.sessions.items c.hold.new.self.sessions.items (g.D.FileDisk.files c.args.disk.now) (g.R.Door.keeper_faults c.args.door.now) (g.D.FileDisk.faults c.args.disk.now) sessions)
