use Rattle.std.proofs.Common.{◌≡◌, length, ◌≤◌, arith, rules, subst, take, sym}
use Rattle.std.proofs.lemmas.List.{take_all}
use Rattle.lake_top.specs.Desks.{Answers, line_len, moment}
use Rattle.lake_top.specs.declared.desk.Stop.TheVariants.{Memory}
use Rattle.lake_top.proofs.DeskLemmas.{answers_hold, answers_line, stops_line, stops_none, line_len-inside, line_len-whole}
use Rattle.lake_top.proofs.RunningLemmas.{goes_same}
use Rattle.lake_top.proofs.desk.Desk.take_some.Goals as goal

pub take_line-requires-clause-feed : goal.take_line-requires-clause-feed
take_line-requires-clause-feed g c = rw (c.split_at.ensures.front, c.line_len-len.ensures.value) (line_len-inside c.args.bytes.now)

pub returns-in-Ok-clause-ok : goal.returns-in-Ok-clause-ok
returns-in-Ok-clause-ok g c =
    let taken = g.O.Sink.taken in
    answers_line c.args.self.now c.take_line.new.self _ _ c.args.bytes.now c.line_len-len.result c.split_at.result.0.now (taken c.args.sink.now) (taken c.take_line.new.sink) c.line_len-len.ensures.value c.if-len-bytes.true c.split_at.ensures.front c.in-Ok.ensures.ok

pub returns-in-Err-clause-stop : goal.returns-in-Err-clause-stop
returns-in-Err-clause-stop g c =
    let taken = g.O.Sink.taken in
    stops_line c.in-Err.stop c.args.self.now _ _ c.args.bytes.now c.line_len-len.result c.split_at.result.0.now (taken c.args.sink.now) (taken c.take_line.new.sink) c.line_len-len.ensures.value c.if-len-bytes.true c.split_at.ensures.front c.in-Err.ensures.stop

pub hold-requires-clause-feed : goal.hold-requires-clause-feed
hold-requires-clause-feed g c =
    let whole : length c.args.bytes.now ≤ line_len c.args.bytes.now = omega (arith, c.if-len-bytes.false, c.line_len-len.ensures.value) in
    line_len-whole c.args.bytes.now whole

pub returns-in-Ok-hold-clause-ok : goal.returns-in-Ok-hold-clause-ok
returns-in-Ok-hold-clause-ok g c =
    let taken = g.O.Sink.taken in
    let all : take c.line_len-len.result c.args.bytes.now ≡ c.args.bytes.now = take_all c.line_len-len.result c.args.bytes.now c.if-len-bytes.false in
    let counts : c.hold.new.self.counts.items ≡ c.args.self.now.counts.items = search rules in
    let sessions : c.hold.new.self.sessions.items ≡ c.args.self.now.sessions.items = search rules in
    let a = moment (g.R.Door.stands c.args.door.now) c.args.self.now.sessions.items (g.D.FileDisk.files c.args.disk.now) (g.R.Door.keeper_faults c.args.door.now) (g.D.FileDisk.faults c.args.disk.now) in
    let b = moment (g.R.Door.stands c.args.door.now) c.hold.new.self.sessions.items (g.D.FileDisk.files c.args.disk.now) (g.R.Door.keeper_faults c.args.door.now) (g.D.FileDisk.faults c.args.disk.now) in
    subst (λ x. Answers c.args.self.now c.hold.new.self a b x (taken c.args.sink.now) (taken c.args.sink.now)) (sym all)
    (answers_hold c.args.self.now c.hold.new.self a b c.args.bytes.now (taken c.args.sink.now) counts c.in-Ok-hold.ensures.pending c.hold.ensures.begun (goes_same (g.R.Door.stands c.args.door.now) c.args.self.now.sessions.items c.hold.new.self.sessions.items (g.D.FileDisk.files c.args.disk.now) (g.R.Door.keeper_faults c.args.door.now) (g.D.FileDisk.faults c.args.disk.now) sessions))

pub returns-in-Err-hold-clause-stop : goal.returns-in-Err-hold-clause-stop
returns-in-Err-hold-clause-stop g c =
    let sessions : c.hold.new.self.sessions.items ≡ c.args.self.now.sessions.items = search rules in
    stops_none Memory c.args.self.now _ _ c.args.bytes.now (g.O.Sink.taken c.args.sink.now) c.requires.begun (goes_same (g.R.Door.stands c.args.door.now) c.args.self.now.sessions.items c.hold.new.self.sessions.items (g.D.FileDisk.files c.args.disk.now) (g.R.Door.keeper_faults c.args.door.now) (g.D.FileDisk.faults c.args.disk.now) sessions)
