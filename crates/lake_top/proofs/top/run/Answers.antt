use Rattle.std.proofs.Common.{[]}
use Rattle.cat_core.specs.Shown.{shown}
use Rattle.lake_top.proofs.ExitLemmas.{core_within, outcome_good, outcome_halt, outcome_refused, refused_lake, wide_answered, wide_halts}
use Rattle.lake_top.specs.Script.{script_lines}
use Rattle.lake_top.proofs.top.run.Goals.{in-Ok-answered, in-Err-answered}
use Rattle.lake_top.proofs.top.run.Goals as goal

pub returns-after-answered-clause-output : goal.returns-after-answered-clause-output
returns-after-answered-clause-output g c = λ one.
    let h = g.D.File.Held in
    let k = g.K.Keeper in
    let d = g.D.FileDisk in
    let left = g.S.Source.left in
    let taken = g.O.Sink.taken in
    let within = core_within (k.content c.args.keeper) (k.content c.answered.new.door.keeper) (shown h.name h.size h.bytes c.in-Ok.core) (shown h.name h.size h.bytes c.answered.new.door) (d.files c.args.disk.now) (d.files c.open_lake.new.disk) (d.files c.answered.new.disk)
    (k.faults c.args.keeper) (k.faults c.in-Ok.core.keeper) (k.faults c.answered.new.door.keeper) (d.faults c.args.disk.now) (d.faults c.open_lake.new.disk) (d.faults c.answered.new.disk) c.answered.ensures.in_order c.in-Ok.ensures.later c.open_lake.ensures.disk_later c.in-Ok.ensures.stands in
    elim c.match-answered.branch [
      | in-Ok-answered w ↦ rw c.into_keeper.ensures (rw w.output-is (
          outcome_good c.match-answered.status (k.content c.args.keeper) _ _ (left c.args.input.now) (left c.answered.new.input) (taken c.args.output.now) (taken c.answered.new.output) w.status-is w.in-Ok-answered.ensures.end
          (wide_answered _ _ _ _ within (left c.args.input.now) (left c.answered.new.input) (taken c.args.output.now) (taken c.answered.new.output) script_lines [] w.in-Ok-answered.ensures.ok)))
      | in-Err-answered w ↦ rw c.into_keeper.ensures (rw w.status-is (rw w.output-is (
          outcome_halt w.in-Err-answered.halt w.told-status.result (k.content c.args.keeper) _ _ (left c.args.input.now) (left c.answered.new.input) (taken c.args.output.now) (taken c.answered.new.output) (taken w.told-status.new.output)
          (wide_halts _ _ _ _ within w.in-Err-answered.halt (left c.args.input.now) (left c.answered.new.input) (taken c.args.output.now) (taken c.answered.new.output) w.in-Err-answered.ensures.halt)
          (rw w.status.ensures at (rw w.last_line.ensures at w.told-status.ensures.ends)))))
    ]

pub returns-in-Err-clause-output : goal.returns-in-Err-clause-output
returns-in-Err-clause-output g c = λ one.
    let k = g.K.Keeper in
    let d = g.D.FileDisk in
    outcome_refused c.in-Err.why c.refused.result (k.content c.args.keeper) _ _ (g.S.Source.left c.args.input.now) (g.O.Sink.taken c.args.output.now) (g.O.Sink.taken c.refused.new.output) c.in-Err.ensures.refused
    (refused_lake (k.content c.args.keeper) (k.content c.in-Err.keeper) (d.files c.args.disk.now) (d.files c.open_lake.new.disk) (k.faults c.args.keeper) (k.faults c.in-Err.keeper) (d.faults c.args.disk.now) (d.faults c.open_lake.new.disk) c.in-Err.ensures.back c.open_lake.ensures.disk_later c.in-Err.ensures.kept)
    c.refused.ensures.ends
