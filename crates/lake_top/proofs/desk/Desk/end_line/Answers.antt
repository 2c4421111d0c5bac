use Rattle.std.proofs.Common.{rules}
use Rattle.lake_top.proofs.DeskLemmas.{answers_feed, stops_cut, stops_left}
use Rattle.lake_top.proofs.desk.Desk.end_line.Goals as goal

pub returns-in-Ok-send-clause-ok : goal.returns-in-Ok-send-clause-ok
returns-in-Ok-send-clause-ok g c =
    let taken = g.O.Sink.taken in
    answers_feed c.args.self.now c.end_text.new.self _ _ c.in-Ok.text.items (taken c.args.sink.now) (taken c.send.new.sink) c.requires.begun c.in-Ok.ensures.empty c.in-Ok.ensures.text (rw c.as_slice.ensures.value at c.in-Ok-send.ensures.ok)

pub returns-in-Ok-clause-stop : goal.returns-in-Ok-clause-stop
returns-in-Ok-clause-stop g c =
    let taken = g.O.Sink.taken in
    stops_cut c.in-Err-send.stop c.args.self.now c.end_text.new.self _ _ c.in-Ok.text.items (taken c.args.sink.now) (taken c.send.new.sink) c.in-Err-send.ensures.part.0 (search rules) c.requires.begun c.in-Ok.ensures.text (rw c.as_slice.ensures.value at c.in-Err-send.ensures.part.1)

pub returns-clause-stop : goal.returns-clause-stop
returns-clause-stop g c = stops_left c.args.self.now _ _ (g.O.Sink.taken c.args.sink.now) c.requires.begun (search rules)
