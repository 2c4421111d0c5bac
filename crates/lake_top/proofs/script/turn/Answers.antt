use Rattle.std.proofs.Common.{[], refl}
use Rattle.lake_top.proofs.DeskLemmas.{answers_none}
use Rattle.lake_top.proofs.script.turn.Goals as goal

pub returns-in-Err-clause-halt : goal.returns-in-Err-clause-halt
returns-in-Err-clause-halt g c = record {
  bytes = [];
  counts = refl;
  given = c.in-Err.ensures.bytes;
  answered = answers_none c.args.desk.now _ (g.O.Sink.taken c.args.output.now) c.requires.begun;
}
