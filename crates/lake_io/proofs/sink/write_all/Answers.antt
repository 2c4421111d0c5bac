use Rattle.std.proofs.Common.{arith}
use Rattle.lake_io.proofs.ToldLemmas.{Takes-more, tail-range}
use Rattle.lake_io.proofs.sink.write_all.Goals as goal

-- the call took the next bytes of the piece
pub loop-at-preserved : goal.loop-at-preserved
loop-at-preserved g c =
    let taken = g.O.Sink.taken in
    let l = c.loop-at in
    let wrote = c.in_ok-at in
    record {
      within = search (arith, wrote.ensures.bound);
      bytes = Takes-more (taken c.args.sink.now) (taken l.sink) (taken c.write.new.self) l.at wrote.field-0 c.args.piece.now l.invariant.bytes (rw tail-range at wrote.ensures.bytes);
      later = omega (arith, c.write.ensures.cause.later);
    }
