use Rattle.std.proofs.Common.{rules, ◌≡◌}
use Rattle.lake_model.specs.Step.{only}
use Rattle.txn_buf.specs.Turns.{answer_of}
use Rattle.session.proofs.WriteLemmas.{good_done, turn_done, turn_refused}
use Rattle.session.proofs.write.write_into.Goals as goal

pub returns-in-Ok-clause-good : goal.returns-in-Ok-clause-good
returns-in-Ok-clause-good g c =
    good_done g.F.Held.name c.args.buf.now c.add.new.buf c.args.stmt.now c.requires.good c.in-Ok.answer c.add.ensures.stands c.add.ensures.rest c.in-Ok.ensures.done

pub returns-in-Ok-clause-turn : goal.returns-in-Ok-clause-turn
returns-in-Ok-clause-turn g c = λ session.
    turn_done g.F.Held.name c.args.buf.now c.add.new.buf c.args.stmt.now c.requires.good g.F.Held.size g.F.Held.bytes session c.in-Ok.answer c.only.result
    c.requires.written c.in-Ok.ensures.done c.only.ensures

pub returns-in-Err-clause-turn : goal.returns-in-Err-clause-turn
returns-in-Err-clause-turn g c = λ session.
    let said : c.only-in-Err.result ≡ only (answer_of c.in-Err.why) = search rules in
    turn_refused g.F.Held.name c.args.buf.now c.add.new.buf c.args.stmt.now c.requires.good g.F.Held.size g.F.Held.bytes session c.in-Err.why c.only-in-Err.result
    c.requires.written c.in-Err.ensures.refused c.in-Err.ensures.same said
