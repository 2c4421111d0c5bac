use Rattle.lake_types.specs.declared.stmt.Stmt.TheVariants as stmt
use Rattle.lake_model.specs.declared.answer.Answer.TheVariants as answer
use Rattle.txn_buf.proofs.InsertLemmas.{insert_does, insert_refuses, insert_stands}
use Rattle.txn_buf.proofs.KeepLemmas.{lists}
use Rattle.txn_buf.proofs.buffer.TxnBuf.insert.Goals as goal

pub returns-clause-done : goal.returns-clause-done
returns-clause-done g c =
    let call = c.insert_in-result in
    insert_does g.F.Held.name c.args.self.now c.begin.new.self c.in-Ok.seen c.args.table.now c.args.rows.now call.new.own call.result c.requires.stands c.in-Ok.ensures.ready
    c.in-Ok.ensures.txn c.in-Ok.ensures.taken call.ensures.done

pub returns-clause-stands : goal.returns-clause-stands
returns-clause-stands g c =
    let call = c.insert_in-result in
    let list = lists g.F.Held.name c.args.self.now c.begin.new.self call.new.own call.result c.requires.stands c.in-Ok.ensures.txn (stmt.Insert c.args.table.now c.args.rows.now) tt c.requires.sized call.ensures.same_own
    (λ n. answer.Number n) (returns-clause-done g c) in
    insert_stands g.F.Held.name c.args.self.now c.begin.new.self c.in-Ok.seen c.args.table.now c.args.rows.now call.new.own call.result c.requires.stands c.in-Ok.ensures.ready
    c.in-Ok.ensures.txn c.in-Ok.ensures.taken call.new.weight c.in-Ok.ensures.view call.ensures.done call.ensures.weight call.ensures.small call.ensures.same_own call.ensures.same_weight list

pub returns-clause-refused : goal.returns-clause-refused
returns-clause-refused g c =
    let call = c.insert_in-result in
    insert_refuses g.F.Held.name c.args.self.now c.begin.new.self c.in-Ok.seen c.args.table.now c.args.rows.now call.new.own call.result c.requires.stands c.in-Ok.ensures.ready
    c.in-Ok.ensures.txn c.in-Ok.ensures.taken call.ensures.refused
