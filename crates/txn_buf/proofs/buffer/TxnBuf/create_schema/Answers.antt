use Rattle.std.proofs.Common.{refl}
use Rattle.lake_types.specs.declared.stmt.Stmt.TheVariants as stmt
use Rattle.lake_model.specs.Plans as plan
use Rattle.lake_model.specs.declared.answer.Answer.TheVariants as answer
use Rattle.lake_model.specs.declared.change.Change.TheVariants as change
use Rattle.txn_buf.specs.Drafts.{work_of}
use Rattle.txn_buf.proofs.KeepLemmas.{does, lists, stands}
use Rattle.txn_buf.proofs.buffer.TxnBuf.create_schema.Goals as goal

pub returns-clause-done : goal.returns-clause-done
returns-clause-done g c =
    let call = c.create_schema_in-result in
    does g.F.Held.name c.args.self.now c.begin.new.self c.in-Ok.seen (change.CreateSchema c.args.name.now) call.new.own call.result c.requires.stands c.in-Ok.ensures.ready
    c.in-Ok.ensures.txn (λ w before. refl) (stmt.CreateSchema c.args.name.now) (plan.create_schema (work_of c.in-Ok.seen) c.args.name.now) answer.Done refl (λ next w. refl) (λ next. refl)
    call.ensures.planned call.ensures.own

pub returns-clause-stands : goal.returns-clause-stands
returns-clause-stands g c =
    let call = c.create_schema_in-result in
    let list = lists g.F.Held.name c.args.self.now c.begin.new.self call.new.own call.result c.requires.stands c.in-Ok.ensures.txn (stmt.CreateSchema c.args.name.now) tt c.requires.sized call.ensures.same_own
    (λ u. answer.Done) (returns-clause-done g c) in
    stands g.F.Held.name c.args.self.now c.begin.new.self c.in-Ok.seen (change.CreateSchema c.args.name.now) call.new.own call.result c.requires.stands c.in-Ok.ensures.ready
    c.in-Ok.ensures.txn (λ w before. refl) call.new.seen c.in-Ok.ensures.view c.in-Ok.ensures.taken refl call.ensures.own call.ensures.same_own call.ensures.seen call.ensures.same_seen list
